-- The lines that the program prints.
use Rattle.std.specs.Prelude.{ℕ, List, [], ◌∷◌, ◌++◌, codes}
use Rattle.std.specs.Fmt.{decimal}
use Rattle.lf_config.specs.declared.fault.ConfigFault.TheVariants as config_faults
use Rattle.lf_verdict.specs.declared.answer.Outcome.{Outcome}
use Rattle.lf_verdict.specs.declared.answer.Outcome.TheVariants.{Yes, No, Refused}
use Rattle.lf_verdict.specs.declared.answer.Refusal.TheVariants as refusals
use Rattle.lf_verdict.specs.declared.answer.Verdict.{Verdict}
use Rattle.lf_logs.specs.Incomplete.{incomplete_text}
use Rattle.lf_verdict.specs.Text.{fault_text, refusal_text}
use Rattle.lf_verdict.specs.Verdict.{outcome_of}
use Rattle.run_engine.specs.declared.line.InputFault.{InputFault}
use Rattle.run_engine.specs.declared.line.InputFault.TheVariants as inputs
use Rattle.run_engine.specs.declared.line.Line.{Line}
use Rattle.run_engine.specs.declared.line.Line.TheVariants as lines

abbrev pub outcome_text : Outcome → List ℕ
outcome_text (Yes events) = codes "yes events=" ++ decimal events
outcome_text (No fault) = codes "no " ++ fault_text fault
outcome_text (Refused refusal) = codes "refused " ++ refusal_text refusal

abbrev pub verdict_text : Verdict → List ℕ
verdict_text verdict = outcome_text (outcome_of verdict)

-- why what the program was given is not judged
abbrev pub input_text : InputFault → List ℕ
input_text inputs.Usage = codes "usage"
input_text inputs.ReadConfig = codes "read config"
input_text inputs.NotToml = refusal_text (refusals.Config config_faults.NotToml)
input_text inputs.Memory = refusal_text refusals.Memory

-- what a line says
abbrev pub line_text : Line → List ℕ
line_text (lines.Concluded outcome) = outcome_text outcome.now
line_text (lines.Incomplete request) = codes "no " ++ incomplete_text request
line_text (lines.Refused fault) = codes "refused " ++ input_text fault

-- the text and one newline
abbrev pub line_of : Outcome → List ℕ
line_of outcome = outcome_text outcome ++ 10 ∷ []

-- what is written where the trace was not read
abbrev pub not_read_line : List ℕ
not_read_line = codes "refused read trace" ++ 10 ∷ []
