-- What a search for a smaller trace answers.
use Rattle.std.specs.Prelude.{◌≡◌, ◌⊎◌, ℕ, Bool, true, ◌≤◌, ◌<◌, List, [], length, Option, Some, None, Result, Ok, Err}
use Rattle.lf_rules.specs.declared.event.Record.{Record}
use Rattle.lf_rules.specs.declared.shape.Shape.{Shape}
use Rattle.lf_rules.specs.Fits.{Bytes}
use Rattle.lf_codec.specs.declared.header.Header.{Header}
use Rattle.lf_codec.specs.Trace.{IsTrace}
use Rattle.lf_verdict.specs.declared.answer.Outcome.TheVariants.{Refused}
use Rattle.lf_verdict.specs.declared.answer.Refusal.{Refusal}
use Rattle.lf_verdict.specs.declared.answer.Refusal.TheVariants.{Memory}
use Rattle.lf_verdict.specs.declared.session.conclusion.Conclusion.{Conclusion}
use Rattle.run_stream.specs.Account.{Account}
use Rattle.run_engine.specs.declared.fault.RunFault.{RunFault}
use Rattle.run_engine.specs.declared.judging.Judged.{Judged}
use Rattle.run_engine.specs.Needs.{bytes_needs}
use Rattle.run_engine.specs.Run.{IsJudged}
use Rattle.run_shrink.specs.declared.broken.RuleFault.{RuleFault}
use Rattle.run_shrink.specs.declared.shrink.Asked.{Asked}
use Rattle.run_shrink.specs.declared.shrink.Shrunk.{Shrunk}
use Rattle.run_shrink.specs.declared.shrink.Shrinking.{Shrinking}
use Rattle.run_shrink.specs.declared.shrink.Shrinking.TheVariants as shrinkings
use Rattle.run_shrink.specs.declared.wanted.Wanted.{Wanted}
use Rattle.run_shrink.specs.Broken.{HasFault, fault_in}
use Rattle.run_shrink.specs.Told.{TellOf}
use Rattle.run_shrink.specs.Wanted.{IsWanted}

-- The bytes are a trace of so many events, and have this fault, which is the one that is wanted.
pub record Breaks (shape : Shape) (first : Bool) (wanted : Wanted) (bytes : List ℕ) (fault : RuleFault) (events : ℕ) :
    Type 0 where
  pub header : Header
  pub memory : List (ℕ × Bytes)
  pub records : List Record
  pub trace : IsTrace bytes header memory records
  pub count : events ≡ length records
  pub has : HasFault first shape bytes fault
  pub is_wanted : IsWanted shape memory records fault wanted

-- In what was found for these bytes the same record breaks the same rule, which expects the same bytes of it. It has no
-- more events, and it is those bytes or has fewer. At most so many traces were judged.
pub record IsShrunk (shape : Shape) (bytes : List ℕ) (first : Bool) (most : ℕ) (shrunk : Shrunk) : Type 0 where
  pub wanted : Wanted
  pub before : Breaks shape first wanted bytes shrunk.before shrunk.events
  pub after : Breaks shape first wanted shrunk.bytes.items shrunk.fault shrunk.left
  pub few : shrunk.left ≤ shrunk.events
  pub smaller : (shrunk.bytes.items ≡ bytes) ⊎ (length shrunk.bytes.items < length bytes)
  pub checks : shrunk.checks ≤ most

-- There is a search exactly where the conclusion has a fault of the kind that is asked for. Where memory runs out in
-- it, that is the outcome.
abbrev pub IsShrinkingOf : Shape → Asked → Conclusion → Shrinking → Type 0
IsShrinkingOf shape asked c (shrinkings.Judged outcome) =
    ((outcome ≡ c.outcome) × (fault_in asked.first c.outcome c.broken ≡ None)) ⊎ (outcome ≡ Refused Memory)
IsShrinkingOf shape asked c (shrinkings.Shrunk shrunk) =
    (fault_in asked.first c.outcome c.broken ≡ Some shrunk.before) ×
    IsShrunk shape c.fed.bytes asked.first asked.most shrunk

abbrev pub IsShrinkingIn : Shape → Asked → Result Judged RunFault → Result Shrinking RunFault → Type 0
IsShrinkingIn shape asked (Ok judged) (Ok shrinking) = IsShrinkingOf shape asked judged.conclusion shrinking
IsShrinkingIn shape asked (Ok judged) (Err fault) = ⊥
IsShrinkingIn shape asked (Err fault) answer = answer ≡ Err fault

-- The trace was read and judged for the shape that was found, and searched. Where one was refused, nothing was read.
abbrev pub IsShrinkingOn : Account → Account → Asked → ℕ → Result Shape Refusal → Result Shrinking RunFault → Type 0
IsShrinkingOn old new asked turns (Ok shape) answer = (came_to : Result Judged RunFault)
    × IsJudged old new (bytes_needs true) shape turns came_to × IsShrinkingIn shape asked came_to answer
IsShrinkingOn old new asked turns (Err refusal) answer = (new ≡ old) ×
    (answer ≡ Ok (shrinkings.Judged (Refused refusal)))

-- An observer is told of these: of each trace that was judged, or of none, unless memory ran out.
abbrev pub AreToldOf : List (ℕ × ℕ) → Shrinking → Type 0
AreToldOf calls (shrinkings.Judged outcome) = (calls ≡ []) ⊎ (outcome ≡ Refused Memory)
AreToldOf calls (shrinkings.Shrunk shrunk) = TellOf shrunk.events calls shrunk.checks shrunk.left

abbrev pub AreToldIn : List (ℕ × ℕ) → Result Shrinking RunFault → Type 0
AreToldIn calls (Ok shrinking) = AreToldOf calls shrinking
AreToldIn calls (Err fault) = calls ≡ []
