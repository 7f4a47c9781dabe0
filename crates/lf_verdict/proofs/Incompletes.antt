-- Which tags of the ports wait where a session ends.
use Rattle.std.proofs.Common.{◌≡◌, ℕ, ◌+◌, ◌<◌, List, get_or, Option, Some, None, refl, sym, subst, ⊎_elim}
use Rattle.std.proofs.Common.{arith}
use Rattle.std.proofs.lemmas.Bool.{cases_eq}
use Rattle.lf_rules.specs.declared.shape.Shape.{Shape}
use Rattle.lf_rules.specs.declared.event.Record.{Record}
use Rattle.lf_rules.specs.declared.outcome.Outcome.{Outcome}
use Rattle.lf_rules.specs.declared.outcome.Outcome.TheVariants as outcomes
use Rattle.lf_rules.specs.Address.{FlatMemory}
use Rattle.lf_rules.specs.Order.{log_at}
use Rattle.lf_rules.specs.Outcomes.{first_local}
use Rattle.lf_rules.specs.Run.{of_log, IsPortRun}
use Rattle.lf_rules.specs.Table.{OfPort}
use Rattle.lf_logs.specs.Incomplete.{IsLowestWaiting, AreComplete}
use Rattle.lf_logs.specs.Tags.{PortView, PortStandsAfter}
use Rattle.lf_verdict.specs.declared.session.standing.port_judge.PortJudge.{PortJudge}
use Rattle.lf_verdict.specs.declared.session.standing.Standing.{Standing}
use Rattle.lf_verdict.specs.Parts.{PartsRun}
use Rattle.lf_verdict.specs.Standing.{IsPortAt, StandsAfterAll}
use Rattle.lf_verdict.specs.inner.Coming.{logs_so_far}
use Rattle.lf_verdict.proofs.Breaks.{no_break}
use Rattle.lf_verdict.proofs.Traces.{log_of_logs}

-- A port that runs has no fault, so its step stands where its log leads.
pub port_stands : (shape : Shape) (memory : FlatMemory) (rs : List Record) (step : PortView) (outcome : Outcome) →
    IsPortRun shape memory rs → IsPortAt shape rs step outcome
    → PortStandsAfter step shape rs
port_stands shape memory rs step outcomes.Passed runs at = at
port_stands shape memory rs step (outcomes.Broken n rule) runs at =
    absurd (no_break OfPort shape (first_local memory) rs n rule (at memory) runs)
port_stands shape memory rs step outcomes.NoMemory runs at = absurd at

module _ (shape : Shape) (memory : FlatMemory) (records : List Record) (s : Standing)
    (stands : StandsAfterAll shape memory records s) (parts : PartsRun shape memory (logs_so_far shape records)) where
  -- What the step of a port says of any records that it took, it says of the port's log.
  pub waiting_at : (port : ℕ) (judge : PortJudge) (found : Option ℕ) →
      judge ≡ get_or s.entries.ports.items port judge → port < shape.ports
      → ((shape : Shape) (rs : List Record) → PortStandsAfter judge.step shape rs → IsLowestWaiting rs found)
      → IsLowestWaiting (log_at (logs_so_far shape records) port) found
  waiting_at port judge found read lt says =
      let here = stands.entered.ports port judge lt in
      let log = log_of_logs (shape.ports + shape.banks) port records (omega arith) in
      let at = subst (λ (j : PortJudge). IsPortAt shape (of_log port records) j.step j.outcome) (sym read) here.judged
      in
      subst (λ (rs : List Record). IsLowestWaiting rs found) (sym log)
      (says shape (of_log port records)
      (port_stands shape memory (of_log port records) judge.step judge.outcome
      (subst (IsPortRun shape memory) log (parts.ports port lt)) at))

  -- No port below the next one has a tag that waits.
  pub complete_more : (port : ℕ) (found : Option ℕ) → IsLowestWaiting (log_at (logs_so_far shape records) port) found
      → ((tag : ℕ) → found ≡ Some tag → ⊥) → AreComplete port (logs_so_far shape records)
      → AreComplete (port + 1) (logs_so_far shape records)
  complete_more port (Some tag) here never below p lt = absurd (never tag refl)
  complete_more port None here never below p lt = ⊎_elim
      (λ (this : p ≡ port).
      subst (λ (q : ℕ). IsLowestWaiting (log_at (logs_so_far shape records) q) None) (sym this) here)
      (λ (other : p ≡ port → ⊥). below p (omega (arith, other, lt)))
      (cases_eq p port)
