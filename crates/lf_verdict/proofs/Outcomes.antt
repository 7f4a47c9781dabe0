-- Outcomes, one for each port or each bank.
use Rattle.std.proofs.Common.{◌≡◌, ℕ, ◌+◌, ◌<◌, List, [], length, map, take, drop, refl, sym, ◌∙◌, ap, subst, arith}
use Rattle.std.specs.List.{range_with_len}
use Rattle.std.proofs.lemmas.List.{get_or-take, get_or-drop, length-take-le, length-drop}
use Rattle.std.proofs.lemmas.List.FromFn.{length-map-range_with_len, get_or-map-range_with_len}
use Rattle.lf_rules.specs.declared.shape.Shape.{Shape}
use Rattle.lf_rules.specs.declared.event.Record.{Record}
use Rattle.lf_rules.specs.declared.outcome.Outcome.{Outcome}
use Rattle.lf_rules.specs.declared.outcome.Outcome.TheVariants as outcomes
use Rattle.lf_rules.specs.Address.{FlatMemory, flat_memory}
use Rattle.lf_rules.specs.Order.{log_at}
use Rattle.lf_rules.specs.Outcomes.{IsPortOutcome, IsBankOutcome, IsOutcomeOf, first_local}
use Rattle.lf_rules.specs.Run.{IsRunOf}
use Rattle.lf_rules.specs.Table.{Side, OfPort, OfBank}
use Rattle.lf_rules.specs.Numbers.{IsNumbered}
use Rattle.lf_rules.specs.Lists.{lists_of}
use Rattle.lf_logs.specs.Lists.{AreNumbered}
use Rattle.lf_pool.specs.declared.job.Jobs.{Jobs}
use Rattle.lf_pool.specs.Job.{AreJobs, AreJobOutcomes, records_of}
use Rattle.lf_verdict.specs.declared.broken_part.BrokenPart.{BrokenPart}
use Rattle.lf_verdict.specs.inner.Jobs.{NoneRanOut}
use Rattle.lf_verdict.specs.Parts.{PartsRun, PortRuns, BankRuns, IsPortFault, IsBankFault}
use Rattle.lf_verdict.specs.inner.Ending.{AreWholeBelow, NoneBroken, IsFirstBroken, IsBroken, outcome_at}

-- so many outcomes, each of its part
pub record AreOutcomes (IsOutcomeAt : ℕ → Outcome → Type 0) (parts : ℕ) (all : List Outcome) : Type 0 where
  pub count : length all ≡ parts
  pub each : (part : ℕ) → part < parts → IsOutcomeAt part (outcome_at all part)

-- ---- what the outcomes say

runs_of_outcome : (side : Side) (shape : Shape) (memory : FlatMemory) (rs : List Record) (o : Outcome) →
    ¬ IsBroken o → ¬ (o ≡ outcomes.NoMemory) → IsOutcomeOf side shape memory rs o
    → IsRunOf side shape (first_local memory) rs
runs_of_outcome side shape memory rs outcomes.Passed whole has is = is
runs_of_outcome side shape memory rs (outcomes.Broken n rule) whole has is = absurd (whole tt)
runs_of_outcome side shape memory rs outcomes.NoMemory whole has is = absurd (has refl)

-- the outcomes of the ports and banks of some logs, of which none ran out of memory
pub record Judged (shape : Shape) (memory : FlatMemory) (logs lists : List (List Record))
    (ports banks : List Outcome) : Type 0 where
  pub whole : AreWholeBelow logs shape.banks
  pub numbered : AreNumbered logs shape.banks lists
  pub of_ports : AreOutcomes (λ port. IsPortOutcome shape (log_at logs port)) shape.ports ports
  pub of_banks : AreOutcomes (λ bank. IsBankOutcome shape memory (log_at lists bank)) (length lists) banks
  pub ports_had : NoneRanOut ports (length ports)
  pub banks_had : NoneRanOut banks (length banks)

module _ (shape : Shape) (memory : FlatMemory) (logs lists : List (List Record)) (ports banks : List Outcome)
    (j : Judged shape memory logs lists ports banks) where
  port_runs : (port : ℕ) → port < shape.ports → ¬ IsBroken (outcome_at ports port) → PortRuns shape memory logs port
  port_runs port lt fine =
      runs_of_outcome OfPort shape memory (log_at logs port) (outcome_at ports port) fine
      (j.ports_had port (omega (arith, j.of_ports.count))) (j.of_ports.each port lt memory)

  bank_runs : (bank : ℕ) → bank < shape.banks → ¬ IsBroken (outcome_at banks bank) → BankRuns shape memory logs bank
  bank_runs bank lt fine = record {
    records = log_at lists bank;
    numbered = j.numbered.numbered bank lt;
    run = runs_of_outcome OfBank shape memory (log_at lists bank) (outcome_at banks bank) fine
        (j.banks_had bank (omega (arith, j.of_banks.count, j.numbered.each_bank)))
        (j.of_banks.each bank (omega (arith, j.numbered.each_bank)));
  }

  pub port_fault : (broken : BrokenPart) → IsFirstBroken ports broken →
      IsPortFault shape memory logs broken.part broken.at broken.rule
  port_fault broken first = record {
    numbers = j.whole;
    is_port = omega (arith, first.within, j.of_ports.count);
    ports_before = λ p lt. port_runs p (omega (arith, first.within, j.of_ports.count)) (first.before p lt);
    breaks = subst (IsOutcomeOf OfPort shape memory (log_at logs broken.part)) first.is
        (j.of_ports.each broken.part (omega (arith, first.within, j.of_ports.count)) memory);
  }

  pub bank_fault : NoneBroken ports (length ports) → (broken : BrokenPart) → IsFirstBroken banks broken →
      IsBankFault shape memory logs broken.part broken.at broken.rule
  bank_fault fine broken first = record {
    numbers = j.whole;
    ports = λ p lt. port_runs p lt (fine p (omega (arith, j.of_ports.count)));
    is_bank = omega (arith, first.within, j.of_banks.count, j.numbered.each_bank);
    banks_before = λ b lt. bank_runs b (omega (arith, first.within, j.of_banks.count, j.numbered.each_bank))
        (first.before b lt);
    records = log_at lists broken.part;
    numbered = j.numbered.numbered broken.part (omega (arith, first.within, j.of_banks.count, j.numbered.each_bank));
    breaks = subst (IsOutcomeOf OfBank shape memory (log_at lists broken.part)) first.is
        (j.of_banks.each broken.part (omega (arith, first.within, j.of_banks.count)));
  }

  pub parts_run : NoneBroken ports (length ports) → NoneBroken banks (length banks) → PartsRun shape memory logs
  parts_run ports_fine banks_fine = record {
    numbers = j.whole;
    ports = λ p lt. port_runs p lt (ports_fine p (omega (arith, j.of_ports.count)));
    banks = λ b lt. bank_runs b lt (banks_fine b (omega (arith, j.of_banks.count, j.numbered.each_bank)));
  }

-- ---- the outcomes of all jobs

-- the records of each bank
abbrev lists_for : Jobs → List (List Record)
lists_for jobs = map (records_of jobs) (range_with_len 0 jobs.shape.banks)

list_for : (jobs : Jobs) (bank : ℕ) → bank < jobs.shape.banks → log_at (lists_for jobs) bank ≡ records_of jobs bank
list_for jobs bank lt = get_or-map-range_with_len (records_of jobs) 0 jobs.shape.banks bank bank [] lt (omega arith)

pub judged : (jobs : Jobs) (all ports banks : List Outcome) → AreJobs jobs →
    AreWholeBelow (lists_of jobs.logs) jobs.shape.banks → AreJobOutcomes jobs all → NoneRanOut all (length all)
    → ports ≡ take jobs.shape.ports all → banks ≡ drop jobs.shape.ports all
    → Judged jobs.shape (flat_memory jobs.memory.items) (lists_of jobs.logs) (lists_for jobs) ports banks
judged jobs all ports banks ready whole are had is_ports is_banks =
    let n = jobs.shape.ports in
    let count = are.count in
    let long : length (lists_for jobs) ≡ jobs.shape.banks =
    length-map-range_with_len (records_of jobs) 0 jobs.shape.banks in
    let many : length ports ≡ n = ap length is_ports ∙ length-take-le n all (omega arith) in
    let few : length banks ≡ jobs.shape.banks = ap length is_banks ∙ (length-drop n all ∙ omega arith) in
    let port_at : (port : ℕ) → port < n → outcome_at ports port ≡ outcome_at all port =
    λ port lt. ap (λ (l : List Outcome). outcome_at l port) is_ports
    ∙ get_or-take n all port outcomes.NoMemory lt in
    let bank_at : (bank : ℕ) → outcome_at banks bank ≡ outcome_at all (n + bank) =
    λ bank. ap (λ (l : List Outcome). outcome_at l bank) is_banks ∙ get_or-drop n all bank outcomes.NoMemory in
    record {
      whole = whole;
      numbered = record {
        each_bank = long;
        numbered = λ bank lt. subst (IsNumbered (lists_of jobs.logs) bank) (sym (list_for jobs bank lt))
            (ready.ordered bank lt).numbered;
      };
      of_ports = record {
        count = many;
        each = λ port lt. subst (IsPortOutcome jobs.shape (log_at (lists_of jobs.logs) port)) (sym (port_at port lt))
            ((are.each port (omega arith)).port lt);
      };
      of_banks = record {
        count = few ∙ sym long;
        each = λ bank lt.
            let below : bank < jobs.shape.banks = omega arith in
            subst (λ (z : List Record × Outcome). IsBankOutcome jobs.shape (flat_memory jobs.memory.items) z.0 z.1)
            (λ i. (sym (list_for jobs bank below) i, sym (bank_at bank) i))
            ((are.each (n + bank) (omega arith)).bank bank refl);
      };
      ports_had = λ port lt e. had port (omega arith) (sym (port_at port (omega arith)) ∙ e);
      banks_had = λ bank lt e. had (n + bank) (omega arith) (sym (bank_at bank) ∙ e);
    }
