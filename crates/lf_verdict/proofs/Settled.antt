-- What the parts say of a trace whose records have all come.
use Rattle.std.proofs.Common.{◌≡◌, ℕ, zero, suc, ◌+◌, ◌*◌, ◌^◌, ◌<◌, ◌≤◌, Bool, true, false, cond, eqb, eqb-true}
use Rattle.std.proofs.Common.{List, [], ◌∷◌, map, length, get_or, refl, sym}
use Rattle.std.proofs.Common.{ap, ◌∙◌, subst, inl, inr, ⊎_elim, arith}
use Rattle.std.specs.Prelude.{◌==◌}
use Rattle.std.specs.List.{AllByRecursion, All}
use Rattle.std.specs.List.Sorted.{IsPermutation}
use Rattle.std.proofs.lemmas.Bool.{cases_lt, cases_eq}
use Rattle.std.proofs.lemmas.List.{length-map, get_or-map}
use Rattle.std.proofs.lemmas.List.FromFn.{length-map-range_with_len}
use Rattle.std.proofs.lemmas.List.Sums.{sum_by-le}
use Rattle.std.proofs.Math.Nat.{mul-le-mul_right}
use Rattle.std.proofs.lemmas.List.Sorted.{IsPermutation-map, IsPermutation-trans, length_permutation}
use Rattle.std.proofs.lemmas.List.Sorted.{sum_by-IsPermutation}
use Rattle.lf_rules.specs.declared.shape.Shape.{Shape}
use Rattle.lf_rules.specs.declared.event.Record.{Record}
use Rattle.lf_rules.specs.declared.rule.Rule.{Rule}
use Rattle.lf_rules.specs.declared.outcome.Outcome.{Outcome}
use Rattle.lf_rules.specs.declared.outcome.Outcome.TheVariants as outcomes
use Rattle.lf_rules.specs.Address.{FlatMemory}
use Rattle.lf_rules.specs.Fits.{Fits}
use Rattle.lf_rules.specs.Order.{log_at, Takes}
use Rattle.lf_rules.specs.Ring.{entry_of, skeletons_of}
use Rattle.lf_join.specs.Join.{BanksAreWhole}
use Rattle.lf_rules.specs.Outcomes.{IsPortOutcome, IsBankOutcome}
use Rattle.lf_rules.specs.Numbers.{all_records, numbers_of, bank_numbers, times, IsMissing, IsFineBelow, IsWhole}
use Rattle.lf_rules.specs.Run.{of_log, of_bank, Interleaves}
use Rattle.lf_rules.proofs.Permuted.{interleaving_permutes_bank}
use Rattle.lf_logs.specs.declared.order.NumberFault.{NumberFault}
use Rattle.lf_logs.specs.declared.order.NumberFault.TheVariants as numbers
use Rattle.lf_logs.specs.Places.{IsNumberFault}
use Rattle.lf_logs.specs.Tags.{PortView}
use Rattle.lf_logs.proofs.GivenOut.{given_numbers, given_all, given_whole}
use Rattle.lf_replay.specs.Bytes.{bank_part}
use Rattle.lf_replay.specs.Step.{StepView, IsBankOrder}
use Rattle.lf_replay.proofs.Runs.{outcome_same}
use Rattle.lf_verdict.specs.declared.session.standing.port_judge.PortJudge.{PortJudge}
use Rattle.lf_verdict.specs.declared.session.standing.bank_judge.BankJudge.{BankJudge}
use Rattle.lf_verdict.specs.declared.session.standing.Standing.{Standing}
use Rattle.lf_verdict.specs.declared.answer.Fault.TheVariants as faults
use Rattle.lf_verdict.specs.declared.early_end.Ending.{Ending}
use Rattle.lf_verdict.specs.declared.early_end.Ending.TheVariants as endings
use Rattle.lf_verdict.specs.inner.Jobs.{IsOrderEnding}
use Rattle.lf_verdict.specs.Parts.{HasWholeNumbers, PartsRun}
use Rattle.lf_verdict.specs.inner.Ending.{IsEnding, AreWholeBelow, NoneBroken, IsBroken, outcome_at}
use Rattle.lf_verdict.specs.Standing.{IsPortAt, IsBankAt, IsPortJudged, IsBankSettled, StandsAfterAll}
use Rattle.lf_verdict.specs.inner.Coming.{IsShort, logs_so_far}
use Rattle.lf_verdict.proofs.Answered.{log_below}
use Rattle.lf_verdict.proofs.Outcomes.{Judged}
use Rattle.lf_verdict.proofs.Skeletons.{banks_whole, all_whole, order_len}
use Rattle.lf_verdict.proofs.Standings.{logs_len, skeletons_count}
use Rattle.lf_verdict.proofs.Traces.{log_of_logs, no_log, logs_fit}

-- ---- the records are an interleaving of their logs

none_of_log : (shape : Shape) (log : ℕ) (rs : List Record) → AllByRecursion (Fits shape) rs →
    shape.ports + shape.banks ≤ log → of_log log rs ≡ []
none_of_log shape log [] fit past = refl
none_of_log shape log (r ∷ rs) fit past = go (r.log == log) refl (none_of_log shape log rs fit.1 past)
  where
    go : (b : Bool) → (r.log == log) ≡ b → of_log log rs ≡ [] → cond b (r ∷ of_log log rs) (of_log log rs) ≡ []
    go true e rest = absurd (omega (
      arith,
      eqb-true r.log log e,
      log_below shape.ports r.bank r.number r.log
          shape.banks r.event fit.0.bank fit.0.log,
    ))
    go false e rest = rest

pub interleaves : (shape : Shape) (rs : List Record) → AllByRecursion (Fits shape) rs →
    Interleaves (logs_so_far shape rs) rs
interleaves shape rs fit = record {
  each = λ log. elim (cases_lt log (shape.ports + shape.banks)) [
    | inl lt ↦ sym (log_of_logs (shape.ports + shape.banks) log rs lt)
    | inr le ↦ none_of_log shape log rs fit le ∙ sym (no_log (shape.ports + shape.banks) log rs le)
  ];
}

-- the bank's records, log after log, are those in the order in which they came
pub bank_moved : (shape : Shape) (rs : List Record) (bank : ℕ) → AllByRecursion (Fits shape) rs →
    IsPermutation (of_bank bank rs) (of_bank bank (all_records (logs_so_far shape rs)))
bank_moved shape rs bank fit = interleaving_permutes_bank (logs_so_far shape rs) rs (interleaves shape rs fit) bank

-- ---- numbers do not depend on the order of the records

module _ (xs ys : List Record) (moved : IsPermutation xs ys) where
  times_moved : (k : ℕ) → times k (numbers_of xs) ≡ times k (numbers_of ys)
  times_moved k = sym (sum_by-IsPermutation (λ n. cond (eqb n k) 1 0) (numbers_of xs) (numbers_of ys)
      (IsPermutation-map (λ (r : Record). r.number) xs ys moved))

  pub whole_moved : IsWhole (numbers_of xs) → IsWhole (numbers_of ys)
  whole_moved whole k h =
      let same = length_permutation (numbers_of xs) (numbers_of ys)
      (IsPermutation-map (λ (r : Record). r.number) xs ys moved) in
      sym (times_moved k) ∙ whole k (omega (arith, same))

  missing_moved : (k : ℕ) → IsMissing (numbers_of xs) k → IsMissing (numbers_of ys) k
  missing_moved k missing = (
    sym (times_moved k) ∙ missing.0,
    (missing.1.0, missing.1.1, omega (arith, times_moved missing.1.0, missing.1.2)),
  )

  missing_back : (k : ℕ) → IsMissing (numbers_of ys) k → IsMissing (numbers_of xs) k
  missing_back k missing = (
    times_moved k ∙ missing.0,
    (
      missing.1.0,
      missing.1.1,
      omega
          (arith, times_moved missing.1.0, missing.1.2),
    ),
  )

  fine_moved : (k : ℕ) → IsFineBelow (numbers_of xs) k → IsFineBelow (numbers_of ys) k
  fine_moved k fine j h = (
    λ missing. (fine j h).0 (missing_back j missing),
    λ double. (fine j h).1
        (omega (arith, times_moved j, double)),
  )

  pub fault_moved : (fault : NumberFault) → IsNumberFault (numbers_of xs) fault → IsNumberFault (numbers_of ys) fault
  fault_moved (numbers.Missing k) is = (missing_moved k is.0, fine_moved k is.1)
  fault_moved (numbers.Double k) is = (omega (arith, times_moved k, is.0), fine_moved k is.1)
  fault_moved numbers.NoMemory is = tt

-- ---- outcomes of judges

map_at : {X : Type 0} (f : X → Outcome) (xs : List X) (i : ℕ) → i < length xs → (x : X) ×
    (((d : X) → get_or xs i d ≡ x) × (outcome_at (map f xs) i ≡ f x))
map_at f [] i h = absurd (omega arith)
map_at f (x ∷ xs) zero h = (x, (λ d. refl, refl))
map_at f (x ∷ xs) (suc i) h = map_at f xs i (omega arith)

port_outcome : (shape : Shape) (rs : List Record) (step : PortView) (outcome : Outcome) →
    IsPortAt shape rs step outcome → IsPortOutcome shape rs outcome × (outcome ≡ outcomes.NoMemory → ⊥)
port_outcome shape rs step outcomes.Passed at = (at.is_run, λ e. cc)
port_outcome shape rs step (outcomes.Broken n rule) at = (at, λ e. cc)
port_outcome shape rs step outcomes.NoMemory at = absurd at

pub bank_outcome : (shape : Shape) (memory : FlatMemory) (bank : ℕ) (rs : List Record) (step : StepView)
    (outcome : Outcome) → IsBankAt shape memory bank rs step outcome
    → IsBankOutcome shape memory rs outcome × (outcome ≡ outcomes.NoMemory → ⊥)
bank_outcome shape memory bank rs step outcomes.Passed at = (at.state.is_run, λ e. cc)
bank_outcome shape memory bank rs step (outcomes.Broken n rule) at = (at, λ e. cc)
bank_outcome shape memory bank rs step outcomes.NoMemory at = absurd at

-- ---- the parts

module _ (shape : Shape) (memory : FlatMemory) (records : List Record) (s : Standing)
    (stands : StandsAfterAll shape memory records s) where
  -- the bank at a place, whatever stands past the end
  pub bank_here : (bank : ℕ) → bank < shape.banks → (judge : BankJudge) ×
      ((outcome_at (map (λ (j : BankJudge). j.outcome) s.banks.items) bank ≡ judge.outcome)
      × IsBankSettled shape (bank_part shape bank memory) bank (of_bank bank records) (log_at stands.given bank) judge)
  bank_here bank lt =
      let at = map_at (λ (j : BankJudge). j.outcome) s.banks.items bank (omega (arith, stands.count_banks)) in (
        at.0,
        (
          at.1.1,
          subst (λ (j : BankJudge). IsBankSettled shape (bank_part shape bank memory) bank
              (of_bank bank records) (log_at stands.given bank) j) (at.1.0 at.0) (stands.banks bank at.0 lt),
        ),
      )

  pub port_here : (port : ℕ) → port < shape.ports → (judge : PortJudge)
      × ((outcome_at (map (λ (j : PortJudge). j.outcome) s.entries.ports.items) port ≡ judge.outcome) ×
      IsPortJudged shape port (of_log port records) judge)
  port_here port lt =
      let at = map_at (λ (j : PortJudge). j.outcome) s.entries.ports.items port
      (omega (arith, stands.entered.count_ports)) in (
        at.0,
        (
          at.1.1,
          subst (λ (j : PortJudge). IsPortJudged shape port (of_log port records) j) (at.1.0 at.0)
              (stands.entered.ports port at.0 lt),
        ),
      )

  -- what the loop over the banks reads
  pub bank_read : (bank : ℕ) (items : List BankJudge) (judge : BankJudge) → items ≡ s.banks.items →
      judge ≡ get_or items bank judge → bank < shape.banks
      → IsBankSettled shape (bank_part shape bank memory) bank (of_bank bank records) (log_at stands.given bank) judge
  bank_read bank items judge same read lt =
      subst (λ (j : BankJudge). IsBankSettled shape (bank_part shape bank memory) bank (of_bank bank records)
      (log_at stands.given bank) j)
      (sym (read ∙ ap (λ (js : List BankJudge). get_or js bank judge) same)) (stands.banks bank judge lt)

  pub bank_whole : (bank : ℕ) → IsWhole (numbers_of (of_bank bank records)) →
      HasWholeNumbers (logs_so_far shape records) bank
  bank_whole bank whole = whole_moved (of_bank bank records) (of_bank bank (all_records (logs_so_far shape records)))
      (bank_moved shape records bank stands.fit) whole

  pub bank_fault : (bank : ℕ) (fault : NumberFault) → IsNumberFault (numbers_of (of_bank bank records)) fault →
      IsNumberFault (bank_numbers (logs_so_far shape records) bank) fault
  bank_fault bank fault is = fault_moved (of_bank bank records)
      (of_bank bank (all_records (logs_so_far shape records))) (bank_moved shape records bank stands.fit) fault is

  whole_back : (bank : ℕ) → HasWholeNumbers (logs_so_far shape records) bank →
      IsWhole (numbers_of (of_bank bank records))
  whole_back bank whole k h =
      let xs = of_bank bank records in
      let ys = of_bank bank (all_records (logs_so_far shape records)) in
      let moved = bank_moved shape records bank stands.fit in
      let same = length_permutation (numbers_of xs) (numbers_of ys)
      (IsPermutation-map (λ (r : Record). r.number) xs ys moved) in
      times_moved xs ys moved k ∙ whole k (omega (arith, same))

  pub bank_order : (bank : ℕ) → bank < shape.banks → IsBankOrder shape bank (log_at stands.given bank)
  bank_order bank lt =
      let here = bank_here bank lt in
      let judged = here.1.1.bank_judged in
      record {
        fit = given_all here.0.order (of_bank bank records) (log_at stands.given bank) judged.ordered (Fits shape)
            judged.fit;
        named = given_all here.0.order (of_bank bank records) (log_at stands.given bank) judged.ordered
            (λ r. r.bank ≡ bank) judged.named;
        numbered = given_numbers here.0.order (of_bank bank records) (log_at stands.given bank) judged.ordered;
      }

  pub judged_parts : AreWholeBelow (logs_so_far shape records) shape.banks
      → Judged shape memory (logs_so_far shape records) stands.given
      (map (λ (j : PortJudge). j.outcome) s.entries.ports.items)
      (map (λ (j : BankJudge). j.outcome) s.banks.items)
  judged_parts whole =
      let long_ports = length-map s.entries.ports.items (λ (j : PortJudge). j.outcome) in
      let long_banks = length-map s.banks.items (λ (j : BankJudge). j.outcome) in
      record {
        whole = whole;
        numbered = record {
          each_bank = stands.count_given;
          numbered = λ bank lt.
              let here = bank_here bank lt in
              let judged = here.1.1.bank_judged in
              let gave = log_at stands.given bank in
              let came = of_bank bank records in
              record {
                numbers = given_numbers here.0.order came gave judged.ordered;
                same = IsPermutation-trans gave came (of_bank bank (all_records (logs_so_far shape records)))
                    (given_whole here.0.order came gave judged.ordered (whole_back bank (whole bank lt))
                    here.1.1.drained)
                    (bank_moved shape records bank stands.fit);
              };
        };
        of_ports = record {
          count = long_ports ∙ stands.entered.count_ports;
          each = λ port lt.
              let here = port_here port lt in
              subst (λ (log : List Record). IsPortOutcome shape log
              (outcome_at (map (λ (j : PortJudge). j.outcome) s.entries.ports.items) port))
              (sym (log_of_logs (shape.ports + shape.banks) port records (omega arith)))
              (subst (IsPortOutcome shape (of_log port records)) (sym here.1.0)
              (port_outcome shape (of_log port records) here.0.step here.0.outcome here.1.1.judged).0);
        };
        of_banks = record {
          count = long_banks ∙ stands.count_banks ∙ sym stands.count_given;
          each = λ bank h.
              let lt : bank < shape.banks = omega (arith, stands.count_given) in
              let here = bank_here bank lt in
              let gave = log_at stands.given bank in
              subst (IsBankOutcome shape memory gave) (sym here.1.0)
              (outcome_same shape bank memory gave (bank_order bank lt) here.0.outcome
              (bank_outcome shape (bank_part shape bank memory) bank gave here.0.step here.0.outcome
              here.1.1.bank_judged.judged).0);
        };
        ports_had = λ port h.
            let here = port_here port (omega (arith, long_ports, stands.entered.count_ports)) in
            λ e. (port_outcome shape (of_log port records) here.0.step here.0.outcome here.1.1.judged).1
            (sym here.1.0 ∙ e);
        banks_had = λ bank h.
            let lt : bank < shape.banks = omega (arith, long_banks, stands.count_banks) in
            let here = bank_here bank lt in
            λ e. (bank_outcome shape (bank_part shape bank memory) bank (log_at stands.given bank) here.0.step
            here.0.outcome here.1.1.bank_judged.judged).1 (sym here.1.0 ∙ e);
      }

-- no judge below the next place is broken
pub none_broken_more : {X : Type 0} (f : X → Outcome) (xs : List X) (at : ℕ) (x : X) → at < length xs →
    x ≡ get_or xs at x → ((n : ℕ) (rule : Rule) → f x ≡ outcomes.Broken n rule → ⊥)
    → NoneBroken (map f xs) at → NoneBroken (map f xs) (at + 1)
none_broken_more f xs at x inside read fine before part lt = ⊎_elim
    (λ (this : part ≡ at).
    let here = map_at f xs at inside in
    let same : outcome_at (map f xs) part ≡ f x = ap (outcome_at (map f xs)) this ∙ here.1.1 ∙ ap f (sym (here.1.0 x))
    ∙ ap f (sym read) in
    λ broken. unbroken (f x) fine (subst IsBroken same broken))
    (λ (other : part ≡ at → ⊥). before part (omega arith))
    (cases_eq part at)
  where
    unbroken : (o : Outcome) → ((n : ℕ) (rule : Rule) → o ≡ outcomes.Broken n rule → ⊥) → IsBroken o → ⊥
    unbroken outcomes.Passed fine broken = broken
    unbroken (outcomes.Broken n rule) fine broken = fine n rule refl
    unbroken outcomes.NoMemory fine broken = broken

-- ---- the skeletons

-- what ends the order ends the check
pub order_ending : (shape : Shape) (memory : FlatMemory) (logs : List (List Record)) (ending : Ending) →
    PartsRun shape memory logs
    → IsOrderEnding (skeletons_of logs) ending → IsEnding shape memory logs ending
order_ending shape memory logs (endings.Fault (faults.Cycle ring)) parts is =
    record { parts = parts; stuck = is.0; waits = is.1 }
order_ending shape memory logs endings.NoMemory parts is = tt
order_ending shape memory logs _ parts is = absurd is

module _ (shape : Shape) (memory : FlatMemory) (records : List Record) (s : Standing)
    (stands : StandsAfterAll shape memory records s) (short : IsShort shape records) where
  pub few_logs : length s.entries.logs.items ≤ 32
  few_logs = omega (
    arith,
    logs_len (skeletons_of (logs_so_far shape records)) s.entries stands.entered.kept,
    skeletons_count (shape.ports + shape.banks) records,
    stands.entered.few,
  )

  pub skeletons_short : All (λ (entries : List (ℕ × ℕ)). length entries ≤ 2 ^ 24)
      (skeletons_of (logs_so_far shape records))
  skeletons_short k d lt =
      let logs = logs_so_far shape records in
      let within : k < length logs = omega (arith, length-map logs (map entry_of)) in
      let count = length-map-range_with_len (λ log. of_log log records) 0 (shape.ports + shape.banks) in
      let here : get_or (skeletons_of logs) k d ≡ map entry_of (of_log k records) =
      get_or-map (map entry_of) logs k [] d within ∙ ap (map entry_of)
      (log_of_logs (shape.ports + shape.banks) k records (omega arith)) in
      omega (arith, ap length here, length-map (of_log k records) entry_of, short.short k)

  pub skeletons_whole : AreWholeBelow (logs_so_far shape records) shape.banks →
      BanksAreWhole (skeletons_of (logs_so_far shape records))
  skeletons_whole below =
      banks_whole (logs_so_far shape records) (all_whole shape (logs_so_far shape records)
      (logs_fit shape (shape.ports + shape.banks) records stands.fit) below)

  pub order_fits : (order : List ℕ) (entries : List (ℕ × ℕ)) →
      Takes (skeletons_of (logs_so_far shape records)) order entries → length order ≤ 32 * 2 ^ 24
  order_fits order entries taken =
      let skeletons = skeletons_of (logs_so_far shape records) in
      let count = length-map-range_with_len (λ log. of_log log records) 0 (shape.ports + shape.banks) in
      let len : length skeletons ≤ 32 = omega (
        arith,
        length-map (logs_so_far shape records) (map entry_of),
        count,
        short.in_range.ports.1,
        short.in_range.banks.1,
      ) in
      let sum = sum_by-le length (2 ^ 24) skeletons skeletons_short in
      let more : length skeletons * 2 ^ 24 ≤ 32 * 2 ^ 24 = mul-le-mul_right (2 ^ 24) len in
      omega (arith, order_len skeletons order entries taken, sum, more)
