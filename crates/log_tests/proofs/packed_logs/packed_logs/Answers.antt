use Rattle.std.proofs.Common.{ℕ, ◌≤◌, ◌^◌, ◌==◌, List, length, get_or, ap, ◌∙◌, subst, sym, arith}
use Rattle.std.specs.List.{All, filter}
use Rattle.std.proofs.lemmas.List.Sums.{length-filter, count_by-le-length}
use Rattle.lf_rules.specs.declared.event.Record.{Record}
use Rattle.lf_rules.specs.Run.{of_log}
use Rattle.lf_logs.specs.Lists.{logs_of}
use Rattle.lf_logs.proofs.Splitting.{length-parts_of, get_or-parts_of}
use Rattle.log_tests.proofs.packed_logs.packed_logs.Goals as goal

-- no log has more records than there are
short : (count n : ℕ) (rs : List Record) → length rs ≤ n → All (λ log. length log ≤ n) (logs_of count rs)
short count n rs few k d h =
    let here = get_or-parts_of (λ (r : Record). r.log) count rs k d
    (omega (arith, length-parts_of (λ (r : Record). r.log) count rs)) in
    let own = λ (r : Record). r.log == k in
    omega (arith, ap length here, length-filter own rs, count_by-le-length own rs, few)

pub returns-clause-short : goal.returns-clause-short
returns-clause-short c =
    let rs : List Record = c.in-Ok.records.records in
    let few : length rs ≤ 2 ^ 24 = omega (
      arith,
      ap (λ (xs : List Record). length xs) c.in-Ok.ensures,
      c.if-records.false,
    ) in
    subst (All (λ (log : List Record). length log ≤ 2 ^ 24)) (sym c.in-Ok-split.ensures) (short 2 (2 ^ 24) rs few)
