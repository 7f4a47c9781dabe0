-- How long the order of a bank is.
use Rattle.std.proofs.Common.{ℕ, ◌*◌, ◌≤◌, ◌^◌, List, length, arith}
use Rattle.std.specs.List.{All}
use Rattle.std.proofs.lemmas.List.Sums.{length-filter, count_by-le-length}
use Rattle.std.proofs.lemmas.List.Sorted.{length_permutation}
use Rattle.lf_rules.specs.declared.event.Record.{Record}
use Rattle.lf_rules.specs.Run.{of_bank, names}
use Rattle.lf_rules.specs.Numbers.{all_records}
use Rattle.lf_logs.specs.declared.order.Place.{Place}
use Rattle.lf_logs.specs.Places.{record_at, records_at, ArePlacesOfBank}
use Rattle.lf_logs.proofs.Found.{length_found}
use Rattle.lf_logs.proofs.Joined.{all_le}

pub order_le : (logs : List (List Record)) (bank : ℕ) (places : List Place) → All (λ log. length log ≤ 2 ^ 24) logs
    → ArePlacesOfBank logs bank places
    → length places ≤ length logs * 0x100_0000
order_le logs bank places short order =
    let all = all_records logs in
    omega (
      arith,
      length_found (record_at logs) places order.named,
      length_permutation (records_at logs places) (of_bank bank all) order.numbered.same,
      length-filter (names bank) all,
      count_by-le-length (names bank) all,
      all_le logs short,
    )
