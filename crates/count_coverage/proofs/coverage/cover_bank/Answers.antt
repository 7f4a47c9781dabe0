use Rattle.std.proofs.Common.{◌≡◌, ℕ, ◌<◌, ◌≤◌, true, List, ◌++◌, map, length, IsSome, sym, ap, ◌∙◌, subst, add-one}
use Rattle.std.proofs.Common.{arith}
use Rattle.std.specs.List.{All}
use Rattle.lf_rules.specs.declared.event.Record.{Record}
use Rattle.lf_rules.specs.Fits.{is_block_size, is_factor}
use Rattle.lf_rules.specs.Numbers.{IsNumbered}
use Rattle.lf_logs.specs.declared.order.Place.{Place}
use Rattle.lf_logs.specs.Places.{record_at, records_at}
use Rattle.lf_stats.specs.Statistics.{held_counts}
use Rattle.lf_stats.proofs.Sizes.{order_le}
use Rattle.count_coverage.specs.declared.point.BankPoint.{BankPoint}
use Rattle.count_coverage.specs.Points.{reached}
use Rattle.count_coverage.specs.Reachable.{bank_points}
use Rattle.count_coverage.specs.Counted.{AreCounts, tally_of}
use Rattle.count_coverage.specs.Coverage.{AreOfBanks}
use Rattle.count_coverage.proofs.Tallies.{on_ok}
use Rattle.count_coverage.proofs.coverage.cover_bank.Goals as goal

block_at_most_64 : (n : ℕ) → is_block_size n ≡ true → n ≤ 64
block_at_most_64 n h = grind arith

some_block : (n : ℕ) → is_block_size n ≡ true → 0 < n
some_block n h = grind arith

some_factor : (n : ℕ) → is_factor n ≡ true → 0 < n
some_factor n h = grind arith

named_same : (logs : List (List Record)) (ps qs : List Place) → ps ≡ qs
    → All (λ place. IsSome (record_at logs place)) qs → All (λ place. IsSome (record_at logs place)) ps
named_same logs ps qs e all = subst (λ (rs : List Place). All (λ place. IsSome (record_at logs place)) rs) (sym e) all

pub held_counts-requires-clause-block : goal.held_counts-requires-clause-block
held_counts-requires-clause-block g c = some_block c.args.shape.now.block c.requires.in_range.block_size

pub held_counts-requires-clause-named : goal.held_counts-requires-clause-named
held_counts-requires-clause-named g c = named_same (g.L.LogRecords.lists c.args.logs.now) _ _ c.as_slice.ensures.value
    c.in-Ok.ensures.order.named

pub held_counts-requires-clause-few : goal.held_counts-requires-clause-few
held_counts-requires-clause-few g c =
    omega (
      arith,
      ap length c.as_slice.ensures.value,
      order_le (g.L.LogRecords.lists c.args.logs.now) c.args.bank c.in-Ok.places.items
          c.requires.short c.in-Ok.ensures.order,
    )

pub counted-requires-clause-block : goal.counted-requires-clause-block
counted-requires-clause-block g c = block_at_most_64 c.args.shape.now.block c.requires.in_range.block_size

pub counted-requires-clause-factor : goal.counted-requires-clause-factor
counted-requires-clause-factor g c = some_factor c.args.shape.now.factor c.requires.in_range.factor

pub counted-requires-clause-named : goal.counted-requires-clause-named
counted-requires-clause-named g c = named_same (g.L.LogRecords.lists c.args.logs.now) _ _ c.as_slice-2.ensures.value
    c.in-Ok.ensures.order.named

pub counted-requires-clause-few : goal.counted-requires-clause-few
counted-requires-clause-few g c =
    omega (
      arith,
      ap length c.as_slice-2.ensures.value,
      order_le (g.L.LogRecords.lists c.args.logs.now) c.args.bank
          c.in-Ok.places.items c.requires.short c.in-Ok.ensures.order,
    )

pub counted-requires-clause-held : goal.counted-requires-clause-held
counted-requires-clause-held g c =
    let there : c.as_slice.result.now ≡ c.as_slice-2.result.now =
    c.as_slice.ensures.value ∙ sym c.as_slice-2.ensures.value in
    c.as_slice-3.ensures.value ∙ c.in_ok-held.ensures
    ∙ ap (λ (ps : List Place). held_counts c.args.shape.now (records_at (g.L.LogRecords.lists c.args.logs.now) ps))
    there

pub returns : goal.returns
returns g c =
    let shape = c.args.shape.now in
    let lists = g.L.LogRecords.lists c.args.logs.now in
    let bank = c.args.bank in
    let old = c.args.tallies.now.items in
    let new = c.add_bank.new.tallies.items in
    let places = c.as_slice-2.result.now in
    let order = records_at lists places in
    let numbered : IsNumbered lists bank order =
    subst (λ (ps : List Place). IsNumbered lists bank (records_at lists ps)) (sym c.as_slice-2.ensures.value)
    c.in-Ok.ensures.order.numbered in
    let step = λ (pushed : (count : BankPoint → ℕ) → AreCounts c.in_ok-counts.counts count
    → new ≡ old ++ map (tally_of bank count) (bank_points shape)) (before : AreOfBanks shape lists bank old).
    subst (λ (n : ℕ). AreOfBanks shape lists n new) (sym (add-one bank)) (
      old,
      before,
      (
        order,
        numbered,
        pushed (λ point. reached shape order point (length order)) c.in_ok-counts.ensures,
      ),
    ) in
    on_ok c.add_bank.result step c.add_bank.ensures
