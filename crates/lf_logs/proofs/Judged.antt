-- Tallies that are all 1 give the order.
use Rattle.std.proofs.Common.{◌≡◌, ℕ, ◌<◌, List, map, length, get_or, sym, ap, ◌∙◌, subst, arith}
use Rattle.std.proofs.lemmas.List.{length-map, get_or-map}
use Rattle.lf_rules.specs.declared.event.Record.{Record}
use Rattle.lf_rules.specs.Run.{of_bank}
use Rattle.lf_rules.specs.Numbers.{all_records}
use Rattle.lf_logs.specs.declared.order.Place.{Place}
use Rattle.lf_logs.specs.declared.order.Tally.{Tally}
use Rattle.lf_logs.specs.Places.{Names, ArePlacesOfBank}
use Rattle.lf_logs.specs.Tallies.{AreTallies, AreOnceBelow}
use Rattle.lf_logs.proofs.Ordered.{ArePlacesOfBank-from}

pub ArePlacesOfBank-from_tallies : (logs : List (List Record)) (bank : ℕ) (tallies : List Tally) (places : List Place) →
    length tallies ≡ length (of_bank bank (all_records logs)) → AreTallies logs bank (all_records logs) tallies →
    AreOnceBelow (length tallies) tallies →
    places ≡ map (λ tally. tally.last) tallies → ArePlacesOfBank logs bank places
ArePlacesOfBank-from_tallies logs bank tallies places long are once is =
    let as_many : length places ≡ length tallies = ap (λ (ps : List Place). length ps) is ∙ length-map tallies
    (λ (t : Tally). t.last) in
    ArePlacesOfBank-from logs bank places (as_many ∙ long)
    (λ k h. sym (are k nothing (omega arith)).counted ∙ once k nothing (omega arith))
    (λ k d h.
    let within : k < length tallies = omega arith in
    let same : get_or places k d ≡ (get_or tallies k nothing).last =
    ap (λ ps. get_or ps k d) is ∙ get_or-map (λ (t : Tally). t.last) tallies k nothing d within in
    subst (λ place. Names logs bank k place) (sym same) ((are k nothing within).placed
    (omega (arith, once k nothing within))))
  where
    nothing : Tally
    nothing = record { times = 0; last = record { log = 0; at = 0 } }
