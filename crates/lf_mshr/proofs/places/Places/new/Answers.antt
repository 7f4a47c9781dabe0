use Rattle.std.proofs.Common.{◌≡◌, ℕ, ◌+◌, ◌/◌, List, length, replicate, rules, ap, ◌∙◌, arith}
use Rattle.lf_mshr.specs.Places.{is_marked}
use Rattle.lf_mshr.proofs.Chain.{chain-empty, clear_words}
use Rattle.lf_mshr.proofs.places.Places.new.Goals as goal

pub invariant_of-result : goal.invariant_of-result
invariant_of-result g c =
    let long : length c.in_ok-items.items.items ≡ c.args.places = search rules in
    let links : length c.in_ok-next.next.items ≡ c.args.places + 1 = search rules in
    let words : length c.in_ok-used.used.items ≡ c.args.places / 64 + 1 = search rules in
    let zeros : c.in_ok-used.used.items ≡ replicate (c.args.places / 64 + 1) 0 = search rules in
    chain-empty c.in_ok-items.items.items c.in_ok-next.next.items c.in_ok-used.used.items c.args.places c.requires
    long links (omega (arith, words))
    (λ place. ap (λ (ws : List ℕ). is_marked ws place) zeros ∙ clear_words (c.args.places / 64 + 1) place)
