use Rattle.std.proofs.Common.{◌≡◌, ℕ, List, [], Option, None, replicate, ◌∙◌, sym, ap, subst, rules, arith}
use Rattle.std.proofs.lemmas.List.{nil_from_length}
use Rattle.bank_state.specs.Near.{blocks_in, places_of, twice, IsKeyedTable}
use Rattle.bank_state.proofs.NearKeyed.{few, used_within, free_table, no_blocks}
use Rattle.bank_state.proofs.near.Near.make_room.Goals as goal

pub place_in-place-requires : goal.place_in-place-requires
place_in-place-requires c =
    let n = c.self.inside in
    omega (arith, few n.spread n.used n.keys.items n.bytes.items c.self.invariant, n.keys.ok.0, c.len-count.ensures)

pub invariant_of-self : goal.invariant_of-self
invariant_of-self c =
    let n = c.self.inside in
    free_table n.spread n.used 64 c.in_ok-keys.keys.items c.in_ok-bytes.bytes.items
    (c.in_ok-keys.ensures.items_if_clones_equal (λ y h. search rules)) (omega arith)
    (sym c.in_ok-bytes.bytes.ok.0 ∙ c.in_ok-bytes.ensures.len)
    (omega (
      arith,
      used_within n.spread n.used n.keys.items n.bytes.items c.self.invariant,
      n.keys.ok.0,
      c.len-count.ensures,
      c.if-count-eq0.true,
    ))

pub returns-then-count-eq0 : goal.returns-then-count-eq0
returns-then-count-eq0 c =
    let n = c.self.inside in
    let free : c.in_ok-keys.keys.items ≡ replicate {A = Option ℕ} 64 None =
    c.in_ok-keys.ensures.items_if_clones_equal (λ y h. search rules) in
    let none : n.keys.items ≡ [] =
    nil_from_length n.keys.items (omega (arith, n.keys.ok.0, c.len-count.ensures, c.if-count-eq0.true)) in
    ap (λ (ks : List (Option ℕ)). blocks_in (places_of ks c.in_ok-bytes.bytes.items)) free
    ∙ no_blocks 64 c.in_ok-bytes.bytes.items
    ∙ sym (ap (λ (ks : List (Option ℕ)). blocks_in (places_of ks n.bytes.items)) none) ∙ c.self.view_is

pub invariant_of-self-then-count-le-MOST_PLACES : goal.invariant_of-self-then-count-le-MOST_PLACES
invariant_of-self-then-count-le-MOST_PLACES c =
    let n = c.self.inside in
    subst (λ (bs : List (List ℕ)). IsKeyedTable n.spread n.used c.in_ok-keys-2.keys.items bs)
    (sym (c.in_ok-bytes-2.ensures ∙ ap twice c.deref-then-count-le-MOST_PLACES.ensures.value))
    (c.in_ok-keys-2.ensures.table n.used n.bytes.items
    (subst (λ (ks : List (Option ℕ)). IsKeyedTable n.spread n.used ks n.bytes.items) (sym c.deref.ensures.value)
    c.self.invariant))
