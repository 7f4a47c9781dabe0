-- Places in rows of entries, one row for each register, as targets come and go.
use Rattle.std.proofs.Common.{◌≡◌, ℕ, suc, ◌+◌, ◌*◌, ◌<◌, ◌≤◌, Bool, true, false, cond, not, ◌&&◌, ◌||◌, ◌==◌, nat_le}
use Rattle.std.proofs.Common.{nat_lt, List, [], ◌∷◌, ◌++◌, inl, inr}
use Rattle.std.proofs.Common.{refl, ap, ◌∙◌, arith, eq-eqb, ne_eqb, lt-ltb, ltb-true, suc-mul}
use Rattle.std.specs.Prelude.{count_by}
use Rattle.std.specs.List.{list_all}
use Rattle.std.proofs.Math.Nat.{mul-le-mul_right}
use Rattle.std.proofs.lemmas.Bool.{cases_eq, cases_lt, and_parts, le-leb, leb-true}
use Rattle.lf_rules.specs.Registers.{Held, holds_in}
use Rattle.lf_rules.specs.Sharing.{HoldsOnce}
use Rattle.lf_mshr.specs.Bounds.{IsWithin}
use Rattle.lf_mshr.specs.Index.{IsIndexed, are_in_rows}
use Rattle.lf_mshr.specs.Places.{held_of, left_of, is_taken}
use Rattle.lf_mshr.proofs.Counts.{count_cons, count_push, count_filter_le}
use Rattle.lf_mshr.proofs.Indexed.{count_left}
use Rattle.lf_mshr.proofs.Placed.{held-push, held-left, own-push, own-left}

both : (a b : Bool) → a ≡ true → b ≡ true → (a && b) ≡ true
both a b e f = ap (λ t. t && b) e ∙ f

-- a row ends before the next begins
row-end : (entries a b : ℕ) → a < b → a * entries + entries ≤ b * entries
row-end entries a b lt = let step = suc-mul a entries in let next : suc a ≤ b = omega (arith, lt) in let all =
    mul-le-mul_right entries next in omega (arith, step, all)

module _ {T : Type 0} (entries : ℕ) where
  -- in its register's row, of which so much is used
  abbrev in_row : (ℕ → ℕ) → ℕ × Held T → Bool
  in_row used q = nat_le (q.1.register * entries) q.0 && nat_lt q.0 (q.1.register * entries + used q.1.register)

  abbrev many : List (ℕ × Held T) → ℕ → ℕ
  many order r = count_by (λ h. h.register == r) (held_of order)

  rows-within : (order : List (ℕ × Held T)) (c d : ℕ → ℕ) → ((r : ℕ) → 1 ≤ many order r → c r ≤ d r) →
      list_all (in_row c) order ≡ true → list_all (in_row d) order ≡ true
  rows-within [] c d more e = e
  rows-within (q ∷ order) c d more e =
      let parts = and_parts (in_row c q) (list_all (in_row c) order) e in
      let own = and_parts (nat_le (q.1.register * entries) q.0) (nat_lt q.0 (q.1.register * entries + c q.1.register))
      parts.0 in
      let whole = count_cons (λ (h : Held T). h.register == q.1.register) q.1 (held_of order) in
      let here : cond {A = ℕ} (q.1.register == q.1.register) 1 0 ≡ 1 =
      ap (λ b. cond {A = ℕ} b 1 0) (eq-eqb q.1.register q.1.register refl) in
      let grown = more q.1.register (omega (arith, whole, here)) in
      let low = ltb-true q.0 (q.1.register * entries + c q.1.register) own.1 in
      both (in_row d q) (list_all (in_row d) order)
      (both (nat_le (q.1.register * entries) q.0) (nat_lt q.0 (q.1.register * entries + d q.1.register)) own.0
      (lt-ltb q.0 (q.1.register * entries + d q.1.register) (omega (arith, low, grown))))
      (rows-within order c d (λ r some. more r (let w = count_cons (λ (h : Held T). h.register == r) q.1
      (held_of order) in omega (arith, some, w))) parts.1)

  -- a target comes to the first place of its row that is not used
  pub rows-push : (order : List (ℕ × Held T)) (q : ℕ × Held T) → are_in_rows entries order ≡ true →
      q.0 ≡ q.1.register * entries + many order q.1.register
      → are_in_rows entries (order ++ q ∷ []) ≡ true
  rows-push order q rows is =
      let held : held_of (order ++ q ∷ []) ≡ held_of order ++ q.1 ∷ [] = held-push order q in
      own-push (in_row (many (order ++ q ∷ []))) order q
      (rows-within order (many order) (many (order ++ q ∷ [])) (λ r some.
      let more = count_push (λ (h : Held T). h.register == r) (held_of order) q.1 in
      let same = ap (count_by (λ (h : Held T). h.register == r)) held in
      omega (arith, more, same)) rows)
      (let r = q.1.register in
      let more = count_push (λ (h : Held T). h.register == r) (held_of order) q.1 in
      let same = ap (count_by (λ (h : Held T). h.register == r)) held in
      let here : cond {A = ℕ} (r == r) 1 0 ≡ 1 = ap (λ b. cond {A = ℕ} b 1 0) (eq-eqb r r refl) in
      both (nat_le (r * entries) q.0) (nat_lt q.0 (r * entries + many (order ++ q ∷ []) r))
      (le-leb (r * entries) q.0 (omega (arith, is))) (lt-ltb q.0 (r * entries + many (order ++ q ∷ []) r)
      (omega (arith, is, more, same, here))))

  -- the first place of a row that is not used is free
  pub row-free : (order : List (ℕ × Held T)) (c : ℕ → ℕ) → ((r : ℕ) → c r ≤ entries) →
      list_all (in_row c) order ≡ true → (register : ℕ) → c register < entries
      → is_taken order (register * entries + c register) ≡ false
  row-free [] c few e register room = refl
  row-free (q ∷ order) c few e register room =
      let parts = and_parts (in_row c q) (list_all (in_row c) order) e in
      let own = and_parts (nat_le (q.1.register * entries) q.0) (nat_lt q.0 (q.1.register * entries + c q.1.register))
      parts.0 in
      let start = leb-true (q.1.register * entries) q.0 own.0 in
      let end = ltb-true q.0 (q.1.register * entries + c q.1.register) own.1 in
      let most = few q.1.register in
      let place = register * entries + c register in
      let apart : q.0 ≡ place → ⊥ = λ x. elim (cases_eq q.1.register register) [
        | inl same ↦ (let row = ap (λ r. r * entries + c r) same in absurd (omega (arith, x, end, row)))
        | inr ne ↦ elim (cases_lt q.1.register register) [
          | inl lt ↦ (let row = row-end entries q.1.register register lt in absurd (omega (arith, x, end, most, row)))
          | inr ge ↦ (let row = row-end entries register q.1.register (omega (arith, ge, ne)) in
              absurd (omega (arith, x, start, room, row)))
        ]
      ] in
      ap (λ b. b || is_taken order place) (ne_eqb q.0 place apart) ∙ row-free order c few parts.1 register room

  -- a block leaves its register, whose row is then not used
  pub rows-left : (registers used : ℕ) (blocks : List ℕ) (order : List (ℕ × Held T)) →
      IsIndexed registers used blocks (held_of order)
      → IsWithin registers entries (held_of order) → HoldsOnce (held_of order)
      → (at block : ℕ) → at < registers → holds_in (held_of order) at block ≡ true →
      are_in_rows entries order ≡ true → are_in_rows entries (left_of order block) ≡ true
  rows-left registers used blocks order index within once at block there has rows =
      rows-within (left_of order block) (many order) (many (left_of order block)) same
      (own-left (in_row (many order)) order block rows)
    where
      same : (r : ℕ) → 1 ≤ many (left_of order block) r → many order r ≤ many (left_of order block) r
      same r some =
          let held = ap (count_by (λ (h : Held T). h.register == r)) (held-left order block) in
          let less = count_filter_le (λ (h : Held T). h.register == r) (λ h. not (h.block == block)) (held_of order) in
          elim (cases_lt r registers) [
            | inr above ↦ (let none = within.none r above in absurd (omega (arith, none, less, held, some)))
            | inl below ↦ (let left = count_left registers used blocks (held_of order) index at block there has once r
                below in elim (cases_eq at r) [
                  | inl e ↦ (let gone = ap (λ b. cond {A = ℕ} b 0 (many order r)) (eq-eqb at r e) in
                      absurd (omega (arith, left, gone, held, some)))
                  | inr ne ↦ (let kept = ap (λ b. cond {A = ℕ} b 0 (many order r)) (ne_eqb at r ne) in
                      omega (arith, left, kept, held))
                ])
          ]
