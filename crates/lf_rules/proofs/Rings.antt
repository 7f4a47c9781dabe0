-- Where logs wait in a ring, no list of all logs keeps the numbers.
use Rattle.std.proofs.Common.{◌≡◌, ℕ, zero, suc, ◌+◌, ◌-◌, ◌%◌, ◌<◌, ◌≤◌, Bool, true, false, cond, ◌&&◌, ◌==◌, List}
use Rattle.std.proofs.Common.{[], ◌∷◌, map, length}
use Rattle.std.proofs.Common.{get_or, drop, Option, Some, None, ◌⊎◌, inl, inr, refl, sym, ap, ◌∙◌, subst, eqb-true}
use Rattle.std.proofs.Common.{eq-eqb, arith}
use mathlib.Core.Path.{ap₂}
use Rattle.std.proofs.lemmas.Bool.{and_parts, cases_Bool, cases_eq, cond-true, cond-false}
use Rattle.std.proofs.lemmas.List.{drop-drop}
use Rattle.std.specs.List.{range_with_len}
use Rattle.lf_rules.specs.declared.event.Record.{Record}
use Rattle.lf_rules.specs.declared.ring.Knot.{Knot}
use Rattle.lf_rules.specs.State.{update}
use Rattle.lf_rules.specs.Address.{no_bank}
use Rattle.lf_rules.specs.Run.{of_log, of_bank}
use Rattle.lf_rules.specs.Ring.{entry_of, skeletons_of, entry_at, knot_at, IsWait, IsRing, RingsAdmitNone}

-- ---- the ring over the records themselves

abbrev record_at : List Record → ℕ → Option Record
record_at [] n = None
record_at (r ∷ rs) zero = Some r
record_at (r ∷ rs) (suc n) = record_at rs n

pub record Waits (logs : List (List Record)) (knot next : Knot) : Type 0 where
  pub waiting : Record
  pub named : record_at (get_or logs knot.log []) knot.at ≡ Some waiting
  pub is_bank : waiting.bank < no_bank
  pub place : ℕ
  pub behind : next.at < place
  pub earlier : Record
  pub there : record_at (get_or logs next.log []) place ≡ Some earlier
  pub same_bank : earlier.bank ≡ waiting.bank
  pub smaller : earlier.number < waiting.number

pub record IsCycle (logs : List (List Record)) (n : ℕ) (knot : ℕ → Knot) : Type 0 where
  pub some_knot : 0 < n
  pub waits : (j : ℕ) → j < n → Waits logs (knot j) (knot ((j + 1) % n))

skeleton_at : (logs : List (List Record)) (log : ℕ) → get_or (skeletons_of logs) log []
    ≡ map entry_of (get_or logs log [])
skeleton_at [] log = refl
skeleton_at (rs ∷ logs) zero = refl
skeleton_at (rs ∷ logs) (suc log) = skeleton_at logs log

record_of_entry : (rs : List Record) (n : ℕ) (e : ℕ × ℕ) → entry_at (map entry_of rs) n ≡ Some e → (r : Record) ×
    (record_at rs n ≡ Some r) × (entry_of r ≡ e)
record_of_entry [] n e is = cc
record_of_entry (r ∷ rs) zero e is = (r, refl, cc)
record_of_entry (r ∷ rs) (suc n) e is = record_of_entry rs n e is

record_there : (logs : List (List Record)) (log n : ℕ) (e : ℕ × ℕ) →
    entry_at (get_or (skeletons_of logs) log []) n ≡ Some e
    → (r : Record) × (record_at (get_or logs log []) n ≡ Some r) × (entry_of r ≡ e)
record_there logs log n e is = record_of_entry (get_or logs log []) n e
    (subst (λ xs. entry_at xs n ≡ Some e) (skeleton_at logs log) is)

waits_of : (logs : List (List Record)) (knot next : Knot) → IsWait (skeletons_of logs) knot next → Waits logs knot next
waits_of logs knot next w =
    let a = record_there logs knot.log knot.at w.waiting w.named in
    let b = record_there logs next.log w.place w.earlier w.there in
    record {
      waiting = a.0;
      named = a.1;
      is_bank = subst (λ (e : ℕ × ℕ). e.0 < no_bank) (sym a.2) w.is_bank;
      place = w.place;
      behind = w.behind;
      earlier = b.0;
      there = b.1;
      same_bank = ap (λ (e : ℕ × ℕ). e.0) b.2 ∙ w.same_bank ∙ ap (λ (e : ℕ × ℕ). e.0) (sym a.2);
      smaller = subst (λ (e : ℕ × ℕ). e.1 < (entry_of a.0).1) (sym b.2)
          (subst (λ (e : ℕ × ℕ). w.earlier.1 < e.1) (sym a.2) w.smaller);
    }

cycle_of : (logs : List (List Record)) (ring : List Knot) → IsRing (skeletons_of logs) ring →
    IsCycle logs (length ring) (knot_at ring)
cycle_of logs ring is = record { some_knot = is.some_knot; waits = λ j lt. waits_of logs _ _ (is.waits j lt) }

-- ---- none is left

at_drop : (xs : List Record) (a n : ℕ) (r : Record) → a ≤ n → record_at xs n ≡ Some r →
    record_at (drop a xs) (n - a) ≡ Some r
at_drop xs zero n r le e = subst (λ k. record_at xs k ≡ Some r) (omega arith) e
at_drop [] (suc a) n r le e = e
at_drop (x ∷ xs) (suc a) zero r le e = absurd (omega arith)
at_drop (x ∷ xs) (suc a) (suc n) r le e = subst (λ k. record_at (drop a xs) k ≡ Some r) (omega arith)
    (at_drop xs a n r (omega arith) e)

-- a record of a log is one of its bank
pub of_its_bank : (rs : List Record) (log i : ℕ) (e : Record) → record_at (of_log log rs) i ≡ Some e → (k : ℕ) ×
    (record_at (of_bank e.bank rs) k ≡ Some e)
of_its_bank [] log i e is = cc
of_its_bank (r ∷ rs) log i e is = go (r.log == log) i is (λ j there. of_its_bank rs log j e there)
  where
    further : (b : Bool) (k : ℕ) → record_at (of_bank e.bank rs) k ≡ Some e → (k : ℕ) ×
        (record_at (cond b (r ∷ of_bank e.bank rs) (of_bank e.bank rs)) k ≡ Some e)
    further true k there = (suc k, there)
    further false k there = (k, there)

    here : r ≡ e → (k : ℕ) × (record_at (cond (r.bank == e.bank) (r ∷ of_bank e.bank rs) (of_bank e.bank rs)) k
        ≡ Some e)
    here same = (
      0,
      ap (λ (xs : List Record). record_at xs 0)
          (cond-true (r.bank == e.bank) (r ∷ of_bank e.bank rs) (of_bank e.bank rs)
          (eq-eqb r.bank e.bank (ap (λ (q : Record). q.bank) same))) ∙ ap Some same,
    )

    go : (b : Bool) (i : ℕ) → record_at (cond b (r ∷ of_log log rs) (of_log log rs)) i ≡ Some e
        → ((j : ℕ) → record_at (of_log log rs) j ≡ Some e → (k : ℕ) × (record_at (of_bank e.bank rs) k ≡ Some e))
        → (k : ℕ) × (record_at (cond (r.bank == e.bank) (r ∷ of_bank e.bank rs) (of_bank e.bank rs)) k ≡ Some e)
    go true zero is rest = here cc
    go true (suc i) is rest = let f = rest i is in further (r.bank == e.bank) f.0 f.1
    go false i is rest = let f = rest i is in further (r.bank == e.bank) f.0 f.1

number_from : (xs : List Record) (a len k : ℕ) (e : Record) →
    map (λ (q : Record). q.number) xs ≡ range_with_len a len → record_at xs k ≡ Some e → a ≤ e.number
number_from [] a len k e numbers is = cc
number_from (x ∷ xs) a zero k e numbers is = cc
number_from (x ∷ xs) a (suc len) zero e numbers is =
    let same : x ≡ e = cc in let first : x.number ≡ a = cc in omega (arith, ap (λ (q : Record). q.number) same, first)
number_from (x ∷ xs) a (suc len) (suc k) e numbers is =
    let rest : map (λ (q : Record). q.number) xs ≡ range_with_len (a + 1) len = cc in
    let le = number_from xs (a + 1) len k e rest is in omega (arith, le)

-- a test holds somewhere below n, or nowhere
somewhere : (p : ℕ → Bool) (n : ℕ) → ((j : ℕ) × (j < n) × (p j ≡ true)) ⊎ ((j : ℕ) → j < n → p j ≡ false)
somewhere p zero = inr (λ j lt. absurd (omega arith))
somewhere p (suc n) =
    (elim (somewhere p n) [
      | inl f ↦ inl (f.0, omega (arith, f.1), f.2)
      | inr none ↦ (elim (cases_Bool (p n)) [
        | inl yes' ↦ inl (n, omega arith, yes')
        | inr no' ↦ inr (λ j lt. (elim (cases_eq j n) [
          | inl same ↦ ap p same
              ∙ no'
          | inr apart ↦ none j (omega arith)
        ]))
      ])
    ])

module _ (logs : List (List Record)) (n : ℕ) (knot : ℕ → Knot) (cycle : IsCycle logs n knot) where
  next_lt : (j : ℕ) → (j + 1) % n < n
  next_lt j = let pos = cycle.some_knot in omega arith

  none_left : (rs : List Record) (at next : ℕ → ℕ) → ((log : ℕ) → of_log log rs ≡ drop (at log) (get_or logs log []))
      → ((bank : ℕ) → bank < no_bank → map (λ (q : Record). q.number) (of_bank bank rs)
      ≡ range_with_len (next bank) (length (of_bank bank rs)))
      → ((j : ℕ) → j < n → at (knot j).log ≤ (knot j).at) → ⊥
  none_left [] at next logs_left numbers before =
      let pos = cycle.some_knot in
      let w = cycle.waits 0 pos in
      let there = at_drop (get_or logs (knot 0).log []) (at (knot 0).log) (knot 0).at w.waiting (before 0 pos) w.named
      in
      let none : ◌≡◌ {A = Option Record} None (Some w.waiting) =
      ap (λ (xs : List Record). record_at xs ((knot 0).at - at (knot 0).log)) (logs_left (knot 0).log) ∙ there in
      cc
  none_left (r ∷ rs) at next logs_left numbers before =
      let first : r ∷ of_log r.log rs ≡ drop (at r.log) (get_or logs r.log []) =
      sym (cond-true (r.log == r.log) (r ∷ of_log r.log rs) (of_log r.log rs) (eq-eqb r.log r.log refl))
      ∙ logs_left r.log in
      let counted : (bank : ℕ) → bank < no_bank → (r.bank == bank) ≡ true
      → map (λ (q : Record). q.number) (r ∷ of_bank bank rs)
      ≡ range_with_len (next bank) (length (r ∷ of_bank bank rs)) = λ bank named same.
      subst (λ (xs : List Record). map (λ (q : Record). q.number) xs ≡ range_with_len (next bank) (length xs))
      (cond-true (r.bank == bank) (r ∷ of_bank bank rs) (of_bank bank rs) same) (numbers bank named) in
      (elim (somewhere (λ j. (knot j).log == r.log && (knot j).at == at r.log) n) [
        | inl f ↦ stuck f.0 f.1 f.2 first (λ named. counted r.bank named (eq-eqb r.bank r.bank refl))
        | inr free ↦ none_left rs (update at r.log (at r.log + 1)) (update next r.bank (next r.bank + 1))
            (λ log. (elim (cases_Bool (r.log == log)) [
              | inl same ↦ subst (λ k. of_log k rs ≡ drop (update at r.log (at r.log + 1) k) (get_or logs k []))
                  (eqb-true r.log log same)
                  (ap (drop 1) first ∙ drop-drop 1 (at r.log) (get_or logs r.log [])
                  ∙ ap (λ k. drop k (get_or logs r.log []))
                  (sym (cond-true (r.log == r.log) (at r.log + 1) (at r.log) (eq-eqb r.log r.log refl))))
              | inr apart ↦ sym (cond-false (r.log == log) (r ∷ of_log log rs) (of_log log rs) apart) ∙ logs_left log
                  ∙ ap (λ k. drop k (get_or logs log [])) (sym
                  (cond-false (r.log == log) (at r.log + 1) (at log) apart))
            ]))
            (λ bank named. (elim (cases_Bool (r.bank == bank)) [
              | inl same ↦ tail (counted bank named same)
                  ∙ ap (λ k. range_with_len k (length (of_bank bank rs)))
                  (sym (cond-true (r.bank == bank) (next r.bank + 1) (next bank) same
                  ∙ ap (λ k. next k + 1) (eqb-true r.bank bank same)))
              | inr apart ↦
                  subst (λ (xs : List Record). map (λ (q : Record). q.number) xs
                  ≡ range_with_len (next bank) (length xs))
                  (cond-false (r.bank == bank) (r ∷ of_bank bank rs) (of_bank bank rs) apart) (numbers bank named)
                  ∙ ap (λ k. range_with_len k (length (of_bank bank rs)))
                  (sym (cond-false (r.bank == bank) (next r.bank + 1) (next bank) apart))
            ]))
            (λ j lt. bound j lt (free j lt) (before j lt))
      ])
    where
      tail : {a : ℕ} {b c : List ℕ} {d : ℕ} → ◌≡◌ {A = List ℕ} (a ∷ b) (d ∷ c) → b ≡ c
      tail e = cc

      some_same : {a b : Record} → ◌≡◌ {A = Option Record} (Some a) (Some b) → a ≡ b
      some_same e = cc

      head : {a : ℕ} {b c : List ℕ} {d : ℕ} → ◌≡◌ {A = List ℕ} (a ∷ b) (d ∷ c) → a ≡ d
      head e = cc

      true_false : true ≡ false → ⊥
      true_false e = cc

      bound : (j : ℕ) → j < n → ((knot j).log == r.log && (knot j).at == at r.log) ≡ false →
          at (knot j).log ≤ (knot j).at → cond (r.log == (knot j).log) (at r.log + 1) (at (knot j).log) ≤ (knot j).at
      bound j lt free le =
          (elim (cases_Bool (r.log == (knot j).log)) [
            | inl same ↦
                let is : r.log ≡ (knot j).log = eqb-true r.log (knot j).log same in
                let apart : (knot j).at ≡ at r.log → ⊥ = λ e. true_false
                (sym (ap₂ (λ x y. x && y) (eq-eqb (knot j).log r.log (sym is)) (eq-eqb (knot j).at (at r.log) e))
                ∙ free) in
                let le' : at r.log ≤ (knot j).at = subst (λ k. at k ≤ (knot j).at) (sym is) le in
                subst (λ k. k ≤ (knot j).at) (sym (cond-true (r.log == (knot j).log) (at r.log + 1) (at (knot j).log)
                same)) (omega arith)
            | inr apart ↦ subst (λ k. k ≤ (knot j).at) (sym
                (cond-false (r.log == (knot j).log) (at r.log + 1) (at (knot j).log) apart)) le
          ])

      stuck : (j : ℕ) → j < n → ((knot j).log == r.log && (knot j).at == at r.log) ≡ true →
          r ∷ of_log r.log rs ≡ drop (at r.log) (get_or logs r.log [])
          → (r.bank < no_bank → map (λ (q : Record). q.number) (r ∷ of_bank r.bank rs)
          ≡ range_with_len (next r.bank) (length (r ∷ of_bank r.bank rs))) → ⊥
      stuck j lt test first counted =
          let parts = and_parts ((knot j).log == r.log) ((knot j).at == at r.log) test in
          let w = cycle.waits j lt in
          let k = knot ((j + 1) % n) in
          let named : record_at (get_or logs r.log []) (at r.log) ≡ Some w.waiting =
          subst (λ a. record_at (get_or logs r.log []) a ≡ Some w.waiting) (eqb-true (knot j).at (at r.log) parts.1)
          (subst (λ l. record_at (get_or logs l []) (knot j).at ≡ Some w.waiting)
          (eqb-true (knot j).log r.log parts.0) w.named) in
          let there = at_drop (get_or logs r.log []) (at r.log) (at r.log) w.waiting (omega arith) named in
          let zero_place : at r.log - at r.log ≡ 0 = omega arith in
          let same : r ≡ w.waiting =
          some_same (ap (λ (xs : List Record). record_at xs 0) first
          ∙ subst (λ i. record_at (drop (at r.log) (get_or logs r.log [])) i ≡ Some w.waiting) zero_place there)
          in
          let before_next = before ((j + 1) % n) (next_lt j) in
          let behind = w.behind in
          let e_there = at_drop (get_or logs k.log []) (at k.log) w.place w.earlier
          (omega (arith, before_next, behind)) w.there in
          let in_log = ap (λ (xs : List Record). record_at xs (w.place - at k.log)) (logs_left k.log) ∙ e_there in
          let in_bank = of_its_bank (r ∷ rs) k.log (w.place - at k.log) w.earlier in_log in
          let bank_is : w.earlier.bank ≡ r.bank = w.same_bank ∙ ap (λ (q : Record). q.bank) (sym same) in
          let named_bank : r.bank < no_bank = subst (λ (q : Record). q.bank < no_bank) (sym same) w.is_bank in
          let le =
          number_from (of_bank w.earlier.bank (r ∷ rs)) (next w.earlier.bank)
          (length (of_bank w.earlier.bank (r ∷ rs))) in_bank.0 w.earlier
          (numbers w.earlier.bank (subst (λ k. k < no_bank) (sym bank_is) named_bank)) in_bank.1 in
          let mine : r.number ≡ next r.bank = head (counted named_bank) in
          let small = w.smaller in
          omega (arith, le, ap next bank_is, mine, ap (λ (q : Record). q.number) same, small)

pub rings_admit_none : RingsAdmitNone
rings_admit_none logs ring is rs interleaves numbers =
    none_left logs (length ring) (knot_at ring) (cycle_of logs ring is) rs (λ _. 0) (λ _. 0) interleaves.each numbers
    (λ j lt. omega arith)
