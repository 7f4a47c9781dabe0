-- A word and arrays that say what registers hold, as targets come and go.
use Rattle.std.proofs.Common.{◌≡◌, ℕ, ◌+◌, ◌*◌, ◌^◌, ◌%◌, ◌<◌, ◌≤◌, ◌⊎◌, inl, inr, Bool, true, false, cond, not, ◌&&◌}
use Rattle.std.proofs.Common.{◌||◌, ◌==◌, nat_lt, List, [], ◌∷◌, ◌++◌, length}
use Rattle.std.proofs.Common.{refl, sym, ap, ◌∙◌, subst, arith, eq-eqb, ne_eqb, lt-ltb, set, replicate, bit_and}
use Rattle.std.proofs.Common.{bit_or, get_or, Option, Some, None}
use Rattle.std.specs.Prelude.{count_by, filter, slice_index, is_some, IfSome, IfNone}
use Rattle.std.specs.List.{list_any, range_with_len}
use Rattle.std.proofs.lemmas.List.FromFn.{get_or-range_with_len, length-range_with_len}
use Rattle.std.specs.Int.{bit_not, w64}
use Rattle.std.proofs.lemmas.Bool.{cases_eq, cases_lt, cases_Bool, and_parts, or_parts, or_cases, or_left, or_right}
use Rattle.std.proofs.lemmas.Bool.{both_ways, not-true}
use Rattle.std.proofs.lemmas.List.{length-set, get_or-set_same, get_or-set_other, get_or-replicate, length-replicate}
use Rattle.std.proofs.lemmas.List.Folds.{list_any-append, list_any_at}
use Rattle.std.proofs.lemmas.List.Sums.{length-filter}
use Rattle.std.proofs.lemmas.Nat.Bits.{bit_at_set_same, bit_at_set_other, bit_at_clear_same, bit_at_clear_other}
use Rattle.std.proofs.lemmas.Nat.Bits.{bit_at-zero}
use Rattle.lf_rules.specs.Address.{is_under}
use Rattle.lf_rules.specs.Registers.{Held, holds, is_free, holds_in, targets_of, released}
use Rattle.lf_rules.specs.Sharing.{HoldsOnce}
use Rattle.lf_mshr.specs.Bounds.{IsBelow}
use Rattle.lf_mshr.specs.Index.{IsIndexed, IsCounted, held_in}
use Rattle.lf_mshr.proofs.Counts.{count_cons, count_push_yes, count_push_no, none_both}
use Rattle.lf_mshr.proofs.Once.{holds_in_push, released_holds, holds_from}

some-lt : (n : ℕ) → 0 < n → nat_lt 0 n ≡ true
some-lt n some = lt-ltb 0 n some

none-lt : (n : ℕ) → n ≡ 0 → nat_lt 0 n ≡ false
none-lt n none = ap (nat_lt 0) none

none_any : (p : ℕ → Bool) → ((x : ℕ) → p x ≡ false) → (xs : List ℕ) → list_any p xs ≡ false
none_any p never [] = refl
none_any p never (x ∷ xs) = ap (λ b. b || list_any p xs) (never x) ∙ none_any p never xs

-- some element passes where one is counted
any_counted : {A : Type 0} (p : A → Bool) (xs : List A) → list_any p xs ≡ nat_lt 0 (count_by p xs)
any_counted p [] = refl
any_counted p (x ∷ xs) = go (any_counted p xs) (p x) refl
  where
    go : list_any p xs ≡ nat_lt 0 (count_by p xs) → (b : Bool) → p x ≡ b →
        (p x || list_any p xs) ≡ nat_lt 0 (count_by p (x ∷ xs))
    go rest true e =
        let whole = count_cons p x xs in
        let here : cond {A = ℕ} (p x) 1 0 ≡ 1 = ap (λ b. cond {A = ℕ} b 1 0) e in
        or_left (p x) (list_any p xs) e ∙ sym (some-lt (count_by p (x ∷ xs)) (omega (arith, whole, here)))
    go rest false e =
        let whole = count_cons p x xs in
        let here : cond {A = ℕ} (p x) 1 0 ≡ 0 = ap (λ b. cond {A = ℕ} b 1 0) e in
        let same : count_by p xs ≡ count_by p (x ∷ xs) = omega (arith, whole, here) in
        ap (λ b. b || list_any p xs) e ∙ rest ∙ ap (nat_lt 0) same

-- no element that passes the one test passes the other: the filter takes none of them
filter_kept : {A : Type 0} (p s : A → Bool) (xs : List A) → list_any (λ x. p x && s x) xs ≡ false →
    filter p (filter (λ x. not (s x)) xs) ≡ filter p xs
filter_kept p s [] none = refl
filter_kept {A} p s (x ∷ xs) none = go (filter_kept p s xs parts.1) (s x) (p x) refl refl
  where
    parts : ((p x && s x) ≡ false) × (list_any (λ y. p y && s y) xs ≡ false)
    parts = or_parts (p x && s x) (list_any (λ y. p y && s y) xs) none

    go : filter p (filter (λ y. not (s y)) xs) ≡ filter p xs → (t b : Bool) → s x ≡ t → p x ≡ b
        → filter p (cond (not (s x)) (x ∷ filter (λ y. not (s y)) xs) (filter (λ y. not (s y)) xs))
        ≡ cond (p x) (x ∷ filter p xs) (filter p xs)
    go rest false b e f =
        ap (λ t. filter p (cond (not t) (x ∷ filter (λ y. not (s y)) xs) (filter (λ y. not (s y)) xs))) e
        ∙ ap (λ (ys : List A). cond (p x) (x ∷ ys) ys) rest
    go rest true false e f =
        ap (λ t. filter p (cond (not t) (x ∷ filter (λ y. not (s y)) xs) (filter (λ y. not (s y)) xs))) e
        ∙ rest ∙ sym (ap (λ b. cond b (x ∷ filter p xs) (filter p xs)) f)
    go rest true true e f = absurd (both_ways (p x && s x) parts.0 (ap (λ b. b && s x) f ∙ e))

module _ {T : Type 0} where
  -- a register that holds one block alone holds nothing once that block has left
  none_left : (r block : ℕ) (xs : List (Held T)) → ((other : ℕ) → holds_in xs r other ≡ true → other ≡ block) →
      held_in (released xs block) r ≡ []
  none_left r block [] alone = refl
  none_left r block (h ∷ xs) alone = go (none_left r block xs
      (λ other e. alone other (or_right (h.register == r && h.block == other) (holds_in xs r other) e)))
      (h.block == block) (h.register == r) refl refl
    where
      go : held_in (released xs block) r ≡ [] → (t b : Bool) → (h.block == block) ≡ t → (h.register == r) ≡ b
          → held_in (cond (not (h.block == block)) (h ∷ released xs block) (released xs block)) r ≡ []
      go rest true b e f = ap (λ t. held_in (cond (not t) (h ∷ released xs block) (released xs block)) r) e ∙ rest
      go rest false false e f =
          ap (λ t. held_in (cond (not t) (h ∷ released xs block) (released xs block)) r) e
          ∙ ap (λ b. cond b (h ∷ held_in (released xs block) r) (held_in (released xs block) r)) f ∙ rest
      go rest false true e f =
          let own : (h.register == r && h.block == h.block) ≡ true =
          ap (λ b. b && h.block == h.block) f ∙ eq-eqb h.block h.block refl in
          let same = alone h.block (or_left (h.register == r && h.block == h.block) (holds_in xs r h.block) own) in
          absurd (both_ways (h.block == block) e (eq-eqb h.block block same))

  -- where a register holds the block and no other, and no other register holds it, what it holds is of the block
  held_in-is : (xs : List (Held T)) (r block : ℕ) → ((other : ℕ) → holds_in xs r other ≡ true → other ≡ block)
      → ((other : ℕ) → holds_in xs other block ≡ true → other ≡ r) → held_in xs r ≡ targets_of xs block
  held_in-is [] r block alone once = refl
  held_in-is (h ∷ xs) r block alone once = go (held_in-is xs r block
      (λ other e. alone other (or_right (h.register == r && h.block == other) (holds_in xs r other) e))
      (λ other e. once other (or_right (h.register == other && h.block == block) (holds_in xs other block) e)))
      (cases_eq h.register r) (cases_eq h.block block)
    where
      own : holds_in (h ∷ xs) h.register h.block ≡ true
      own = or_left (h.register == h.register && h.block == h.block) (holds_in xs h.register h.block)
          (ap (λ b. b && h.block == h.block) (eq-eqb h.register h.register refl) ∙ eq-eqb h.block h.block refl)

      go : held_in xs r ≡ targets_of xs block → (h.register ≡ r) ⊎ (h.register ≡ r → ⊥)
          → (h.block ≡ block) ⊎ (h.block ≡ block → ⊥)
          → cond (h.register == r) (h ∷ held_in xs r) (held_in xs r)
          ≡ cond (h.block == block) (h ∷ targets_of xs block) (targets_of xs block)
      go rest (inl e) (inl f) =
          ap (λ b. cond b (h ∷ held_in xs r) (held_in xs r)) (eq-eqb h.register r e)
          ∙ ap (λ (hs : List (Held T)). h ∷ hs) rest
          ∙ sym (ap (λ b. cond b (h ∷ targets_of xs block) (targets_of xs block)) (eq-eqb h.block block f))
      go rest (inr ne) (inr nf) =
          ap (λ b. cond b (h ∷ held_in xs r) (held_in xs r)) (ne_eqb h.register r ne) ∙ rest
          ∙ sym (ap (λ b. cond b (h ∷ targets_of xs block) (targets_of xs block)) (ne_eqb h.block block nf))
      go rest (inl e) (inr nf) = absurd (nf (alone h.block (subst (λ k. holds_in (h ∷ xs) k h.block ≡ true) e own)))
      go rest (inr ne) (inl f) = absurd (ne (once h.register
          (subst (λ k. holds_in (h ∷ xs) h.register k ≡ true) f own)))

  module _ (registers used : ℕ) (blocks : List ℕ) (held : List (Held T))
      (index : IsIndexed registers used blocks held) where
    -- a register in use holds its block
    pub holds_in-is : (r block : ℕ) → r < registers → (is_under used r && slice_index blocks r == block)
        ≡ holds_in held r block
    holds_in-is r block there = go (holds_in held r block) refl
      where
        go : (b : Bool) → holds_in held r block ≡ b → (is_under used r && slice_index blocks r == block) ≡ b
        go true e =
            let some = index.in_use r there ∙ used_by held e in
            ap (λ b. b && slice_index blocks r == block) some
            ∙ eq-eqb (slice_index blocks r) block (index.of_block r block there e)
          where
            used_by : (xs : List (Held T)) → holds_in xs r block ≡ true → list_any (λ h. h.register == r) xs ≡ true
            used_by [] e = e
            used_by (h ∷ xs) e = elim (or_cases (h.register == r && h.block == block) (holds_in xs r block) e) [
              | inl x ↦ or_left _ _ (and_parts (h.register == r) (h.block == block) x).0
              | inr x ↦ or_right _ _ (used_by xs x)
            ]
        go false e = at (is_under used r) refl
          where
            some_block : (xs : List (Held T)) → list_any (λ h. h.register == r) xs ≡ true → (other : ℕ) ×
                (holds_in xs r other ≡ true)
            some_block [] x = absurd (cc x)
            some_block (h ∷ xs) x = elim (or_cases (h.register == r) (list_any (λ g. g.register == r) xs) x) [
              | inl y ↦ (h.block, or_left _ _ (ap (λ b. b && h.block == h.block) y ∙ eq-eqb h.block h.block refl))
              | inr y ↦ let found = some_block xs y in (found.0, or_right _ _ found.1)
            ]

            at : (b : Bool) → is_under used r ≡ b → (is_under used r && slice_index blocks r == block) ≡ false
            at false none = ap (λ b. b && slice_index blocks r == block) none
            at true some =
                let found = some_block held (sym (index.in_use r there) ∙ some) in
                let is = index.of_block r found.0 there found.1 in
                ap (λ b. b && slice_index blocks r == block) some
                ∙ ne_eqb (slice_index blocks r) block (λ same. both_ways (holds_in held r block) e
                (subst (λ k. holds_in held r k ≡ true) (sym is ∙ same) found.1))

    -- a target comes to a register that is free, or that holds its block
    pub IsIndexed-push : (h : Held T) → h.register < registers →
        ((is_free held h.register ≡ true) ⊎ (holds_in held h.register h.block ≡ true))
        → IsIndexed registers (bit_or used (1 * 2 ^ h.register % 2 ^ 64)) (set blocks h.register h.block)
        (held ++ h ∷ [])
    IsIndexed-push h there own = record {
      long = length-set blocks h.register h.block ∙ index.long;
      word = index.word;
      in_use = λ r below. elim (cases_eq h.register r) [
        | inl e ↦ subst (λ k. is_under (bit_or used (1 * 2 ^ h.register % 2 ^ 64)) k
            ≡ list_any (λ g. g.register == k) (held ++ h ∷ [])) e
            (ap (λ n. n == 1) (bit_at_set_same w64 used h.register (let w = index.word in omega (arith, there, w)))
            ∙ sym (list_any-append (λ g. g.register == h.register) held (h ∷ [])
            ∙ or_right (list_any (λ g. g.register == h.register) held) (h.register == h.register || false)
            (or_left (h.register == h.register) false (eq-eqb h.register h.register refl))))
        | inr ne ↦
            ap (λ n. n == 1) (bit_at_set_other w64 used h.register (let w = index.word in omega (arith, there, w)) r
            (λ e. ne (sym e))) ∙ index.in_use r below
            ∙ sym (list_any-append (λ g. g.register == r) held (h ∷ [])
            ∙ ap (λ b. list_any (λ g. g.register == r) held || (b || false)) (ne_eqb h.register r ne)
            ∙ or_false (list_any (λ g. g.register == r) held))
      ];
      no_others = λ r above low.
          ap (λ n. n == 1) (bit_at_set_other w64 used h.register (omega (arith, there, above, low)) r
          (λ e. absurd (omega (arith, e, there, above)))) ∙ index.no_others r above low;
      of_block = λ r block below e. elim (holds_in_push held h r block e) [
        | inl old ↦ elim (cases_eq h.register r) [
          | inl same ↦
              subst (λ k. slice_index (set blocks h.register h.block) k ≡ block) same (here_block ∙ elim own [
                | inl free ↦ absurd (both_ways (holds_in held h.register block) (not_in free block)
                    (subst (λ k. holds_in held k block ≡ true) (sym same) old))
                | inr has ↦ sym (index.of_block h.register h.block there has)
                    ∙ index.of_block h.register block there (subst (λ k. holds_in held k block ≡ true) (sym same) old)
              ])
          | inr ne ↦ get_or-set_other blocks h.register r h.block 0 (λ x. ne (sym x)) ∙ index.of_block r block below old
        ]
        | inr new ↦ subst (λ k. slice_index (set blocks h.register h.block) k ≡ block) new.0 (here_block ∙ new.1)
      ];
    }
      where
        or_false : (b : Bool) → (b || (false || false)) ≡ b
        or_false true = refl
        or_false false = refl

        here_block : slice_index (set blocks h.register h.block) h.register ≡ h.block
        here_block = get_or-set_same blocks h.register h.block 0 (let l = index.long in omega (arith, there, l))

        not_in : is_free held h.register ≡ true → (block : ℕ) → holds_in held h.register block ≡ false
        not_in free block = go held (not-true (list_any (λ g. g.register == h.register) held) free)
          where
            go : (xs : List (Held T)) → list_any (λ g. g.register == h.register) xs ≡ false →
                holds_in xs h.register block ≡ false
            go [] x = refl
            go (g ∷ xs) x =
                let parts = or_parts (g.register == h.register) (list_any (λ k. k.register == h.register) xs) x in
                ap (λ b. (b && g.block == block) || holds_in xs h.register block) parts.0 ∙ go xs parts.1

    module _ (at block : ℕ) (there : at < registers) (has : holds_in held at block ≡ true) (once : HoldsOnce held) where
      -- what the registers hold once the block has left
      pub held_in-left : (r : ℕ) → r < registers → held_in (released held block) r ≡ cond (at == r) [] (held_in held r)
      held_in-left r below = elim (cases_eq at r) [
        | inl e ↦
            subst (λ k. held_in (released held block) k ≡ []) e
            (none_left at block held (λ other x. sym (index.of_block at other there x)
            ∙ index.of_block at block there has))
            ∙ sym (ap (λ b. cond b [] (held_in held r)) (eq-eqb at r e))
        | inr ne ↦
            filter_kept (λ h. h.register == r) (λ h. h.block == block) held (not_there r ne)
            ∙ sym (ap (λ b. cond b [] (held_in held r)) (ne_eqb at r ne))
      ]
        where
          not_there : (r : ℕ) → (at ≡ r → ⊥) → holds_in held r block ≡ false
          not_there r ne = elim (cases_Bool (holds_in held r block)) [
            | inl there_too ↦ absurd (ne (once block at r has there_too))
            | inr absent ↦ absent
          ]

      pub count_left : (r : ℕ) → r < registers → count_by (λ h. h.register == r) (released held block)
          ≡ cond (at == r) 0 (count_by (λ h. h.register == r) held)
      count_left r below =
          sym (length-filter (λ h. h.register == r) (released held block))
          ∙ ap (λ (hs : List (Held T)). length hs) (held_in-left r below)
          ∙ length_of (at == r)
        where
          length_of : (b : Bool) → length (cond b [] (held_in held r))
              ≡ cond b 0 (count_by (λ h. h.register == r) held)
          length_of true = refl
          length_of false = length-filter (λ h. h.register == r) held

      -- a block leaves the register that holds it
      pub IsIndexed-released : IsIndexed registers (bit_and used (bit_not w64 (1 * 2 ^ at % 2 ^ 64))) blocks
          (released held block)
      IsIndexed-released = record {
        long = index.long;
        word = index.word;
        in_use = λ r below.
            let left = any_counted (λ h. h.register == r) (released held block) ∙ ap (nat_lt 0) (count_left r below) in
            elim (cases_eq at r) [
              | inl e ↦
                  subst (λ k. is_under (bit_and used (bit_not w64 (1 * 2 ^ at % 2 ^ 64))) k ≡ false) e
                  (ap (λ n. n == 1) (bit_at_clear_same w64 used at (let w = index.word in omega (arith, there, w))))
                  ∙ sym (left ∙ ap (λ b. nat_lt 0 (cond {A = ℕ} b 0 (count_by (λ h. h.register == r) held)))
                  (eq-eqb at r e))
              | inr ne ↦
                  ap (λ n. n == 1) (bit_at_clear_other w64 used at (let w = index.word in omega (arith, there, w)) r
                  (let w = index.word in omega (arith, below, w)) (λ e. ne (sym e)))
                  ∙ index.in_use r below ∙ any_counted (λ h. h.register == r) held
                  ∙ sym (left ∙ ap (λ b. nat_lt 0 (cond {A = ℕ} b 0 (count_by (λ h. h.register == r) held)))
                  (ne_eqb at r ne))
            ];
        no_others = λ r above low.
            ap (λ n. n == 1) (bit_at_clear_other w64 used at (omega (arith, there, above, low)) r low
            (λ e. absurd (omega (arith, e, there, above)))) ∙ index.no_others r above low;
        of_block = λ r other below e. index.of_block r other below (released_holds held block r other e);
      }

      -- what the register that holds the block holds is of the block
      pub held_in-found : held_in held at ≡ targets_of held block
      held_in-found = held_in-is held at block
          (λ other x. sym (index.of_block at other there x) ∙ index.of_block at block there has)
          (λ other x. once block other at x has)

      -- the register that holds the block has the number of its targets
      pub counted-found : (counts : List ℕ) → IsCounted registers counts held →
          slice_index counts at ≡ length (targets_of held block)
      counted-found counts counted =
          counted.counted at there ∙ sym (length-filter (λ h. h.register == at) held)
          ∙ ap (λ (hs : List (Held T)). length hs) held_in-found

      pub IsCounted-released : (counts : List ℕ) → IsCounted registers counts held →
          IsCounted registers (set counts at 0) (released held block)
      IsCounted-released counts counted = record {
        long = length-set counts at 0 ∙ counted.long;
        counted = λ r below. elim (cases_eq at r) [
          | inl e ↦
              subst (λ k. slice_index (set counts at 0) k ≡ 0) e
              (get_or-set_same counts at 0 0 (let l = counted.long in omega (arith, there, l)))
              ∙ sym (count_left r below ∙ ap (λ b. cond {A = ℕ} b 0 (count_by (λ h. h.register == r) held))
              (eq-eqb at r e))
          | inr ne ↦
              get_or-set_other counts at r 0 0 (λ x. ne (sym x)) ∙ counted.counted r below
              ∙ sym (count_left r below ∙ ap (λ b. cond {A = ℕ} b 0 (count_by (λ h. h.register == r) held))
              (ne_eqb at r ne))
        ];
      }

  pub IsCounted-push : (registers : ℕ) (counts : List ℕ) (held : List (Held T)) → IsCounted registers counts held →
      (h : Held T) → h.register < registers
      → IsCounted registers (set counts h.register (slice_index counts h.register + 1)) (held ++ h ∷ [])
  IsCounted-push registers counts held counted h there = record {
    long = length-set counts h.register (slice_index counts h.register + 1) ∙ counted.long;
    counted = λ r below. elim (cases_eq h.register r) [
      | inl e ↦ subst (λ k. slice_index (set counts h.register (slice_index counts h.register + 1)) k
          ≡ count_by (λ g. g.register == k) (held ++ h ∷ [])) e
          (get_or-set_same counts h.register (slice_index counts h.register + 1) 0
          (let l = counted.long in omega (arith, there, l))
          ∙ ap (λ n. n + 1) (counted.counted h.register there)
          ∙ sym (count_push_yes (λ g. g.register == h.register) held h (eq-eqb h.register h.register refl)))
      | inr ne ↦
          get_or-set_other counts h.register r (slice_index counts h.register + 1) 0 (λ x. ne (sym x))
          ∙ counted.counted r below
          ∙ sym (count_push_no (λ g. g.register == r) held h (ne_eqb h.register r ne))
    ];
  }

  -- registers that are not there hold nothing
  pub unused : (registers : ℕ) (held : List (Held T)) → IsBelow registers held → (r : ℕ) → registers ≤ r →
      list_any (λ h. h.register == r) held ≡ false
  unused registers held below r above = any_counted (λ h. h.register == r) held
      ∙ none-lt (count_by (λ h. h.register == r) held) (below r above)

  pub unused_holds : (held : List (Held T)) (r block : ℕ) → list_any (λ h. h.register == r) held ≡ false →
      holds_in held r block ≡ false
  unused_holds held r block none = none_both (λ h. h.register == r) (λ h. h.block == block) held none

  -- a register that holds a block is one of those that there are
  pub holding-below : (registers : ℕ) (held : List (Held T)) → IsBelow registers held → (r block : ℕ) →
      holds_in held r block ≡ true → r < registers
  holding-below registers held below r block has = elim (cases_lt r registers) [
    | inl lt ↦ lt
    | inr le ↦ absurd (both_ways (holds_in held r block)
        (unused_holds held r block (unused registers held below r le)) has)
  ]

  held_by : (xs : List (Held T)) (block : ℕ) → holds xs block ≡ true → (r : ℕ) × (holds_in xs r block ≡ true)
  held_by [] block e = absurd (cc e)
  held_by (h ∷ xs) block e = elim (or_cases (h.block == block) (holds xs block) e) [
    | inl x ↦ (h.register, or_left _ _ (ap (λ b. b && h.block == block) (eq-eqb h.register h.register refl) ∙ x))
    | inr x ↦ let found = held_by xs block x in (found.0, or_right _ _ found.1)
  ]

  -- a block that none of the registers holds is not held
  pub unheld : (registers : ℕ) (held : List (Held T)) → IsBelow registers held → (block : ℕ) →
      ((r : ℕ) → r < registers → holds_in held r block ≡ false) → holds held block ≡ false
  unheld registers held below block none = elim (cases_Bool (holds held block)) [
    | inl e ↦
        let found = held_by held block e in
        elim (cases_lt found.0 registers) [
          | inl lt ↦ absurd (both_ways (holds_in held found.0 block) (none found.0 lt) found.1)
          | inr le ↦ absurd (both_ways (holds_in held found.0 block)
              (unused_holds held found.0 block (unused registers held below found.0 le)) found.1)
        ]
    | inr e ↦ e
  ]

  -- what is not held has no target, and nothing leaves with it
  pub targets-none : (xs : List (Held T)) (block : ℕ) → holds xs block ≡ false → targets_of xs block ≡ []
  targets-none [] block e = refl
  targets-none (h ∷ xs) block e =
      let parts = or_parts (h.block == block) (holds xs block) e in
      ap (λ b. cond b (h ∷ targets_of xs block) (targets_of xs block)) parts.0 ∙ targets-none xs block parts.1

  -- what was looked for among the registers is there where it was found
  pub found-is : (registers : ℕ) (held : List (Held T)) (block : ℕ) (found : Option ℕ) →
      IfSome found (λ r. (r < registers) × (holds_in held r block ≡ true))
      → IfNone found (holds held block ≡ false) → is_some found ≡ holds held block
  found-is registers held block None some none = sym none
  found-is registers held block (Some r) some none = sym (holds_from held r block some.1)

  -- the one register that holds the block says whether there is room
  pub room-found : (registers : ℕ) (held : List (Held T)) → HoldsOnce held → (block r : ℕ) → r < registers →
      holds_in held r block ≡ true → (takes : ℕ → Bool) (free : Bool)
      → takes r ≡ cond (holds held block) (list_any (λ k. holds_in held k block && takes k)
      (range_with_len 0 registers)) free
  room-found registers held once block r there has takes free =
      some (takes r) refl ∙ sym (ap (λ b. cond b (list_any (λ k. holds_in held k block && takes k)
      (range_with_len 0 registers)) free) (holds_from held r block has))
    where
      none : takes r ≡ false → (k : ℕ) → (holds_in held k block && takes k) ≡ false
      none e k = elim (cases_Bool (holds_in held k block)) [
        | inl same ↦ ap (λ b. b && takes k) same ∙ ap takes (once block k r same has) ∙ e
        | inr other ↦ ap (λ b. b && takes k) other
      ]

      some : (b : Bool) → takes r ≡ b → takes r ≡ list_any (λ k. holds_in held k block && takes k)
          (range_with_len 0 registers)
      some true e =
          let whole = get_or-range_with_len 0 registers r 0 there in
          let is : get_or (range_with_len 0 registers) r 0 ≡ r = omega (arith, whole) in
          let long = length-range_with_len 0 registers in
          e ∙ sym (list_any_at (λ k. holds_in held k block && takes k) (range_with_len 0 registers) r 0
          (omega (arith, there, long))
          (ap (λ k. holds_in held k block && takes k) is ∙ ap (λ b. b && takes r) has ∙ e))
      some false e = e ∙ sym (none_any (λ k. holds_in held k block && takes k) (none e) (range_with_len 0 registers))

  -- empty arrays say that nothing is held
  pub IsIndexed-empty : (registers : ℕ) → registers ≤ 64 → IsIndexed {T = T} registers 0 (replicate registers 0) []
  IsIndexed-empty registers few = record {
    long = length-replicate registers 0;
    word = few;
    in_use = λ r below. ap (λ n. n == 1) (bit_at-zero r);
    no_others = λ r above low. ap (λ n. n == 1) (bit_at-zero r);
    of_block = λ r block below e. absurd (cc e);
  }

  pub IsCounted-empty : (registers : ℕ) → IsCounted {T = T} registers (replicate registers 0) []
  IsCounted-empty registers = record {
    long = length-replicate registers 0;
    counted =
        λ r below. get_or-replicate registers r 0 0 below;
  }
