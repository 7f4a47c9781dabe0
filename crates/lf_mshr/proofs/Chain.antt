-- Places linked in the order in which they were taken, as places are taken and left.
use Rattle.std.proofs.Common.{◌≡◌, ℕ, zero, suc, ◌+◌, ◌-◌, ◌*◌, ◌/◌, ◌%◌, ◌<◌, ◌≤◌, Bool, true, false, cond, not}
use Rattle.std.proofs.Common.{◌&&◌, ◌||◌, ◌==◌, List, [], ◌∷◌, ◌++◌, length}
use Rattle.std.proofs.Common.{map, get_or, inl, inr, refl, sym, ap, ◌∙◌, subst, arith, eq-eqb, ne_eqb, set, replicate}
use Rattle.std.proofs.Common.{slice_index}
use Rattle.std.specs.Prelude.{count_by}
use Rattle.std.specs.List.{list_any, fold}
use Rattle.std.proofs.lemmas.Bool.{cases_eq, cases_lt}
use Rattle.std.proofs.lemmas.List.{length-set, get_or-set_same, get_or-set_other}
use Rattle.std.proofs.lemmas.List.{get_or-replicate, length-replicate, get_or_past, append-nil}
use Rattle.std.proofs.lemmas.List.Folds.{list_any-append}
use Rattle.std.proofs.lemmas.List.Sums.{sum_by-append}
use Rattle.std.proofs.lemmas.Nat.Bits.{bit_at-zero}
use Rattle.std.proofs.Math.Seq.{append_snoc}
use Rattle.lf_rules.specs.Address.{is_under}
use Rattle.lf_mshr.specs.Places.{is_marked, walk, last_of, AreOnce, pick, placed, held_of, IsChain}
use Rattle.lf_rules.specs.Registers.{Held, holds, targets_of}
use Rattle.lf_mshr.proofs.Bounds.{length_by_keys}
use Rattle.lf_mshr.proofs.Counts.{count_cons, count_push, none_passes}

-- how often a place occurs
abbrev pub at : ℕ → List ℕ → ℕ
at place xs = count_by (λ x. x == place) xs

at_head : (x place : ℕ) (xs : List ℕ) → x ≡ place → at place (x ∷ xs) ≡ at place xs + 1
at_head x place xs e =
    let whole = count_cons (λ y. y == place) x xs in
    let here : cond {A = ℕ} (x == place) 1 0 ≡ 1 = ap (λ b. cond {A = ℕ} b 1 0) (eq-eqb x place e) in
    omega (arith, whole, here)

at_tail : (x place : ℕ) (xs : List ℕ) → (x ≡ place → ⊥) → at place (x ∷ xs) ≡ at place xs
at_tail x place xs ne =
    let whole = count_cons (λ y. y == place) x xs in
    let here : cond {A = ℕ} (x == place) 1 0 ≡ 0 = ap (λ b. cond {A = ℕ} b 1 0) (ne_eqb x place ne) in
    omega (arith, whole, here)

at_more : (x place : ℕ) (xs : List ℕ) → at place xs ≤ at place (x ∷ xs)
at_more x place xs = elim (cases_eq x place) [
  | inl e ↦ let h = at_head x place xs e in omega (arith, h)
  | inr ne ↦ let h = at_tail x place xs ne in omega (arith, h)
]

-- what does not occur is not the head, and does not occur in the tail
not_head : (x place : ℕ) (xs : List ℕ) → at place (x ∷ xs) ≡ 0 → x ≡ place → ⊥
not_head x place xs none e = let h = at_head x place xs e in absurd (omega (arith, h, none))

not_tail : (x place : ℕ) (xs : List ℕ) → at place (x ∷ xs) ≡ 0 → at place xs ≡ 0
not_tail x place xs none = let h = at_more x place xs in omega (arith, h, none)

last_in : (start : ℕ) (xs : List ℕ) → 1 ≤ at (last_of start xs) (start ∷ xs)
last_in start [] = let h = at_head start start [] refl in omega (arith, h)
last_in start (x ∷ xs) = let h = last_in x xs in let k = at_more start (last_of x xs) (x ∷ xs) in omega (arith, h, k)

last_of-push : (start place : ℕ) (xs : List ℕ) → last_of start (xs ++ place ∷ []) ≡ place
last_of-push start place [] = refl
last_of-push start place (x ∷ xs) = last_of-push x place xs

last_of-append : (start : ℕ) (xs ys : List ℕ) → last_of start (xs ++ ys) ≡ last_of (last_of start xs) ys
last_of-append start [] ys = refl
last_of-append start (x ∷ xs) ys = last_of-append x xs ys

length-walk : (n : ℕ → ℕ) (a len : ℕ) → length (walk n a len) ≡ len
length-walk n a zero = refl
length-walk n a (suc len) = ap suc (length-walk n (n a) len)

pub walk-step : (n : ℕ → ℕ) (a len : ℕ) → 0 < len → walk n a len ≡ n a ∷ walk n (n a) (len - 1)
walk-step n a zero some = absurd (omega (arith, some))
walk-step n a (suc len) some = ap (λ (k : ℕ). n a ∷ walk n (n a) k) (omega arith)

-- a walk goes on from its last place
walk-append : (n : ℕ → ℕ) (a k l : ℕ) → walk n a (k + l) ≡ walk n a k ++ walk n (last_of a (walk n a k)) l
walk-append n a zero l = ap (walk n a) (omega arith)
walk-append n a (suc k) l = ap (walk n a) step ∙ ap (λ (xs : List ℕ). n a ∷ xs) (walk-append n (n a) k l)
  where
    step : suc k + l ≡ suc (k + l)
    step = omega arith

-- The links n become m, which differ at one place.
module _ (n m : ℕ → ℕ) (last place : ℕ) (linked : m last ≡ place) (same : (k : ℕ) → (k ≡ last → ⊥) → m k ≡ n k) where
  walk-push : (a len : ℕ) → last_of a (walk n a len) ≡ last → ((k : ℕ) → at k (a ∷ walk n a len) ≤ 1) →
      walk m a (suc len) ≡ walk n a len ++ place ∷ []
  walk-push a zero e once = ap (λ (k : ℕ). k ∷ []) (ap m e ∙ linked)
  walk-push a (suc len) e once =
      let found = last_in (n a) (walk n (n a) len) in
      let apart : a ≡ last → ⊥ = λ x.
      let h = at_head a last (n a ∷ walk n (n a) len) x in
      let o = once last in
      let f = ap (λ k. at k (n a ∷ walk n (n a) len)) e in
      absurd (omega (arith, found, h, o, f)) in
      let first : m a ≡ n a = same a apart in
      ap (λ k. k ∷ walk m k (suc len)) first
      ∙ ap (λ (xs : List ℕ). n a ∷ xs) (walk-push (n a) len e
      (λ k. let t = at_more a k (n a ∷ walk n (n a) len) in let o = once k in omega (arith, t, o)))

  -- a walk that does not come by the place stays
  walk-off : (a len : ℕ) → (a ≡ last → ⊥) → at last (walk n a len) ≡ 0 → walk m a len ≡ walk n a len
  walk-off a zero ne off = refl
  walk-off a (suc len) ne off =
      ap (λ k. k ∷ walk m k len) (same a ne)
      ∙ ap (λ (xs : List ℕ). n a ∷ xs) (walk-off (n a) len (not_head (n a) last (walk n (n a) len) off)
      (not_tail (n a) last (walk n (n a) len) off))

module _ {A : Type 0} where
  pub pick-is : (xs : List A) (place : ℕ) (d : A) → place < length xs → pick xs place ≡ get_or xs place d ∷ []
  pick-is [] place d lt = absurd (omega (arith, lt))
  pick-is (x ∷ xs) zero d lt = refl
  pick-is (x ∷ xs) (suc place) d lt = pick-is xs place d (omega (arith, lt))

  pick-set_same : (xs : List A) (place : ℕ) (y : A) → place < length xs → pick (set xs place y) place ≡ y ∷ []
  pick-set_same [] place y lt = absurd (omega (arith, lt))
  pick-set_same (x ∷ xs) zero y lt = refl
  pick-set_same (x ∷ xs) (suc place) y lt = pick-set_same xs place y (omega (arith, lt))

  pub placed-cons : (items : List A) (place : ℕ) (d : A) (ps : List ℕ) → place < length items →
      placed items (place ∷ ps) ≡ (place, get_or items place d) ∷ placed items ps
  placed-cons items place d ps lt = ap (λ (xs : List A). map (λ x. (place, x)) xs ++ placed items ps)
      (pick-is items place d lt)

  -- a further place, which is not among them
  placed-push : (items : List A) (place : ℕ) (y : A) (ps : List ℕ) → place < length items → at place ps ≡ 0
      → ((k : ℕ) → length items ≤ k → at k ps ≡ 0) → placed (set items place y) (ps ++ place ∷ []) ≡ placed items ps
      ++ (place, y) ∷ []
  placed-push items place y [] lt off below = ap (λ (xs : List A). map (λ x. (place, x)) xs ++ [])
      (pick-set_same items place y lt)
  placed-push items place y (p ∷ ps) lt off below =
      let long = length-set items place y in
      let in_items : p < length items = head-below items p ps below in
      placed-cons (set items place y) p y (ps ++ place ∷ []) (omega (arith, long, in_items))
      ∙ ap (λ (x : A). (p, x) ∷ placed (set items place y) (ps ++ place ∷ []))
      (get_or-set_other items place p y y (not_head p place ps off))
      ∙ ap (λ (qs : List (ℕ × A)). (p, get_or items p y) ∷ qs)
      (placed-push items place y ps lt (not_tail p place ps off) (λ k le. not_tail p k ps (below k le)))
      ∙ sym (ap (λ (qs : List (ℕ × A)). qs ++ (place, y) ∷ []) (placed-cons items p y ps in_items))
    where
      head-below : (items : List A) (p : ℕ) (ps : List ℕ) → ((k : ℕ) → length items ≤ k → at k (p ∷ ps) ≡ 0) →
          p < length items
      head-below items p ps below = elim (cases_lt p (length items)) [
        | inl lt ↦ lt
        | inr le ↦ absurd (not_head p p ps (below p le) refl)
      ]

  taken-is : (items : List A) (place : ℕ) (ps : List ℕ) → ((k : ℕ) → length items ≤ k → at k ps ≡ 0)
      → list_any (λ q. q.0 == place) (placed items ps) ≡ list_any (λ x. x == place) ps
  taken-is items place [] below = refl
  taken-is [] place (p ∷ ps) below = absurd (not_head p p ps (below p (omega arith)) refl)
  taken-is (x ∷ items) place (p ∷ ps) below =
      ap (list_any (λ (q : ℕ × A). q.0 == place)) (placed-cons (x ∷ items) p x ps
      (elim (cases_lt p (length (x ∷ items))) [
        | inl lt ↦ lt
        | inr le ↦ absurd (not_head p p ps (below p le) refl)
      ]))
      ∙ ap (λ b. p == place || b) (taken-is (x ∷ items) place ps (λ k le. not_tail p k ps (below k le)))

  placed-length : (items : List A) (ps : List ℕ) → ((k : ℕ) → length items ≤ k → at k ps ≡ 0) →
      length (placed items ps) ≡ length ps
  placed-length items [] below = refl
  placed-length [] (p ∷ ps) below = absurd (not_head p p ps (below p (omega arith)) refl)
  placed-length (x ∷ items) (p ∷ ps) below =
      ap (λ (qs : List (ℕ × A)). length qs) (placed-cons (x ∷ items) p x ps
      (elim (cases_lt p (length (x ∷ items))) [
        | inl lt ↦ lt
        | inr le ↦ absurd (not_head p p ps (below p le) refl)
      ]))
      ∙ ap suc (placed-length (x ∷ items) ps (λ k le. not_tail p k ps (below k le)))

-- What links say of their places.
module _ {A : Type 0} (items : List A) (next used : List ℕ) (end last len : ℕ)
    (chain : IsChain items next used end last len) where
  abbrev order : List ℕ
  order = walk (slice_index next) end len

  all_once : (k : ℕ) → at k (end ∷ order) ≤ 1
  all_once k = elim (cases_eq end k) [
    | inl e ↦ let h = at_head end k order e in let o = chain.places.none k (omega (arith, e)) in omega (arith, h, o)
    | inr ne ↦ let h = at_tail end k order ne in let o = chain.places.once k in omega (arith, h, o)
  ]

  pub last-le : last ≤ end
  last-le =
      let found = ap (λ k. at k (end ∷ order)) chain.ends in
      let some = last_in end order in
      elim (cases_lt end last) [
        | inr le ↦ omega (arith, le)
        | inl lt ↦
            let h = at_tail end last order (λ e. absurd (omega (arith, lt, e))) in
            let o = chain.places.none last (omega (arith, lt)) in
            absurd (omega (arith, found, some, h, o))
      ]

  pub len-le : len ≤ 4096
  len-le =
      let most = length_by_keys (λ (x : ℕ). x) end 1 order chain.places.once chain.places.none in
      let long = length-walk (slice_index next) end len in
      let few = chain.few in
      omega (arith, most, long, few)

  pub count-is : length (placed items order) ≡ len
  count-is =
      placed-length items order (λ k le. let long = chain.long in chain.places.none k (omega (arith, le, long)))
      ∙ length-walk (slice_index next) end len

  pub taken-as : (place : ℕ) → is_marked used place ≡ list_any (λ q. q.0 == place) (placed items order)
  taken-as place =
      chain.marked place
      ∙ sym (taken-is items place order (λ k le. let long = chain.long in
      chain.places.none k (omega (arith, le, long))))

  pub chain-push : (place : ℕ) (item : A) (more : List ℕ) → place < end →
      list_any (λ q. q.0 == place) (placed items order) ≡ false
      → length more ≡ length used → ((b : ℕ) → is_marked more b ≡ (b == place || is_marked used b))
      → IsChain (set items place item) (set next last place) more end place (len + 1)
      × (placed (set items place item) (walk (slice_index (set next last place)) end (len + 1)) ≡ placed items order
      ++ (place, item) ∷ [])
  chain-push place item more there free long bits =
      let all_below : (k : ℕ) → length items ≤ k → at k order ≡ 0 =
      λ k le. (let n = chain.long in chain.places.none k (omega (arith, le, n))) in
      let not_in = none_passes (λ x. x == place) order (sym (taken-is items place order all_below) ∙ free) in
      let low = last-le in
      let nx = chain.links in
      let il = chain.long in
      let wide = chain.words in
      let more_by : len + 1 ≡ suc len = omega arith in
      let grown = ap (walk (slice_index (set next last place)) end) more_by in
      let walked : walk (slice_index (set next last place)) end (len + 1) ≡ order ++ place ∷ [] =
      grown ∙ walk-push (slice_index next) (slice_index (set next last place)) last place
      (get_or-set_same next last place 0 (omega (arith, nx, low)))
      (λ k ne. get_or-set_other next last k place 0 ne) end len chain.ends all_once in (
        record {
          few = chain.few;
          long = length-set items place item ∙ chain.long;
          links = length-set next last place ∙ chain.links;
          words = omega (arith, wide, long);
          ends = ap (last_of end) walked ∙ last_of-push end place order;
          places = subst (AreOnce end) (sym walked) (record {
            once = λ k. elim (cases_eq place k) [
              | inl e ↦
                  let h = count_push (λ x. x == k) order place in
                  let o = subst (λ j. at j order ≡ 0) e not_in in
                  let t : cond {A = ℕ} (place == k) 1 0 ≡ 1 = ap (λ t. cond {A = ℕ} t 1 0) (eq-eqb place k e) in
                  omega (arith, h, o, t)
              | inr ne ↦
                  let h = count_push (λ x. x == k) order place in
                  let o = chain.places.once k in
                  let t : cond {A = ℕ} (place == k) 1 0 ≡ 0 = ap (λ t. cond {A = ℕ} t 1 0) (ne_eqb place k ne) in
                  omega (arith, h, o, t)
            ];
            none = λ k above.
                let ne : place ≡ k → ⊥ = λ e. absurd (omega (arith, e, above, there)) in
                let h = count_push (λ x. x == k) order place in
                let o = chain.places.none k above in
                let t : cond {A = ℕ} (place == k) 1 0 ≡ 0 = ap (λ t. cond {A = ℕ} t 1 0) (ne_eqb place k ne) in
                omega (arith, h, o, t);
          });
          marked = λ k. bits k ∙ ap (λ b. k == place || b) (chain.marked k) ∙ turned k (list_any (λ x. x == k) order)
              ∙ sym (list_any-append (λ x. x == k) order (place ∷ [])) ∙ ap (list_any (λ x. x == k)) (sym walked);
        },
        ap (placed (set items place item)) walked ∙ placed-push items place item order (omega (arith, there, il))
            not_in all_below,
      )
    where
      turned : (k : ℕ) (b : Bool) → (k == place || b) ≡ (b || (place == k || false))
      turned k b = elim (cases_eq k place) [
        | inl e ↦ ap (λ t. t || b) (eq-eqb k place e) ∙ sym
            (ap (λ t. b || (t || false)) (eq-eqb place k (sym e)) ∙ one b)
        | inr ne ↦ ap (λ t. t || b) (ne_eqb k place ne) ∙ sym
            (ap (λ t. b || (t || false)) (ne_eqb place k (λ e. ne (sym e))) ∙ none b)
      ]
        where
          one : (b : Bool) → (b || true) ≡ true
          one true = refl
          one false = refl

          none : (b : Bool) → (b || false) ≡ b
          none true = refl
          none false = refl

-- no place is in use
pub chain-empty : {A : Type 0} (items : List A) (next used : List ℕ) (end : ℕ) → end ≤ 4096 → length items ≡ end →
    length next ≡ end + 1 → end ≤ 64 * length used
    → ((place : ℕ) → is_marked used place ≡ false) → IsChain items next used end end 0
chain-empty items next used end few long links words clear = record {
  few = few;
  long = long;
  links = links;
  words = words;
  ends = refl;
  places = record { once = λ k. omega arith; none = λ k above. refl };
  marked = clear;
}

pub clear_words : (n place : ℕ) → is_marked (replicate n 0) place ≡ false
clear_words n place = ap (λ w. is_under w (place % 64)) none ∙ ap (λ b. b == 1) (bit_at-zero (place % 64))
  where
    none : slice_index (replicate n 0) (place / 64) ≡ 0
    none = elim (cases_lt (place / 64) n) [
      | inl lt ↦ get_or-replicate n (place / 64) 0 0 lt
      | inr le ↦ (let long = length-replicate {A = ℕ} n 0 in
          get_or_past (replicate n 0) (place / 64) 0 (omega (arith, long, le)))
    ]

-- a walk below an end
module _ (n : ℕ → ℕ) (a left end : ℕ) (some : 0 < left) (below : (k : ℕ) → end ≤ k → at k (walk n a left) ≡ 0) where
  below_step : (k : ℕ) → end ≤ k → at k (n a ∷ walk n (n a) (left - 1)) ≡ 0
  below_step k le = ap (at k) (sym (walk-step n a left some)) ∙ below k le

  pub first-below : n a < end
  first-below = elim (cases_lt (n a) end) [
    | inl lt ↦ lt
    | inr le ↦ absurd (not_head (n a) (n a) (walk n (n a) (left - 1)) (below_step (n a) le) refl)
  ]

  pub rest-below : (k : ℕ) → end ≤ k → at k (walk n (n a) (left - 1)) ≡ 0
  rest-below k le = not_tail (n a) k (walk n (n a) (left - 1)) (below_step k le)

-- the first place of a walk and what it holds, before the rest
pub placed-step : {A : Type 0} (items : List A) (n : ℕ → ℕ) (a left : ℕ) (d : A) → 0 < left → n a < length items
    → placed items (walk n a left) ≡ (n a, get_or items (n a) d) ∷ placed items (walk n (n a) (left - 1))
placed-step items n a left d some fits = ap (placed items) (walk-step n a left some)
    ∙ placed-cons items (n a) d (walk n (n a) (left - 1)) fits

module _ {T : Type 0} where
  pub holds-step : (items : List (Held T)) (n : ℕ → ℕ) (a left : ℕ) (d : Held T) (block : ℕ) → 0 < left →
      n a < length items
      → holds (held_of (placed items (walk n a left))) block
      ≡ ((get_or items (n a) d).block == block || holds (held_of (placed items (walk n (n a) (left - 1)))) block)
  holds-step items n a left d block some fits = ap (λ (q : List (ℕ × Held T)). holds (held_of q) block)
      (placed-step items n a left d some fits)

  module _ (f : ℕ → Held T → ℕ) (items : List (Held T)) (n : ℕ → ℕ) (a left : ℕ) (d : Held T) (block : ℕ)
      (some : 0 < left) (fits : n a < length items) (x : ℕ) where
    pub fold-step_own : (get_or items (n a) d).block ≡ block
        → fold f x (targets_of (held_of (placed items (walk n a left))) block)
        ≡ fold f (f x (get_or items (n a) d)) (targets_of (held_of (placed items (walk n (n a) (left - 1))))
        block)
    fold-step_own own =
        ap (λ (q : List (ℕ × Held T)). fold f x (targets_of (held_of q) block)) (placed-step items n a left d some fits)
        ∙ ap (λ b. fold f x (cond b (get_or items (n a) d ∷ targets_of
        (held_of (placed items (walk n (n a) (left - 1)))) block)
        (targets_of (held_of (placed items (walk n (n a) (left - 1)))) block)))
        (eq-eqb (get_or items (n a) d).block block own)

    pub fold-step_other : ((get_or items (n a) d).block ≡ block → ⊥)
        → fold f x (targets_of (held_of (placed items (walk n a left))) block)
        ≡ fold f x (targets_of (held_of (placed items (walk n (n a) (left - 1)))) block)
    fold-step_other other =
        ap (λ (q : List (ℕ × Held T)). fold f x (targets_of (held_of q) block)) (placed-step items n a left d some fits)
        ∙ ap (λ b. fold f x (cond b (get_or items (n a) d ∷ targets_of
        (held_of (placed items (walk n (n a) (left - 1)))) block)
        (targets_of (held_of (placed items (walk n (n a) (left - 1)))) block)))
        (ne_eqb (get_or items (n a) d).block block other)

at-append : (k : ℕ) (xs ys : List ℕ) → at k (xs ++ ys) ≡ at k xs + at k ys
at-append k xs ys = sum_by-append (λ x. cond (x == k) 1 0) xs ys

-- What is left of a chain in the middle of a release: the places that were kept, linked anew, and those still to come.
pub record IsParted (long : ℕ) (next used : List ℕ) (end last kept a left : ℕ) : Type 0 where
  pub links : length next ≡ end + 1
  pub words : length used ≡ long
  pub ends : last_of end (walk (slice_index next) end kept) ≡ last
  pub places : AreOnce end (walk (slice_index next) end kept ++ walk (slice_index next) a left)
  pub marked : (place : ℕ) → is_marked used place ≡ list_any (λ x. x == place)
      (walk (slice_index next) end kept ++ walk (slice_index next) a left)

module _ (long : ℕ) (next used : List ℕ) (end last kept a left : ℕ)
    (parted : IsParted long next used end last kept a left) where
  abbrev old_kept : List ℕ
  old_kept = walk (slice_index next) end kept

  pub come-below : (k : ℕ) → end ≤ k → at k (walk (slice_index next) a left) ≡ 0
  come-below k le =
      let none = parted.places.none k le in
      let both = at-append k old_kept (walk (slice_index next) a left) in
      omega (arith, none, both)

  kept_once : (k : ℕ) → at k (end ∷ old_kept) ≤ 1
  kept_once k = elim (cases_eq end k) [
    | inl e ↦ let h = at_head end k old_kept e in let b = at-append k old_kept (walk (slice_index next) a left) in
        let o = parted.places.none k (omega (arith, e)) in omega (arith, h, b, o)
    | inr ne ↦ let h = at_tail end k old_kept ne in let b = at-append k old_kept (walk (slice_index next) a left) in
        let o = parted.places.once k in omega (arith, h, b, o)
  ]

  pub last-fits : last < end + 1
  last-fits =
      let found = ap (λ k. at k (end ∷ old_kept)) parted.ends in
      let some = last_in end old_kept in
      elim (cases_lt end last) [
        | inr le ↦ omega (arith, le)
        | inl lt ↦
            let h = at_tail end last old_kept (λ e. absurd (omega (arith, lt, e))) in
            let o = parted.places.none last (omega (arith, lt)) in
            let b = at-append last old_kept (walk (slice_index next) a left) in
            absurd (omega (arith, found, some, h, o, b))
      ]

  module _ (some : 0 < left) where
    abbrev place : ℕ
    place = slice_index next a

    abbrev rest : List ℕ
    rest = walk (slice_index next) (slice_index next a) (left - 1)

    stepped : walk (slice_index next) a left ≡ place ∷ rest
    stepped = walk-step (slice_index next) a left some

    all-once : (k : ℕ) → at k old_kept + at k (place ∷ rest) ≤ 1
    all-once k =
        let o = parted.places.once k in
        let b = at-append k old_kept (walk (slice_index next) a left) in
        let s = ap (at k) stepped in
        omega (arith, o, b, s)

    all-below : (k : ℕ) → end ≤ k → at k old_kept + at k (place ∷ rest) ≡ 0
    all-below k le =
        let o = parted.places.none k le in
        let b = at-append k old_kept (walk (slice_index next) a left) in
        let s = ap (at k) stepped in
        omega (arith, o, b, s)

    -- the place is not kept
    pub parted-drop : (less : List ℕ) → length less ≡ length used →
        ((b : ℕ) → is_marked less b ≡ (not (b == place) && is_marked used b))
        → IsParted long next less end last kept place (left - 1)
    parted-drop less same bits = record {
      links = parted.links;
      words = same ∙ parted.words;
      ends = parted.ends;
      places = record {
        once = λ k.
            let o = all-once k in
            let b = at-append k old_kept rest in
            let t = at_more place k rest in
            omega (arith, o, b, t);
        none = λ k le.
            let o = all-below k le in
            let b = at-append k old_kept rest in
            let t = at_more place k rest in
            omega (arith, o, b, t);
      };
      marked = λ k. bits k ∙ ap (λ b. not (k == place) && b)
          (parted.marked k ∙ ap (λ (xs : List ℕ). list_any (λ x. x == k) (old_kept ++ xs)) stepped) ∙ without k;
    }
      where
        none_in : (k : ℕ) (xs : List ℕ) → at k xs ≡ 0 → list_any (λ x. x == k) xs ≡ false
        none_in k [] none = refl
        none_in k (x ∷ xs) none = ap (λ b. b || list_any (λ y. y == k) xs) (ne_eqb x k (not_head x k xs none))
            ∙ none_in k xs (not_tail x k xs none)

        without : (k : ℕ) → (not (k == place) && list_any (λ x. x == k) (old_kept ++ place ∷ rest))
            ≡ list_any (λ x. x == k) (old_kept ++ rest)
        without k = elim (cases_eq k place) [
          | inl e ↦
              ap (λ b. not b && list_any (λ x. x == k) (old_kept ++ place ∷ rest)) (eq-eqb k place e)
              ∙ sym (none_in k (old_kept ++ rest) (let o = all-once k in let b = at-append k old_kept rest in let h =
              at_head place k rest (sym e) in omega (arith, o, b, h)))
          | inr ne ↦
              ap (λ b. not b && list_any (λ x. x == k) (old_kept ++ place ∷ rest)) (ne_eqb k place ne)
              ∙ list_any-append (λ x. x == k) old_kept (place ∷ rest)
              ∙ ap (λ b. list_any (λ x. x == k) old_kept || (b || list_any (λ x. x == k) rest))
              (ne_eqb place k (λ e. ne (sym e)))
              ∙ sym (list_any-append (λ x. x == k) old_kept rest)
        ]

    keep_last : at last (place ∷ rest) ≡ 0
    keep_last =
        let found = ap (λ k. at k (end ∷ old_kept)) parted.ends in
        let in_kept = last_in end old_kept in
        elim (cases_eq end last) [
          | inl e ↦ let o = all-below last (omega (arith, e)) in omega (arith, o)
          | inr ne ↦ let t = at_tail end last old_kept ne in let o = all-once last in
              omega (arith, found, in_kept, t, o)
        ]

    pub kept-is : walk (slice_index (set next last place)) end (kept + 1) ≡ old_kept ++ place ∷ []
    kept-is =
        let low = last-fits in
        let nx = parted.links in
        let more_by : kept + 1 ≡ suc kept = omega arith in
        ap (walk (slice_index (set next last place)) end) more_by
        ∙ walk-push (slice_index next) (slice_index (set next last place)) last place
        (get_or-set_same next last place 0 (omega (arith, nx, low)))
        (λ k ne. get_or-set_other next last k place 0 ne) end kept parted.ends kept_once

    pub rest-is : walk (slice_index (set next last place)) place (left - 1) ≡ rest
    rest-is =
        let low = last-fits in
        let nx = parted.links in
        walk-off (slice_index next) (slice_index (set next last place)) last place
        (get_or-set_same next last place 0 (omega (arith, nx, low)))
        (λ k ne. get_or-set_other next last k place 0 ne)
        place (left - 1) (not_head place last rest keep_last) (not_tail place last rest keep_last)

    pub keep-all : walk (slice_index (set next last place)) end (kept + 1)
        ++ walk (slice_index (set next last place)) place (left - 1) ≡ old_kept ++ walk (slice_index next) a left
    keep-all =
        ap (λ (xs : List ℕ). xs ++ walk (slice_index (set next last place)) place (left - 1)) kept-is
        ∙ ap (λ (xs : List ℕ). old_kept ++ place ∷ [] ++ xs) rest-is
        ∙ append_snoc old_kept place rest
        ∙ ap (λ (xs : List ℕ). old_kept ++ xs) (sym stepped)

    -- the place is kept, as the last so far
    pub parted-keep : IsParted long (set next last place) used end place (kept + 1) place (left - 1)
    parted-keep = record {
      links = length-set next last place ∙ parted.links;
      words = parted.words;
      ends = ap (last_of end) kept-is ∙ last_of-push end place old_kept;
      places = subst (AreOnce end) (sym keep-all) parted.places;
      marked = λ k. parted.marked k ∙ ap (list_any (λ x. x == k)) (sym keep-all);
    }

pub parted-walk : (long : ℕ) (next used : List ℕ) (end kept a left : ℕ) → IsParted long next used end a kept a left
    → walk (slice_index next) end (kept + left) ≡ walk (slice_index next) end kept ++ walk (slice_index next) a left
parted-walk long next used end kept a left parted =
    walk-append (slice_index next) end kept left
    ∙ ap (λ k. walk (slice_index next) end kept ++ walk (slice_index next) k left) parted.ends

-- nothing is still to come
pub chain-parted : {A : Type 0} (items : List A) (long : ℕ) (next used : List ℕ) (end last kept a left : ℕ) →
    left ≡ 0 → end ≤ 4096 → length items ≡ end → end ≤ 64 * long
    → IsParted long next used end last kept a left → IsChain items next used end last kept
chain-parted items long next used end last kept a left none few fits wide parted =
    let all : walk (slice_index next) end kept ++ walk (slice_index next) a left ≡ walk (slice_index next) end kept =
    ap (λ l. walk (slice_index next) end kept ++ walk (slice_index next) a l) none
    ∙ append-nil (walk (slice_index next) end kept) in
    let words = parted.words in
    record {
      few = few;
      long = fits;
      links = parted.links;
      words = omega (arith, wide, words);
      ends = parted.ends;
      places = subst (AreOnce end) all parted.places;
      marked = λ k. parted.marked k ∙ ap (list_any (λ x. x == k)) all;
    }

-- the last place that was kept is the one before those still to come, which are kept as they are
pub chain-joined : {A : Type 0} (items : List A) (long : ℕ) (next used : List ℕ) (end kept a left : ℕ) → end ≤ 4096
    → length items ≡ end → end ≤ 64 * long → IsParted long next used end a kept a left
    → IsChain items next used end (last_of a (walk (slice_index next) a left)) (kept + left)
chain-joined items long next used end kept a left few fits wide parted =
    let walked = parted-walk long next used end kept a left parted in
    let words = parted.words in
    record {
      few = few;
      long = fits;
      links = parted.links;
      words = omega (arith, wide, words);
      ends = ap (last_of end) walked
          ∙ last_of-append end (walk (slice_index next) end kept) (walk (slice_index next) a left)
          ∙ ap (λ k. last_of k (walk (slice_index next) a left)) parted.ends;
      places = subst (AreOnce end) (sym walked) parted.places;
      marked = λ k. parted.marked k ∙ ap (list_any (λ x. x == k)) (sym walked);
    }

-- nothing was released yet
pub parted-chain : {A : Type 0} (items : List A) (next used : List ℕ) (end last len : ℕ) →
    IsChain items next used end last len → IsParted (length used) next used end end 0 end len
parted-chain items next used end last len chain = record {
  links = chain.links;
  words = refl;
  ends = refl;
  places =
      chain.places;
  marked = chain.marked;
}
