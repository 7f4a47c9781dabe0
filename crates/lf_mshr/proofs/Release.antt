-- A release: places of a block leave the links, and the others keep their order.
use Rattle.std.proofs.Common.{◌≡◌, ℕ, ◌+◌, ◌-◌, ◌*◌, ◌<◌, ◌≤◌, ◌⊎◌, false, cond, not, ◌&&◌, ◌||◌, ◌==◌, List, [], ◌∷◌}
use Rattle.std.proofs.Common.{◌++◌, length, map, get_or, inl, inr, refl, sym, ap, ◌∙◌, subst, arith, eq-eqb, ne_eqb}
use Rattle.std.proofs.Common.{set}
use Rattle.std.proofs.Common.{slice_index}
use Rattle.std.proofs.lemmas.Bool.{cases_eq}
use Rattle.std.proofs.lemmas.List.{append-nil, append_assoc, length_push, length-append, length-map, nil_from_length}
use Rattle.std.proofs.Math.Seq.{append_snoc}
use Rattle.lf_mshr.specs.Places.{is_marked, walk, last_of, pick, placed, held_of, left_of, IsChain}
use Rattle.lf_rules.specs.Registers.{Held, holds, targets_of}
use Rattle.lf_mshr.specs.RegisterFile.{released_pair}
use Rattle.lf_mshr.proofs.Chain.{IsParted, placed-cons, placed-step, walk-step, first-below, come-below, len-le}
use Rattle.lf_mshr.proofs.Chain.{parted-drop, parted-keep, parted-walk, parted-chain, kept-is, rest-is, keep-all}
use Rattle.lf_mshr.proofs.Chain.{chain-parted, chain-joined}
use Rattle.lf_mshr.proofs.Placed.{left-none}

module _ {A : Type 0} where
  placed-append : (items : List A) (xs ys : List ℕ) → placed items (xs ++ ys) ≡ placed items xs ++ placed items ys
  placed-append items [] ys = refl
  placed-append items (x ∷ xs) ys =
      ap (λ (qs : List (ℕ × A)). map (λ y. (x, y)) (pick items x) ++ qs) (placed-append items xs ys)
      ∙ sym (append_assoc (map (λ y. (x, y)) (pick items x)) (placed items xs) (placed items ys))

  kept-placed : (items : List A) (place : ℕ) (d : A) (xs : List ℕ) → place < length items →
      placed items (xs ++ place ∷ []) ≡ placed items xs ++ (place, get_or items place d) ∷ []
  kept-placed items place d xs fits =
      placed-append items xs (place ∷ [])
      ∙ ap (λ (qs : List (ℕ × A)). placed items xs ++ qs) (placed-cons items place d [] fits)

module _ {T : Type 0} where
  unheld-targets : (xs : List (Held T)) (block : ℕ) → targets_of xs block ≡ [] → holds xs block ≡ false
  unheld-targets [] block none = refl
  unheld-targets (h ∷ xs) block none = elim (cases_eq h.block block) [
    | inl e ↦
        let some = sym (ap (λ b. cond b (h ∷ targets_of xs block) (targets_of xs block)) (eq-eqb h.block block e))
        ∙ none in
        let long = ap (λ (hs : List (Held T)). length hs) some in
        absurd (omega (arith, long))
    | inr ne ↦
        ap (λ b. b || holds xs block) (ne_eqb h.block block ne)
        ∙ unheld-targets xs block (sym (ap (λ b. cond b (h ∷ targets_of xs block) (targets_of xs block))
        (ne_eqb h.block block ne)) ∙ none)
  ]

-- A release between two places: of the chain that was, what is kept, what was released, and what is still to come.
pub record IsReleasing {T : Type 0} (items : List (Held T)) (was : List ℕ) (len long block : ℕ) (next used : List ℕ)
    (targets : List (ℕ × T)) (end last kept a left : ℕ) : Type 0 where
  pub parted : IsParted long next used end last kept a left
  pub others : left_of (placed items (walk (slice_index was) end len)) block
      ≡ placed items (walk (slice_index next) end kept) ++ left_of (placed items (walk (slice_index next) a left)) block
  pub gone : map released_pair (targets_of (held_of (placed items (walk (slice_index was) end len))) block)
      ≡ targets ++ map released_pair (targets_of (held_of (placed items (walk (slice_index next) a left))) block)
  pub finish : last_of a (walk (slice_index next) a left) ≡ last_of end (walk (slice_index was) end len)
  pub low : a ≤ end
  pub few : length targets + left ≤ 4096
  pub many : kept + left ≤ 4096

module _ {T : Type 0} (items : List (Held T)) (was : List ℕ) (len long block : ℕ) (next used : List ℕ)
    (targets : List (ℕ × T)) (end last kept a left : ℕ)
    (half : IsReleasing items was len long block next used targets end last kept a left)
    (fits : length items ≡ end) where
  pub come-lt : 0 < left → slice_index next a < end
  come-lt some = first-below (slice_index next) a left end some
      (come-below long next used end last kept a left half.parted)

  module _ (some : 0 < left) (d : Held T) where
    abbrev come : ℕ
    come = slice_index next a

    abbrev taken : Held T
    taken = get_or items (slice_index next a) d

    abbrev after : List (ℕ × Held T)
    after = placed items (walk (slice_index next) (slice_index next a) (left - 1))

    first : placed items (walk (slice_index next) a left) ≡ (come, taken) ∷ after
    first = placed-step items (slice_index next) a left d some (let lt = come-lt some in omega (arith, lt, fits))

    pub releasing-drop : taken.block ≡ block → (less : List ℕ) → length less ≡ length used →
        ((b : ℕ) → is_marked less b ≡ (not (b == come) && is_marked used b))
        → IsReleasing items was len long block next less (targets ++ released_pair taken ∷ []) end last kept come
        (left - 1)
    releasing-drop same less size bits =
        let here = eq-eqb taken.block block same in
        record {
          parted = parted-drop long next used end last kept a left half.parted some less size bits;
          others = half.others ∙ ap (λ (q : List (ℕ × Held T)). placed items (walk (slice_index next) end kept)
              ++ left_of q block) first
              ∙ ap (λ b. placed items (walk (slice_index next) end kept)
              ++ cond (not b) ((come, taken) ∷ left_of after block) (left_of after block)) here;
          gone = half.gone ∙ ap (λ (q : List (ℕ × Held T)). targets
              ++ map released_pair (targets_of (held_of q) block)) first
              ∙ ap (λ b. targets ++ map released_pair (cond b (taken ∷ targets_of (held_of after) block)
              (targets_of (held_of after) block))) here
              ∙ sym (append_snoc targets (released_pair taken) (map released_pair (targets_of (held_of after) block)));
          finish = sym (ap (last_of a) (walk-step (slice_index next) a left some)) ∙ half.finish;
          low = (let lt = come-lt some in omega (arith, lt));
          few = (let more = length_push targets (released_pair taken) in let f = half.few in
              omega (arith, more, f, some));
          many = (let f = half.many in omega (arith, f, some));
        }

    pub releasing-keep : (taken.block ≡ block → ⊥) → IsReleasing items was len long block (set next last come) used
        targets end come (kept + 1) come (left - 1)
    releasing-keep other =
        let here = ne_eqb taken.block block other in
        let kept_now = kept-is long next used end last kept a left half.parted some in
        let rest_now = rest-is long next used end last kept a left half.parted some in
        let lt = come-lt some in
        record {
          parted = parted-keep long next used end last kept a left half.parted some;
          others = half.others ∙ ap (λ (q : List (ℕ × Held T)). placed items (walk (slice_index next) end kept)
              ++ left_of q block) first
              ∙ ap (λ b. placed items (walk (slice_index next) end kept)
              ++ cond (not b) ((come, taken) ∷ left_of after block) (left_of after block)) here
              ∙ sym (append_snoc (placed items (walk (slice_index next) end kept)) (come, taken) (left_of after block))
              ∙ ap (λ (q : List (ℕ × Held T)). q ++ left_of after block)
              (sym (ap (placed items) kept_now ∙ kept-placed items come d (walk (slice_index next) end kept)
              (omega (arith, lt, fits))))
              ∙ ap (λ (xs : List ℕ). placed items (walk (slice_index (set next last come)) end (kept + 1))
              ++ left_of (placed items xs) block) (sym rest_now);
          gone = half.gone ∙ ap (λ (q : List (ℕ × Held T)). targets
              ++ map released_pair (targets_of (held_of q) block)) first
              ∙ ap (λ b. targets ++ map released_pair (cond b (taken ∷ targets_of (held_of after) block)
              (targets_of (held_of after) block))) here
              ∙ ap (λ (xs : List ℕ). targets ++ map released_pair (targets_of (held_of (placed items xs)) block))
              (sym rest_now);
          finish = ap (last_of come) rest_now ∙ sym (ap (last_of a) (walk-step (slice_index next) a left some))
              ∙ half.finish;
          low = omega (arith, lt);
          few = (let f = half.few in omega (arith, f, some));
          many = (let f = half.many in omega (arith, f, some));
        }

  abbrev behind : List (ℕ × Held T)
  behind = placed items (walk (slice_index next) a left)

  abbrev before : List (ℕ × Held T)
  before = placed items (walk (slice_index was) end len)

  -- where nothing is still to come, or all targets of the block were released, no place behind is of the block
  pub none-behind : (most : ℕ) → length (targets_of (held_of before) block) ≤ most
      → ((left ≡ 0) ⊎ (most ≤ length targets)) → targets_of (held_of behind) block ≡ []
  none-behind most few (inl none) = ap (λ l. targets_of (held_of (placed items (walk (slice_index next) a l))) block)
      none
  none-behind most few (inr all) =
      let whole = ap (λ (ts : List (ℕ × T)). length ts) half.gone
      ∙ length-append targets (map released_pair (targets_of (held_of behind) block)) in
      let out = length-map (targets_of (held_of before) block) released_pair in
      let rest = length-map (targets_of (held_of behind) block) released_pair in
      nil_from_length (targets_of (held_of behind) block) (omega (arith, few, all, whole, out, rest))

  module _ (none : targets_of (held_of behind) block ≡ []) where
    pub released-targets : map released_pair (targets_of (held_of before) block) ≡ targets
    released-targets =
        half.gone ∙ ap (λ (hs : List (Held T)). targets ++ map released_pair hs) none ∙ append-nil targets

    released-order : left_of before block
        ≡ placed items (walk (slice_index next) end kept ++ walk (slice_index next) a left)
    released-order =
        half.others
        ∙ ap (λ (q : List (ℕ × Held T)). placed items (walk (slice_index next) end kept) ++ q)
        (left-none behind block (unheld-targets (held_of behind) block none))
        ∙ sym (placed-append items (walk (slice_index next) end kept) (walk (slice_index next) a left))

    -- the links of the places behind stay, and the last place that was kept leads to them
    pub closed : 0 < left → end ≤ 4096 → end ≤ 64 * long
        → IsChain items (set next last (slice_index next a)) used end (last_of end (walk (slice_index was) end len))
        (kept + left)
        × (left_of before block ≡ placed items
        (walk (slice_index (set next last (slice_index next a))) end (kept + left)))
    closed some few wide =
        let more = parted-keep long next used end last kept a left half.parted some in
        let come = slice_index next a in
        let links = set next last come in
        let sum : kept + 1 + (left - 1) ≡ kept + left = omega (arith, some) in
        let finish = ap (last_of come) (rest-is long next used end last kept a left half.parted some)
        ∙ sym (ap (last_of a) (walk-step (slice_index next) a left some)) ∙ half.finish in
        let chain = chain-joined items long links used end (kept + 1) come (left - 1) few fits wide more in
        let walked = parted-walk long links used end (kept + 1) come (left - 1) more in (
          subst (λ l. IsChain items links used end l (kept + left)) finish
              (subst (IsChain items links used end (last_of come (walk (slice_index links) come (left - 1)))) sum
              chain),
          released-order
              ∙ ap (placed items) (sym (keep-all long next used end last kept a left half.parted some) ∙ sym walked
              ∙ ap (walk (slice_index links) end) sum),
        )

    -- nothing is still to come
    pub ended : left ≡ 0 → end ≤ 4096 → end ≤ 64 * long → IsChain items next used end last (kept + left)
        × (left_of before block ≡ placed items (walk (slice_index next) end (kept + left)))
    ended zero few wide =
        let sum : kept ≡ kept + left = omega (arith, zero) in (
          subst (IsChain items next used end last) sum
              (chain-parted items long next used end last kept a left zero few fits wide half.parted),
          released-order
              ∙ ap (λ l. placed items (walk (slice_index next) end kept ++ walk (slice_index next) a l)) zero
              ∙ ap (placed items) (append-nil (walk (slice_index next) end kept)
              ∙ ap (walk (slice_index next) end) sum),
        )

pub releasing-start : {T : Type 0} (items : List (Held T)) (next used : List ℕ) (end last len block : ℕ) →
    IsChain items next used end last len
    → IsReleasing items next len (length used) block next used [] end end 0 end len
releasing-start items next used end last len block chain =
    let few = len-le items next used end last len chain in
    record {
      parted = parted-chain items next used end last len chain;
      others = refl;
      gone = refl;
      finish = refl;
      low = omega arith;
      few = omega (arith, few);
      many = omega (arith, few);
    }
