-- The stores that wait in level-one registers, and the bytes that they write.
use Rattle.std.proofs.Common.{◌≡◌, ℕ, ◌-◌, ◌*◌, ◌^◌, ◌<◌, ◌≤◌, ◌==◌, Bool, true, false, cond, not, ◌&&◌, ◌||◌, List}
use Rattle.std.proofs.Common.{[], ◌∷◌, ◌++◌, refl, sym, ap, subst, ◌∙◌, arith, ne_eqb, drop}
use Rattle.std.proofs.lemmas.Bool.{both_ways}
use Rattle.std.proofs.lemmas.Nat.{le_or_r, pow_below}
use Rattle.std.proofs.Math.Nat.{le-mul_of_pos_right}
use Rattle.std.proofs.Math.Pow.{pow_pos}
use Rattle.std.specs.Int.Bits.{or_zero_r}
use Rattle.std.specs.Prelude.{bit_or}
use Rattle.std.specs.List.{fold}
use Rattle.lf_rules.specs.declared.event.Op.TheVariants.{Load, Store}
use Rattle.lf_rules.specs.Address.{mask_of}
use Rattle.lf_rules.specs.Registers.{Held, targets_of, released}
use Rattle.lf_rules.specs.State.{Request, Missed}
use Rattle.lf_rules.specs.Table as rules
use Rattle.wave_traffic.specs.Flow.{is_store, with_if}

-- the blocks of the stores, in the order of acceptance
abbrev pub stored_blocks : List (Held Missed) → List ℕ
stored_blocks [] = []
stored_blocks (h ∷ hs) = cond (is_store h.target.request.op) (h.block ∷ stored_blocks hs) (stored_blocks hs)

-- the requests touch some bytes
abbrev pub AllSized : List Request → Type 0
AllSized [] = Unit {0}
AllSized (q ∷ qs) = (0 < q.size) × AllSized qs

-- the stores among these do
abbrev pub StoresSized : List (Held Missed) → Type 0
StoresSized [] = Unit {0}
StoresSized (h ∷ hs) = (is_store h.target.request.op ≡ true → 0 < h.target.request.size) × StoresSized hs

pub sized_push : (qs : List Request) (q : Request) → AllSized qs → 0 < q.size → AllSized (qs ++ q ∷ [])
sized_push [] q h some = (some, tt)
sized_push (x ∷ qs) q h some = (h.0, sized_push qs q h.1 some)

pub sized_drop : (qs : List Request) → AllSized qs → AllSized (drop 1 qs)
sized_drop [] h = tt
sized_drop (q ∷ qs) h = h.1

pub oldest_sized : (qs : List Request) → AllSized qs → is_store (rules.oldest qs).op ≡ true → 0 < (rules.oldest qs).size
oldest_sized [] h store = absurd (both_ways false refl store)
oldest_sized (q ∷ qs) h store = h.0

pub stores_push : (hs : List (Held Missed)) (h : Held Missed) → StoresSized hs →
    (is_store h.target.request.op ≡ true → 0 < h.target.request.size) → StoresSized (hs ++ h ∷ [])
stores_push [] h all some = (some, tt)
stores_push (x ∷ hs) h all some = (all.0, stores_push hs h all.1 some)

pub stores_left : (hs : List (Held Missed)) (block : ℕ) → StoresSized hs → StoresSized (released hs block)
stores_left [] block all = tt
stores_left (h ∷ hs) block all =
    elim (h.block == block) as (λ c. StoresSized (cond (not c) (h ∷ released hs block) (released hs block))) [
      | true ↦ stores_left hs block all.1
      | false ↦ (all.0, stores_left hs block all.1)
    ]

-- ---- the blocks

pub stored_push : (hs : List (Held Missed)) (h : Held Missed) →
    with_if (is_store h.target.request.op) (stored_blocks hs) h.block ≡ stored_blocks (hs ++ h ∷ [])
stored_push [] h = go (is_store h.target.request.op)
  where
    go : (s : Bool) → with_if s [] h.block ≡ cond s (h.block ∷ []) []
    go true = refl
    go false = refl
stored_push (x ∷ hs) h = go (is_store h.target.request.op) (is_store x.target.request.op) (stored_push hs h)
  where
    go : (s t : Bool) → with_if s (stored_blocks hs) h.block ≡ stored_blocks (hs ++ h ∷ []) →
        with_if s (cond t (x.block ∷ stored_blocks hs) (stored_blocks hs)) h.block
        ≡ cond t (x.block ∷ stored_blocks (hs ++ h ∷ [])) (stored_blocks (hs ++ h ∷ []))
    go true true same = ap (λ (l : List ℕ). x.block ∷ l) same
    go true false same = same
    go false true same = ap (λ (l : List ℕ). x.block ∷ l) same
    go false false same = same

pub stored_left : (hs : List (Held Missed)) (block : ℕ) →
    rules.without (stored_blocks hs) block ≡ stored_blocks (released hs block)
stored_left [] block = refl
stored_left (h ∷ hs) block =
    go (is_store h.target.request.op) refl (h.block == block) refl (stored_left hs block)
  where
    go : (s : Bool) → is_store h.target.request.op ≡ s → (c : Bool) → (h.block == block) ≡ c →
        rules.without (stored_blocks hs) block ≡ stored_blocks (released hs block) →
        rules.without (cond s (h.block ∷ stored_blocks hs) (stored_blocks hs)) block
        ≡ stored_blocks (cond (not c) (h ∷ released hs block) (released hs block))
    go true is true at same = rw at same
    go true is false at same = rw (at, is) (ap (λ (l : List ℕ). h.block ∷ l) same)
    go false is true at same = same
    go false is false at same = rw is same

-- ---- the bytes

some_bytes : (offset size : ℕ) → 0 < size → 0 < mask_of offset size
some_bytes offset size some =
    let ones : 1 < 2 ^ size = pow_below 0 size some in
    let product : 2 ^ size - 1 ≤ (2 ^ size - 1) * 2 ^ offset = le-mul_of_pos_right (2 ^ size - 1) (pow_pos offset) in
    omega (arith, ones, product)

abbrev gather : ℕ → Held Missed → ℕ
gather mask h = bit_or mask (rules.store_mask h.target.request)

is_store_same : (q : Request) → rules.is_store q ≡ is_store q.op
is_store_same q = elim q.op as (λ o. elim o [ Load ↦ false | Store ↦ true ] ≡ is_store o) [
  | Load ↦ refl
  | Store ↦ refl
]

pub writes : (q : Request) → is_store q.op ≡ true → 0 < q.size → 0 < rules.store_mask q
writes q store some = subst (λ b. 0 < cond b (mask_of q.offset q.size) 0) (sym (is_store_same q ∙ store))
    (some_bytes q.offset q.size some)

pub reads : (q : Request) → is_store q.op ≡ false → rules.store_mask q ≡ 0
reads q load = ap (λ b. cond b (mask_of q.offset q.size) 0) (is_store_same q ∙ load)

pub some_of_both : (a b : ℕ) → 0 < b → (bit_or a b == 0) ≡ false
some_of_both a b some = ne_eqb (bit_or a b) 0 (λ none. omega (arith, none, le_or_r a b, some))

gathered : (hs : List (Held Missed)) (block mask : ℕ) → StoresSized hs →
    (fold gather mask (targets_of hs block) == 0) ≡ ((mask == 0) && not (rules.is_among (stored_blocks hs) block))
gathered [] block mask all = elim (mask == 0) as (λ z. z ≡ (z && true)) [ true ↦ refl | false ↦ refl ]
gathered (h ∷ hs) block mask all =
    go (h.block == block) refl (is_store h.target.request.op) refl (λ m. gathered hs block m all.1)
  where
    blocks : List ℕ
    blocks = stored_blocks hs

    stored : ℕ
    stored = rules.store_mask h.target.request

    go : (c : Bool) → (h.block == block) ≡ c → (s : Bool) → is_store h.target.request.op ≡ s →
        ((m : ℕ) → (fold gather m (targets_of hs block) == 0) ≡ ((m == 0) && not (rules.is_among blocks block))) →
        (fold gather mask (cond c (h ∷ targets_of hs block) (targets_of hs block)) == 0)
        ≡ ((mask == 0) && not (rules.is_among (cond s (h.block ∷ blocks) blocks) block))
    go true at true is more =
        more (bit_or mask stored)
        ∙ ap (λ b. b && not (rules.is_among blocks block))
        (some_of_both mask stored (writes h.target.request is (all.0 is)))
        ∙ sym (ap (λ c. (mask == 0) && not (c || rules.is_among blocks block)) at
        ∙ elim (mask == 0) as (λ z. (z && false) ≡ false) [ true ↦ refl | false ↦ refl ])
    go true at false is more =
        ap (λ k. fold gather k (targets_of hs block) == 0)
        (ap (bit_or mask) (reads h.target.request is) ∙ or_zero_r mask)
        ∙ more mask
    go false at true is more = more mask ∙ sym (ap (λ c. (mask == 0) && not (c || rules.is_among blocks block)) at)
    go false at false is more = more mask

-- no store waits for a block that has no byte of one
pub none_stored : (hs : List (Held Missed)) (block : ℕ) → StoresSized hs →
    (rules.store_bytes hs block == 0) ≡ not (rules.is_among (stored_blocks hs) block)
none_stored hs block all = gathered hs block 0 all
