-- The clauses and effects do not look at the values of waiting loads.
use Rattle.std.proofs.Common.{◌≡◌, ℕ, ◌+◌, Bool, true, false, cond, not, ◌&&◌, ◌||◌, ◌==◌, nat_lt, ◌/◌, drop, List}
use Rattle.std.proofs.Common.{[], ◌∷◌, ◌++◌, map, Option, refl, ap, ◌∙◌}
use mathlib.Core.Path.{ap₂, fun_ext}
use Rattle.std.specs.Prelude.{bit_or}
use Rattle.std.specs.List.{list_all, list_any, filter, fold, range_with_len}
use Rattle.lf_rules.specs.declared.shape.Shape.{Shape}
use Rattle.lf_rules.specs.declared.shape.OrgShape.{OrgShape}
use Rattle.lf_rules.specs.declared.shape.OrgShape.TheVariants.{Implicit, Explicit, Inverted}
use Rattle.lf_rules.specs.declared.event.Event.{Event}
use Rattle.lf_rules.specs.declared.event.Event.TheVariants.{Hit, Primary, Merge, Stall, Fill1, Evict2}
use Rattle.lf_rules.specs.Registers.{Held, registers_of, holds, holds_in, is_free, targets_of, right_for_primary}
use Rattle.lf_rules.specs.Registers.{right_for_merge, takes, has_room}
use Rattle.lf_rules.specs.State.{update, Missed, Ready, Slice}
use Rattle.lf_rules.specs.Lines.{has_line, dirty_masks, same_masks, with_line}
use Rattle.lf_rules.specs.Address.{sub_block, places}
use Rattle.lf_rules.specs.Table.{oldest, is_head, position, destination, destinations, store_mask, store_bytes, miss}
use Rattle.lf_rules.specs.Table.{bank_wants, written, without, rules_of, slice_after}
use Rattle.lf_rules.specs.declared.rule.Rule.TheVariants.{NotHead, Present, PrimaryInFlight, NotInFlight}
use Rattle.lf_rules.specs.declared.rule.Rule.TheVariants.{RegisterRange, WrongRegister, RegisterBusy}
use Rattle.lf_rules.specs.declared.rule.Rule.TheVariants.{MergeFull, NeedlessStall, EvictAbsent, Inclusion, EvictMask}
use Rattle.lf_rules.specs.declared.rule.Rule.TheVariants.{EvictData}
use Rattle.lf_rules.proofs.CopyBlock.{answer}
use Rattle.lf_rules.specs.Copies.{served}

abbrev pub without_value : Held Missed → Held Missed
without_value h = record {
  register = h.register;
  block = h.block;
  target =
      record { port = h.target.port; request = h.target.request; value = [] };
}

abbrev pub forget : Slice → Slice
forget slice = record slice { waiting = map without_value slice.waiting }

any-map : {X Y : Type 0} (p : Y → Bool) (f : X → Y) (xs : List X) → list_any p (map f xs) ≡ list_any (λ x. p (f x)) xs
any-map p f [] = refl
any-map p f (x ∷ xs) = ap (λ b. p (f x) || b) (any-map p f xs)

filter-map : {X Y : Type 0} (p : Y → Bool) (f : X → Y) (xs : List X) →
    filter p (map f xs) ≡ map f (filter (λ x. p (f x)) xs)
filter-map p f [] = refl
filter-map p f (x ∷ xs) =
    elim (p (f x)) as (λ b. cond b (f x ∷ filter p (map f xs)) (filter p (map f xs))
    ≡ map f (cond b (x ∷ filter (λ x. p (f x)) xs) (filter (λ x. p (f x)) xs))) [
      | true ↦ ap (λ ys. f x ∷ ys) (filter-map p f xs)
      | false ↦ filter-map p f xs
    ]

map-push : {X Y : Type 0} (f : X → Y) (xs : List X) (x : X) → map f xs ++ f x ∷ [] ≡ map f (xs ++ x ∷ [])
map-push f [] x = refl
map-push f (y ∷ xs) x = ap (λ ys. f y ∷ ys) (map-push f xs x)

holds_same : (w : List (Held Missed)) (block : ℕ) → holds (map without_value w) block ≡ holds w block
holds_same w block = any-map (λ h. h.block == block) without_value w

free_same : (w : List (Held Missed)) (register : ℕ) → is_free (map without_value w) register ≡ is_free w register
free_same w register = ap not (any-map (λ h. h.register == register) without_value w)

holds_in_same : (w : List (Held Missed)) (register block : ℕ) →
    holds_in (map without_value w) register block ≡ holds_in w register block
holds_in_same w register block = any-map (λ h. h.register == register && h.block == block) without_value w

fold-map : {X Y A : Type 0} (g : A → Y → A) (f : X → Y) (a : A) (xs : List X) →
    fold g a (map f xs) ≡ fold (λ a x. g a (f x)) a xs
fold-map g f a [] = refl
fold-map g f a (x ∷ xs) = fold-map g f (g a (f x)) xs

merge_same : (o : OrgShape) (w : List (Held Missed)) (block destination register : ℕ)
    → right_for_merge o (map without_value w) block destination register
    ≡ right_for_merge o w block destination register
merge_same (Implicit registers) w block destination register = holds_in_same w register block
merge_same (Explicit registers entries) w block destination register = holds_in_same w register block
merge_same Inverted w block destination register = refl

takes_same : (o : OrgShape) (w : List (Held Missed)) (register at : ℕ) →
    takes o position (map without_value w) register at ≡ takes o position w register at
takes_same (Implicit registers) w register at = ap not (any-map
    (λ h. h.register == register && position h.target == at) without_value w)
takes_same (Explicit registers entries) w register at =
    ap (λ n. nat_lt n entries) (fold-map (λ (n : ℕ) (h : Held Missed). n + cond (h.register == register) 1 0)
    without_value 0 w)
takes_same Inverted w register at = free_same w register

any_same : {X : Type 0} (p q : X → Bool) (xs : List X) → ((x : X) → p x ≡ q x) → list_any p xs ≡ list_any q xs
any_same {X = X} p q xs same = ap (λ (r : X → Bool). list_any r xs) (fun_ext same)

room_parts : (o : OrgShape) (w : List (Held Missed)) (block at : ℕ) (rs : List ℕ)
    → cond (holds (map without_value w) block) (list_any (λ r. holds_in (map without_value w) r block
    && takes o position (map without_value w) r at) rs) (list_any (is_free (map without_value w)) rs)
    ≡ cond (holds w block) (list_any (λ r. holds_in w r block && takes o position w r at) rs) (list_any (is_free w) rs)
room_parts o w block at rs =
    ap (λ b. cond b (list_any (λ r. holds_in (map without_value w) r block
    && takes o position (map without_value w) r at) rs) (list_any (is_free (map without_value w)) rs))
    (holds_same w block)
    ∙ ap₂ (cond (holds w block))
    (any_same (λ r. holds_in (map without_value w) r block && takes o position (map without_value w) r at)
    (λ r. holds_in w r block && takes o position w r at) rs
    (λ r. ap₂ (λ x y. x && y) (holds_in_same w r block) (takes_same o w r at)))
    (any_same (is_free (map without_value w)) (is_free w) rs (free_same w))

room_same : (o : OrgShape) (d : ℕ) (w : List (Held Missed)) (block destination at : ℕ) →
    has_room o d position (map without_value w) block destination at ≡ has_room o d position w block destination at
room_same Inverted d w block destination at = ap (λ b. nat_lt destination d && b) (free_same w destination)
room_same (Implicit registers) d w block destination at = room_parts (Implicit registers) w block at
    (range_with_len 0 registers)
room_same (Explicit registers entries) d w block destination at =
    room_parts (Explicit registers entries) w block at (range_with_len 0 registers)

-- ---- clauses

pub rules_same : (shape : Shape) (right : Bool) (busy : ℕ → Option ℕ) (slice : Slice) (log bank : ℕ) (e : Event)
    → rules_of shape right busy (forget slice) log bank e ≡ rules_of shape right busy slice log bank e
rules_same shape right busy slice log bank (Primary port tag register) =
    let request = oldest (slice.queue port) in
    let list = λ (in_flight free : Bool).
    bank_wants NotHead (nat_lt port shape.ports && is_head (slice.queue port) tag)
    ∷ bank_wants Present (not (has_line slice.lines1 request.block))
    ∷ bank_wants PrimaryInFlight (not in_flight)
    ∷ bank_wants RegisterRange (nat_lt register (registers_of shape.level1.organisation (destinations shape)))
    ∷ bank_wants WrongRegister (right_for_primary shape.level1.organisation (destination shape port tag) register)
    ∷ bank_wants RegisterBusy free
    ∷ [] in
    ap₂ list (holds_same slice.waiting request.block) (free_same slice.waiting register)
rules_same shape right busy slice log bank (Merge port tag register) =
    let request = oldest (slice.queue port) in
    let organisation = shape.level1.organisation in
    let list = λ (in_flight wrong full : Bool).
    bank_wants NotHead (nat_lt port shape.ports && is_head (slice.queue port) tag)
    ∷ bank_wants NotInFlight in_flight
    ∷ bank_wants RegisterRange (nat_lt register (registers_of organisation (destinations shape)))
    ∷ bank_wants WrongRegister wrong
    ∷ bank_wants MergeFull full
    ∷ [] in
    λ i. list (holds_same slice.waiting request.block i) (merge_same organisation slice.waiting request.block
    (destination shape port tag) register i)
    (takes_same organisation slice.waiting register (request.offset / 8) i)
rules_same shape right busy slice log bank (Stall port tag) =
    let request = oldest (slice.queue port) in
    let list = λ (room : Bool).
    bank_wants NotHead (nat_lt port shape.ports && is_head (slice.queue port) tag)
    ∷ bank_wants Present (not (has_line slice.lines1 request.block))
    ∷ bank_wants NeedlessStall (not room)
    ∷ [] in
    ap list (room_same shape.level1.organisation (destinations shape) slice.waiting request.block
    (destination shape port tag) (request.offset / 8))
rules_same shape right busy slice log bank (Evict2 second masks bytes) =
    let list = λ (apart : ℕ → Bool).
    bank_wants EvictAbsent (has_line slice.lines2 second)
    ∷ bank_wants Inclusion (list_all apart (places shape))
    ∷ bank_wants EvictMask (same_masks shape.factor masks (dirty_masks slice.lines2 second))
    ∷ bank_wants EvictData right
    ∷ [] in
    ap list (fun_ext (λ place. ap (λ (waits : Bool). not (has_line slice.lines1 (sub_block shape second place))
    && not waits) (holds_same slice.waiting (sub_block shape second place))))
rules_same shape right busy slice log bank _ = refl

-- ---- effects

pub targets_same : (w : List (Held Missed)) (block : ℕ) → targets_of (map without_value w) block
    ≡ map without_value (targets_of w block)
targets_same w block = filter-map (λ h. h.block == block) without_value w

stores_same : (held : List (Held Missed)) (mask : ℕ)
    → fold (λ mask h. bit_or mask (store_mask h.target.request)) mask (map without_value held)
    ≡ fold (λ mask h. bit_or mask (store_mask h.target.request)) mask held
stores_same [] mask = refl
stores_same (h ∷ held) mask = stores_same held (bit_or mask (store_mask h.target.request))

store_bytes_same : (w : List (Held Missed)) (block : ℕ) → store_bytes (map without_value w) block ≡ store_bytes w block
store_bytes_same w block = ap (fold (λ mask h. bit_or mask (store_mask h.target.request)) 0) (targets_same w block)
    ∙ stores_same (targets_of w block) 0

pub served_same : (held : List (Held Missed)) (bytes : ℕ → ℕ) →
    served (map without_value held) bytes ≡ served held bytes
served_same [] bytes = refl
served_same (h ∷ held) bytes = ap (λ (rs : List Ready). answer h bytes ∷ rs)
    (served_same held (written h.target.request bytes))

-- but the value of a hit
abbrev pub SameHit : Event → List ℕ → List ℕ → Type 0
SameHit (Hit port tag) v u = v ≡ u
SameHit _ v u = Unit {0}

-- the copy's slice has no values: they are not fixed yet
abbrev pub NoMissValue : Event → List ℕ → Type 0
NoMissValue (Primary port tag register) v = v ≡ []
NoMissValue (Merge port tag register) v = v ≡ []
NoMissValue _ v = Unit {0}

pub slice_same : (shape : Shape) (v u : List ℕ) (replies : List Ready) (slice : Slice) (log : ℕ) (e : Event) →
    SameHit e v u → NoMissValue e v
    → slice_after shape v replies (forget slice) log e ≡ forget (slice_after shape u replies slice log e)
slice_same shape v u replies slice log (Hit port tag) hit miss_value =
    ap (λ (w : List ℕ). slice_after shape w replies (forget slice) log (Hit port tag)) hit
slice_same shape v u replies slice log (Primary port tag register) hit miss_value =
    ap (λ (w : List ℕ). slice_after shape w replies (forget slice) log (Primary port tag register)) miss_value
    ∙ ap (λ (w : List (Held Missed)). record slice {
      queue = update slice.queue port (drop 1 (slice.queue port));
      waiting = w;
      asked = slice.asked ++ ((oldest (slice.queue port)).block, register) ∷ [];
    }) (map-push without_value slice.waiting (miss slice port register u))
slice_same shape v u replies slice log (Merge port tag register) hit miss_value =
    ap (λ (w : List ℕ). slice_after shape w replies (forget slice) log (Merge port tag register)) miss_value
    ∙ ap (λ (w : List (Held Missed)). record slice {
      queue = update slice.queue port (drop 1 (slice.queue port));
      waiting = w;
    }) (map-push without_value slice.waiting (miss slice port register u))
slice_same shape v u replies slice log (Fill1 block bytes) hit miss_value =
    ap₂ (λ (w : List (Held Missed)) (m : ℕ). record slice {
      ready = slice.ready ++ replies;
      waiting = w;
      lines1 = with_line slice.lines1 block m;
      supplied = without slice.supplied block;
    }) (filter-map (λ h. not (h.block == block)) without_value slice.waiting) (store_bytes_same slice.waiting block)
slice_same shape v u replies slice log _ hit miss_value = refl
