-- An event of level two breaks the same rule of a bank first by the state of the model and by what the bank knows.
use Rattle.std.proofs.Common.{◌≡◌, ℕ, ◌<◌, Bool, true, false, not, ◌&&◌, ◌==◌, List, refl, sym, ap, ◌∙◌, arith}
use Rattle.std.proofs.Common.{subst}
use mathlib.Core.Path.{ap₂}
use Rattle.std.specs.Prelude.{nat_lt, bytes_eq}
use Rattle.std.specs.List.{list_all}
use Rattle.std.proofs.lemmas.List.FromFn.{get_or-map-range_with_len}
use Rattle.arrayvec.specs.ArrayVec.{ArrayVec}
use Rattle.lf_rules.specs.declared.event.Event.TheVariants.{SecondHit, SecondPrimary, SecondMerge}
use Rattle.lf_rules.specs.declared.event.Event.TheVariants.{SecondStall, Fill2, Evict2}
use Rattle.lf_rules.specs.declared.mask.Mask.{Mask}
use Rattle.lf_rules.specs.declared.rule.Rule.TheVariants.{NeedlessStall, SetFull, FillData, EvictAbsent, EvictMask}
use Rattle.lf_rules.specs.declared.rule.Rule.TheVariants.{EvictData, NotAsked, SecondAbsent, SecondPresent, NotFetched}
use Rattle.lf_rules.specs.declared.rule.Rule.TheVariants.{Inclusion}
use Rattle.lf_rules.specs.declared.shape.Shape.{Shape}
use Rattle.lf_rules.specs.Address.{FlatMemory, Masks, second_of, place_of, sub_block, places, block_bytes, part_at}
use Rattle.lf_rules.specs.Address.{agree_off, wide_masked, mask_at, clean_mask}
use Rattle.lf_rules.specs.Clauses.{OfBank}
use Rattle.lf_rules.specs.Lines.{has_line, dirty_masks, same_masks}
use Rattle.lf_rules.specs.Registers.{holds, has_room, primary_clauses, merge_clauses}
use Rattle.lf_rules.specs.Run.{first_failing}
use Rattle.lf_rules.specs.State.{Local}
use Rattle.lf_rules.specs.Table.{destinations2, position2, part_agrees, is_apart, is_asked, is_among}
use Rattle.lf_rules.proofs.Wide.{second_of_sub, all_same}
use Rattle.bank_events.specs.Apart.{EachStands, asks_for, stands}
use Rattle.bank_events.specs.Known.{Known, is_present, is_absent, is_second_present}
use Rattle.bank_events.specs.KnownRules.{known_part_agrees, dirty_at}
use Rattle.bank_events.specs.Agrees.{Agrees, BreaksAlike, masks_of}
use Rattle.bank_events.proofs.AtBlock.{apart_absent, masks_are, stores_are}
use Rattle.bank_events.proofs.Breaks.{judged_same, judged_last, line1_is, line2_is}

-- ---- what level one asks for

pub breaks_second_hit : (block : ℕ) → BreaksAlike (SecondHit block)
breaks_second_hit block shape now k log bank each a =
    judged_same NotAsked _ _ _ _ (a.blocks block).asked
    (λ _. judged_last SecondAbsent _ _ (line2_is shape now k a (second_of shape block)))

pub breaks_second_primary : (block register : ℕ) → BreaksAlike (SecondPrimary block register)
breaks_second_primary block register shape now k log bank each a =
    let b = a.blocks block in
    judged_same NotAsked _ _ _ _ b.asked
    (λ there. judged_same SecondPresent _ _ _ _ (ap not (line2_is shape now k a (second_of shape block)))
    (λ _. λ i. first_failing OfBank (primary_clauses shape.level2.organisation (destinations2 shape) (a.regs2 i)
    (second_of shape block) (b.asker there i) register)))

pub breaks_second_merge : (block register : ℕ) → BreaksAlike (SecondMerge block register)
breaks_second_merge block register shape now k log bank each a =
    let b = a.blocks block in
    judged_same NotAsked _ _ _ _ b.asked
    (λ there. judged_same SecondPresent _ _ _ _ (ap not (line2_is shape now k a (second_of shape block)))
    (λ _. λ i. first_failing OfBank (merge_clauses shape.level2.organisation (destinations2 shape) (position2 shape)
    (a.regs2 i) (second_of shape block) (b.asker there i) (place_of shape block) register)))

pub breaks_second_stall : (block : ℕ) → BreaksAlike (SecondStall block)
breaks_second_stall block shape now k log bank each a =
    let b = a.blocks block in
    judged_same NotAsked _ _ _ _ b.asked
    (λ there. judged_same SecondPresent _ _ _ _ (ap not (line2_is shape now k a (second_of shape block)))
    (λ _. judged_last NeedlessStall _ _ (λ i. not (has_room shape.level2.organisation (destinations2 shape)
    (position2 shape) (a.regs2 i) (second_of shape block) (b.asker there i) (place_of shape block)))))

-- ---- a fill of level two

-- level one has a line of a block only where level two has one of its second-level block
lies_within : (a f s w l2 : Bool) → stands a f s w true l2 ≡ true → l2 ≡ true
lies_within a f s w true e = refl
lies_within true true s w false e = e
lies_within true false true w false e = e
lies_within true false false true false e = e
lies_within true false false false false e = e
lies_within false true true w false e = e
lies_within false true false true false e = e
lies_within false true false false false e = e
lies_within false false true true false e = e
lies_within false false true false false e = e
lies_within false false false true false e = e
lies_within false false false false false e = e

-- so it has none of a block whose second-level block is fetched
stays_out : (l1 l2 h : Bool) → (l1 ≡ true → l2 ≡ true) → not (h && l2) ≡ true → h ≡ true → l1 ≡ false
stays_out false l2 h within absent there = refl
stays_out true true true within absent there = sym absent
stays_out true true false within absent there = sym there
stays_out true false h within absent there = sym (within refl)

module _ (shape : Shape) (now : Local) (k : Known) (each : EachStands shape now.slice) (a : Agrees shape now k) where
  fetched_out : (block : ℕ) → holds now.slice.regs2 (second_of shape block) ≡ true → is_present (k.first block) ≡ false
  fetched_out block there =
      let slice = now.slice in
      let second : ℕ = second_of shape block in
      let within : has_line slice.lines1 block ≡ true → has_line slice.lines2 second ≡ true =
      λ line. lies_within (is_asked slice.asked block) (asks_for slice.regs2 block) (is_among slice.supplied block)
      (holds slice.waiting block) (has_line slice.lines2 second)
      (subst (λ l1. stands (is_asked slice.asked block) (asks_for slice.regs2 block) (is_among slice.supplied block)
      (holds slice.waiting block) l1 (has_line slice.lines2 second) ≡ true) line (each.blocks block)) in
      sym (line1_is shape now k a block) ∙ stays_out _ _ _ within (each.fetched second) there

  -- the bytes of the sub-block at a place
  part_same : (second : ℕ) (bytes : List ℕ) (place : ℕ) → place < shape.factor → holds now.slice.regs2 second ≡ true
      → part_agrees shape now.memory now.slice second bytes place ≡ known_part_agrees shape k second bytes place
  part_same second bytes place lt there =
      let block : ℕ = sub_block shape second place in
      let fetched : holds now.slice.regs2 (second_of shape block) ≡ true =
      ap (holds now.slice.regs2) (second_of_sub shape second place lt) ∙ there in
      ap₂ (λ (memory : FlatMemory) mask. agree_off shape.block (part_at shape.block bytes place)
      (block_bytes shape memory block) mask) a.memory
      (stores_are now.slice block (k.first block) (k.written block) (a.blocks block) (fetched_out block fetched))

  parts_same : (second : ℕ) (bytes : List ℕ) → holds now.slice.regs2 second ≡ true
      → list_all (part_agrees shape now.memory now.slice second bytes) (places shape)
      ≡ list_all (known_part_agrees shape k second bytes) (places shape)
  parts_same second bytes there =
      all_same _ _ 0 shape.factor (λ place _ lt. part_same second bytes place (omega (arith, lt)) there)

pub breaks_fill2 : (second : ℕ) (bytes : ArrayVec ℕ) → BreaksAlike (Fill2 second bytes)
breaks_fill2 second bytes shape now k log bank each a =
    let s = a.seconds second in
    judged_same NotFetched _ _ _ _ s.fetched
    (λ there. judged_same SetFull _ _ _ _ (ap (λ n. nat_lt n shape.level2.ways) (sym (a.counts2 second)))
    (λ _. judged_last FillData _ _ (parts_same shape now k each a second bytes.items (s.fetched ∙ there))))

-- ---- an eviction of level two

module _ (shape : Shape) (now : Local) (k : Known) (a : Agrees shape now k) (second : ℕ) where
  -- level one has nothing of its sub-blocks
  inclusion_same : list_all (is_apart shape now.slice second) (places shape)
      ≡ list_all (λ place. is_absent (k.first (sub_block shape second place))) (places shape)
  inclusion_same =
      all_same _ _ 0 shape.factor (λ place _ _.
      let block : ℕ = sub_block shape second place in
      ap₂ (λ line waits. not line && not waits) (line1_is shape now k a block) (a.blocks block).waits
      ∙ apart_absent (k.first block))

  mask_there : (place : ℕ) → place < shape.factor → mask_at (masks_of shape k second) place
      ≡ k.dirty (sub_block shape second place)
  mask_there place lt = ap (λ (m : Mask). m.0)
      (get_or-map-range_with_len (dirty_at shape k second) 0 shape.factor place place clean_mask lt (omega arith))

  masks_same : (masks : Masks) → is_second_present (k.second second) ≡ true
      → same_masks shape.factor masks (dirty_masks now.slice.lines2 second)
      ≡ list_all (λ place. mask_at masks place == k.dirty (sub_block shape second place)) (places shape)
  masks_same masks there =
      ap (same_masks shape.factor masks)
      (masks_are now.slice second (k.second second) (masks_of shape k second) (a.seconds second) there)
      ∙ all_same _ _ 0 shape.factor (λ place _ lt.
      ap (λ m. mask_at masks place == m) (mask_there place (omega (arith, lt))))

pub breaks_evict2 : (second : ℕ) (masks : Masks) (bytes : ArrayVec ℕ) → BreaksAlike (Evict2 second masks bytes)
breaks_evict2 second masks bytes shape now k log bank each a =
    judged_same EvictAbsent _ _ _ _ (line2_is shape now k a second)
    (λ there. judged_same Inclusion _ _ _ _ (inclusion_same shape now k a second)
    (λ _. judged_same EvictMask _ _ _ _ (masks_same shape now k a second masks there)
    (λ _. judged_last EvictData _ _
    (ap (λ (memory : FlatMemory). bytes_eq bytes.items (wide_masked shape memory second masks)) a.memory))))
