-- What a bank knows of a block, where it agrees with a slice.
use Rattle.std.proofs.Common.{◌≡◌, ℕ, Bool, true, false, not, ◌&&◌, List, Option, is_some, refl, sym, ap}
use Rattle.std.proofs.Common.{◌∙◌}
use Rattle.std.specs.Prelude.{bit_or, unwrap_or}
use Rattle.std.specs.List.{fold}
use Rattle.std.proofs.lemmas.Bool.{both_ways}
use Rattle.lf_rules.specs.Address.{Masks}
use Rattle.lf_rules.specs.Lines.{has_line, dirty_mask, dirty_masks, no_masks}
use Rattle.lf_rules.specs.Registers.{Held, holds, targets_of}
use Rattle.lf_rules.specs.State.{Missed, Slice}
use Rattle.lf_rules.specs.Table.{store_mask, store_bytes}
use Rattle.lf_rules.proofs.CopyBlock.{none_waits}
use Rattle.lf_rules.proofs.CopyStep.{waits_some}
use Rattle.bank_cells.specs.declared.known.First.{First}
use Rattle.bank_cells.specs.declared.known.First.TheVariants as level1
use Rattle.bank_cells.specs.declared.known.Second.{Second}
use Rattle.bank_cells.specs.declared.known.Second.TheVariants as level2
use Rattle.bank_events.specs.Agrees.{BlockAgrees, SecondAgrees, line1_of, line2_of}
use Rattle.bank_events.specs.Known.{is_present, is_absent, is_in_flight, is_supplied, is_second_present}

pub no_way : {A : Type 0} → ◌≡◌ {A = Bool} false true → A
no_way e = absurd (both_ways true (sym e) refl)

-- ---- how far a block is

pub supplied_in_flight : (f : First) → is_supplied f ≡ true → is_in_flight f ≡ true
supplied_in_flight level1.Absent e = no_way e
supplied_in_flight (level1.InFlight register how) e = refl
supplied_in_flight level1.Present e = no_way e

pub apart_absent : (f : First) → (not (is_present f) && not (is_in_flight f)) ≡ is_absent f
apart_absent level1.Absent = refl
apart_absent (level1.InFlight register how) = refl
apart_absent level1.Present = refl

line_there : (f : First) (written : ℕ) → is_some (line1_of f written) ≡ is_present f
line_there level1.Absent written = refl
line_there (level1.InFlight register how) written = refl
line_there level1.Present written = refl

line_mask : (f : First) (written : ℕ) → is_present f ≡ true → unwrap_or (line1_of f written) 0 ≡ written
line_mask level1.Absent written e = no_way e
line_mask (level1.InFlight register how) written e = no_way e
line_mask level1.Present written e = refl

second_there : (s : Second) (masks : Masks) → is_some (line2_of s masks) ≡ is_second_present s
second_there level2.Absent masks = refl
second_there (level2.InFlight register) masks = refl
second_there level2.Present masks = refl

second_masks : (s : Second) (masks : Masks) → is_second_present s ≡ true →
    unwrap_or (line2_of s masks) no_masks ≡ masks
second_masks level2.Absent masks e = no_way e
second_masks (level2.InFlight register) masks e = no_way e
second_masks level2.Present masks e = refl

-- stores wait for no block that no target waits for
pub none_store : (waiting : List (Held Missed)) (block : ℕ) → holds waiting block ≡ false →
    store_bytes waiting block ≡ 0
none_store waiting block idle =
    ap (λ (held : List (Held Missed)). fold (λ mask h. bit_or mask (store_mask h.target.request)) 0 held)
    (none_waits (targets_of waiting block) (waits_some waiting block ∙ idle))

-- ---- a block

module _ (slice : Slice) (block : ℕ) where
  -- level one has a line of it
  pub has_line_is : (f : First) (written : ℕ) → BlockAgrees slice block f written →
      has_line slice.lines1 block ≡ is_present f
  has_line_is f written b = ap is_some b.line ∙ line_there f written

  -- and its dirty mask
  pub dirty_is : (f : First) (written : ℕ) → BlockAgrees slice block f written → is_present f ≡ true →
      dirty_mask slice.lines1 block ≡ written
  dirty_is f written b there = ap (λ (o : Option ℕ). unwrap_or o 0) b.line ∙ line_mask f written there

  -- The bytes of its waiting stores, where it has no line.
  pub stores_are : (f : First) (written : ℕ) → BlockAgrees slice block f written → is_present f ≡ false →
      store_bytes slice.waiting block ≡ written
  stores_are level1.Absent written b out = none_store slice.waiting block b.waits ∙ sym b.clean
  stores_are (level1.InFlight register how) written b out = b.stores refl
  stores_are level1.Present written b out = no_way (sym out)

-- ---- a second-level block

module _ (slice : Slice) (second : ℕ) (s : Second) (masks : Masks) (b : SecondAgrees slice second s masks) where
  pub has_second_is : has_line slice.lines2 second ≡ is_second_present s
  has_second_is = ap is_some b.line ∙ second_there s masks

  pub masks_are : is_second_present s ≡ true → dirty_masks slice.lines2 second ≡ masks
  masks_are there = ap (λ (o : Option Masks). unwrap_or o no_masks) b.line ∙ second_masks s masks there
