-- What a bank knows after an event of a port, a hit or a stall is the state after it.
use Rattle.std.proofs.Common.{◌≡◌, ℕ, Bool, true, false, cond, ◌==◌, List, [], ◌∷◌, ◌++◌, drop}
use Rattle.std.proofs.Common.{Option, Some, refl, sym, ap, ◌∙◌, eqb-true}
use Rattle.std.specs.Prelude.{bit_or}
use Rattle.arrayvec.specs.ArrayVec.{ArrayVec}
use Rattle.lf_rules.specs.declared.event.Event.TheVariants.{Issue, Reply, Fence, Hit, Stall, SecondStall}
use Rattle.lf_rules.specs.declared.event.Op.{Op}
use Rattle.lf_rules.specs.Address.{Masks}
use Rattle.lf_rules.specs.Lines.{Lines, line_at, mark, dirty_mask}
use Rattle.lf_rules.specs.State.{update, Request, Ready, Slice}
use Rattle.lf_rules.specs.Table.{request_of, oldest, store_mask, value_of, without_ready, store_bytes}
use Rattle.lf_rules.proofs.Clauses.{this_holds, others_hold}
use Rattle.lf_levels.proofs.Entries.{line_put, rising-with}
use Rattle.bank_cells.specs.declared.known.First.{First}
use Rattle.bank_cells.specs.declared.known.First.TheVariants as level1
use Rattle.bank_cells.specs.declared.known.Second.{Second}
use Rattle.bank_events.specs.Agrees.{BlockAgrees, SecondAgrees, GoesOnAlike, IsClean, line1_of, masks_of}
use Rattle.bank_events.specs.Known.{is_present, is_in_flight}
use Rattle.bank_events.specs.KnownRules.{set1}
use Rattle.bank_events.proofs.AtBlock.{no_way, has_line_is, dirty_is}
use Rattle.bank_events.proofs.Rising.{counted-marked}
use Rattle.bank_events.proofs.Shown.{by_shown}

-- ---- requests and replies

-- what is known of a block, where only requests and replies change
pub block_kept : (slice : Slice) (queue : ℕ → List Request) (ready : List Ready) (block : ℕ) (f : First) (written : ℕ)
    → BlockAgrees slice block f written
    → BlockAgrees (record slice { queue = queue; ready = ready }) block f written
block_kept slice queue ready block f written b = record {
  line = b.line;
  asked = b.asked;
  supplied = b.supplied;
  waits = b.waits;
  asker = b.asker;
  primary = b.primary;
  stores = b.stores;
  clean = b.clean;
}

-- what is known of a second-level block, where lines of level one change as well
pub second_kept : (slice : Slice) (queue : ℕ → List Request) (ready : List Ready) (lines1 : Lines) (second : ℕ)
    (s : Second) (masks : Masks) → SecondAgrees slice second s masks
    → SecondAgrees (record slice { queue = queue; ready = ready; lines1 = lines1 }) second s masks
second_kept slice queue ready lines1 second s masks b =
    record { line = b.line; fetched = b.fetched; primary = b.primary }

pub after_issue : (op : Op) (tag size address : ℕ) (bytes : ArrayVec ℕ) →
    GoesOnAlike (Issue op tag size address bytes)
after_issue op tag size address bytes shape now k log each a none =
    let request : Request = request_of shape tag op size address bytes.items in
    let queue : ℕ → List Request = update now.slice.queue log (now.slice.queue log ++ request ∷ []) in
    record {
      queue = ap (λ (old : ℕ → List Request). update old log (old log ++ request ∷ [])) a.queue;
      ready = a.ready;
      memory = a.memory;
      waiting = a.waiting;
      regs2 = a.regs2;
      blocks = λ x. block_kept now.slice queue now.slice.ready x (k.first x) (k.written x) (a.blocks x);
      seconds = λ x. second_kept now.slice queue now.slice.ready now.slice.lines1 x (k.second x) (masks_of shape k x)
          (a.seconds x);
      fetching = a.fetching;
      counts1 = a.counts1;
      counts2 = a.counts2;
      sorted1 = a.sorted1;
      sorted2 = a.sorted2;
    }

pub after_reply : (tag size : ℕ) (bytes : ArrayVec ℕ) → GoesOnAlike (Reply tag size bytes)
after_reply tag size bytes shape now k log each a none =
    let ready : List Ready = without_ready now.slice.ready log tag in
    record {
      queue = a.queue;
      ready = ap (λ (old : List Ready). without_ready old log tag) a.ready;
      memory = a.memory;
      waiting = a.waiting;
      regs2 = a.regs2;
      blocks = λ x. block_kept now.slice now.slice.queue ready x (k.first x) (k.written x) (a.blocks x);
      seconds = λ x. second_kept now.slice now.slice.queue ready now.slice.lines1 x (k.second x) (masks_of shape k x)
          (a.seconds x);
      fetching = a.fetching;
      counts1 = a.counts1;
      counts2 = a.counts2;
      sorted1 = a.sorted1;
      sorted2 = a.sorted2;
    }

-- ---- nothing changes

pub after_stall : (port tag : ℕ) → GoesOnAlike (Stall port tag)
after_stall port tag shape now k log each a none = a

pub after_second_stall : (block : ℕ) → GoesOnAlike (SecondStall block)
after_second_stall block shape now k log each a none = a

pub after_fence : GoesOnAlike Fence
after_fence shape now k log each a none = a

-- ---- a hit

-- the line of a block after one is marked, by whether it is the same block
line_marked : (f : First) (b : Bool) (new old : ℕ) (line : Option ℕ) → (b ≡ true → is_present f ≡ true)
    → line ≡ line1_of f old → cond b (Some new) line ≡ line1_of f (cond b new old)
line_marked f false new old line there is = is
line_marked level1.Absent true new old line there is = no_way (there refl)
line_marked (level1.InFlight register how) true new old line there is = no_way (there refl)
line_marked level1.Present true new old line there is = refl

-- stores wait only for a block that is in flight
stores_marked : (f : First) (b : Bool) (new old stores : ℕ) → (b ≡ true → is_present f ≡ true)
    → (is_in_flight f ≡ true → stores ≡ old) → is_in_flight f ≡ true → stores ≡ cond b new old
stores_marked f false new old stores there is waits = is waits
stores_marked level1.Absent true new old stores there is waits = no_way waits
stores_marked (level1.InFlight register how) true new old stores there is waits = no_way (there refl)
stores_marked level1.Present true new old stores there is waits = no_way waits

clean_marked : (f : First) (b : Bool) (new old : ℕ) → (b ≡ true → is_present f ≡ true) → IsClean f old →
    IsClean f (cond b new old)
clean_marked f false new old there clean = clean
clean_marked level1.Absent true new old there clean = no_way (there refl)
clean_marked (level1.InFlight register how) true new old there clean = tt
clean_marked level1.Present true new old there clean = tt

module _ (slice : Slice) (queue : ℕ → List Request) (ready : List Ready) (f : ℕ → First) (written : ℕ → ℕ)
    (are : (y : ℕ) → BlockAgrees slice y (f y) (written y)) (x m : ℕ) (there : is_present (f x) ≡ true) where
  mask_is : dirty_mask slice.lines1 x ≡ written x
  mask_is = dirty_is slice x (f x) (written x) (are x) there

  present_at : (y : ℕ) → (x == y) ≡ true → is_present (f y) ≡ true
  present_at y e = ap (λ k. is_present (f k)) (sym (eqb-true x y e)) ∙ there

  -- each block after the line of one is marked
  pub block_hit : (y : ℕ) → BlockAgrees (record slice {
    queue = queue;
    ready = ready;
    lines1 = mark slice.lines1 x m;
  }) y (f y) (update written x (bit_or (written x) m) y)
  block_hit y =
      let b = are y in
      let new : ℕ = bit_or (written x) m in
      record {
        line = line_put slice.lines1 x (bit_or (dirty_mask slice.lines1 x) m) y
            ∙ ap (λ mask. cond (x == y) (Some (bit_or mask m)) (line_at slice.lines1 y)) mask_is
            ∙ line_marked (f y) (x == y) new (written y) (line_at slice.lines1 y) (present_at y) b.line;
        asked = b.asked;
        supplied = b.supplied;
        waits = b.waits;
        asker = b.asker;
        primary = b.primary;
        stores = stores_marked (f y) (x == y) new (written y) (store_bytes slice.waiting y) (present_at y) b.stores;
        clean = clean_marked (f y) (x == y) new (written y) (present_at y) b.clean;
      }

pub after_hit : (port tag : ℕ) → GoesOnAlike (Hit port tag)
after_hit port tag = by_shown (Hit port tag) (λ shape now k log each a none.
    let slice = now.slice in
    let request : Request = oldest (slice.queue port) in
    let x : ℕ = request.block in
    let there : is_present (k.first x) ≡ true = this_holds _ _ _ (others_hold _ _ _ none) in
    let queue : ℕ → List Request = update slice.queue port (drop 1 (slice.queue port)) in
    let reply : Ready = record { port = port; tag = tag; value = value_of now.memory request } in
    let ready : List Ready = slice.ready ++ reply ∷ [] in
    record {
      queue = refl;
      ready = refl;
      memory = refl;
      waiting = refl;
      regs2 = refl;
      blocks = block_hit slice queue ready k.first k.written a.blocks x (store_mask request) there;
      seconds = λ y. second_kept slice queue ready _ y (k.second y) (masks_of shape k y) (a.seconds y);
      fetching = a.fetching;
      counts1 = counted-marked (set1 shape) k.counts1 slice.lines1 a.counts1 x _ a.sorted1
          (has_line_is slice x (k.first x) (k.written x) (a.blocks x) ∙ there);
      counts2 = a.counts2;
      sorted1 = rising-with slice.lines1 _ _ a.sorted1;
      sorted2 = a.sorted2;
    })
