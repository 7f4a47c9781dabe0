-- An event breaks the same rule of a bank first by the state of the model and by what the bank knows.
use Rattle.std.proofs.Common.{◌≡◌, ℕ, ◌/◌, Bool, true, false, cond, not, ◌&&◌, ◌==◌, List, [], ◌∷◌, length}
use Rattle.std.proofs.Common.{Option, Some, None, refl, sym, ap, ◌∙◌}
use mathlib.Core.Path.{ap₂}
use Rattle.std.specs.Prelude.{nat_lt, bytes_eq}
use Rattle.std.specs.List.{list_any}
use Rattle.arrayvec.specs.ArrayVec.{ArrayVec}
use Rattle.lf_rules.specs.declared.event.Event.TheVariants.{Issue, Reply, Fence, Hit, Primary, Merge, Stall, Fill1}
use Rattle.lf_rules.specs.declared.event.Event.TheVariants.{Evict1}
use Rattle.lf_rules.specs.declared.event.Op.{Op}
use Rattle.lf_rules.specs.declared.mask.Mask.{Mask}
use Rattle.lf_rules.specs.declared.rule.Rule.{Rule}
use Rattle.lf_rules.specs.declared.rule.Rule.TheVariants.{NotReady, ReplySize, ReplyData, NotHead, NotPresent}
use Rattle.lf_rules.specs.declared.rule.Rule.TheVariants.{Present, NeedlessStall, NotSupplied, SetFull, FillData}
use Rattle.lf_rules.specs.declared.rule.Rule.TheVariants.{EvictAbsent, EvictMask, EvictData}
use Rattle.lf_rules.specs.declared.shape.Shape.{Shape}
use Rattle.lf_rules.specs.Address.{FlatMemory, block_bytes}
use Rattle.lf_rules.specs.Address.{agree_off, masked}
use Rattle.lf_rules.specs.Clauses.{OfBank, bank_wants}
use Rattle.lf_rules.specs.Lines.{has_line}
use Rattle.lf_rules.specs.Registers.{holds, has_room, primary_clauses, merge_clauses}
use Rattle.lf_rules.specs.Run.{first_failing}
use Rattle.lf_rules.specs.State.{Request, Local}
use Rattle.lf_rules.specs.Table.{oldest, is_head, is_ready_for, first_ready, destination, destinations}
use Rattle.lf_rules.specs.Table.{position}
use Rattle.bank_events.specs.Known.{Known, is_present, is_second_present}
use Rattle.bank_events.specs.KnownRules.{has_head}
use Rattle.bank_events.specs.Agrees.{Agrees, BreaksAlike, masks_of}
use Rattle.bank_events.proofs.AtBlock.{supplied_in_flight, has_line_is, dirty_is, has_second_is}

-- ---- clauses

-- a clause says the same, and so does what is judged after it, where the clause holds
pub judged_same : (rule : Rule) (holds holds' : Bool) (rest rest' : Option Rule) → holds ≡ holds' →
    (holds' ≡ true → rest ≡ rest') → cond holds rest (Some rule) ≡ cond holds' rest' (Some rule)
judged_same rule holds true rest rest' is same = ap (λ b. cond b rest (Some rule)) is ∙ same refl
judged_same rule holds false rest rest' is same = ap (λ b. cond b rest (Some rule)) is

pub judged_last : (rule : Rule) (holds holds' : Bool) → holds ≡ holds'
    → cond holds None (Some rule) ≡ cond holds' None (Some rule)
judged_last rule holds holds' is = ap (λ b. cond b None (Some rule)) is

-- ---- the events of a port

pub breaks_issue : (op : Op) (tag size address : ℕ) (bytes : ArrayVec ℕ) →
    BreaksAlike (Issue op tag size address bytes)
breaks_issue op tag size address bytes shape now k log bank each a = refl

pub breaks_fence : BreaksAlike Fence
breaks_fence shape now k log bank each a = refl

pub breaks_reply : (tag size : ℕ) (bytes : ArrayVec ℕ) → BreaksAlike (Reply tag size bytes)
breaks_reply tag size bytes shape now k log bank each a =
    λ i. first_failing OfBank (
    bank_wants NotReady (list_any (is_ready_for log tag) (a.ready i))
    ∷ bank_wants ReplySize (size == length (first_ready (a.ready i) log tag))
    ∷ bank_wants ReplyData (bytes_eq bytes.items (first_ready (a.ready i) log tag))
    ∷ []
    )

-- ---- the events of level one

module _ (shape : Shape) (now : Local) (k : Known) (a : Agrees shape now k) where
  pub line1_is : (block : ℕ) → has_line now.slice.lines1 block ≡ is_present (k.first block)
  line1_is block = has_line_is now.slice block (k.first block) (k.written block) (a.blocks block)

  pub line2_is : (second : ℕ) → has_line now.slice.lines2 second ≡ is_second_present (k.second second)
  line2_is second = has_second_is now.slice second (k.second second) (masks_of shape k second) (a.seconds second)

  head_is : (port tag : ℕ) → (nat_lt port shape.ports && is_head (now.slice.queue port) tag)
      ≡ has_head shape k port tag
  head_is port tag = λ i. nat_lt port shape.ports && is_head (a.queue i port) tag

  -- the block of the port's oldest request has a line
  oldest_is : (port : ℕ) → has_line now.slice.lines1 (oldest (now.slice.queue port)).block
      ≡ is_present (k.first (oldest (k.queue port)).block)
  oldest_is port = ap (λ (queue : ℕ → List Request). has_line now.slice.lines1 (oldest (queue port)).block) a.queue
      ∙ line1_is (oldest (k.queue port)).block

pub breaks_hit : (port tag : ℕ) → BreaksAlike (Hit port tag)
breaks_hit port tag shape now k log bank each a =
    judged_same NotHead _ _ _ _ (head_is shape now k a port tag)
    (λ _. judged_last NotPresent _ _ (oldest_is shape now k a port))

pub breaks_primary : (port tag register : ℕ) → BreaksAlike (Primary port tag register)
breaks_primary port tag register shape now k log bank each a =
    judged_same NotHead _ _ _ _ (head_is shape now k a port tag)
    (λ _. judged_same Present _ _ _ _ (ap not (oldest_is shape now k a port))
    (λ _. λ i. first_failing OfBank (primary_clauses shape.level1.organisation (destinations shape) (a.waiting i)
    (oldest (a.queue i port)).block (destination shape port tag) register)))

pub breaks_merge : (port tag register : ℕ) → BreaksAlike (Merge port tag register)
breaks_merge port tag register shape now k log bank each a =
    judged_same NotHead _ _ _ _ (head_is shape now k a port tag)
    (λ _. λ i. first_failing OfBank (merge_clauses shape.level1.organisation (destinations shape) position (a.waiting i)
    (oldest (a.queue i port)).block (destination shape port tag) ((oldest (a.queue i port)).offset / 8) register))

pub breaks_stall : (port tag : ℕ) → BreaksAlike (Stall port tag)
breaks_stall port tag shape now k log bank each a =
    judged_same NotHead _ _ _ _ (head_is shape now k a port tag)
    (λ _. judged_same Present _ _ _ _ (ap not (oldest_is shape now k a port))
    (λ _. judged_last NeedlessStall _ _ (λ i. not (has_room shape.level1.organisation (destinations shape) position
    (a.waiting i) (oldest (a.queue i port)).block (destination shape port tag)
    ((oldest (a.queue i port)).offset / 8)))))

pub breaks_fill1 : (block : ℕ) (bytes : ArrayVec ℕ) → BreaksAlike (Fill1 block bytes)
breaks_fill1 block bytes shape now k log bank each a =
    let b = a.blocks block in
    judged_same NotSupplied _ _ _ _ b.supplied
    (λ there. judged_same SetFull _ _ _ _ (ap (λ n. nat_lt n shape.level1.ways) (sym (a.counts1 block)))
    (λ _. judged_last FillData _ _
    (ap₂ (λ (memory : FlatMemory) mask. agree_off shape.block bytes.items (block_bytes shape memory block) mask)
    a.memory (b.stores (supplied_in_flight (k.first block) there)))))

pub breaks_evict1 : (block : ℕ) (mask : Mask) (bytes : ArrayVec ℕ) → BreaksAlike (Evict1 block mask bytes)
breaks_evict1 block mask bytes shape now k log bank each a =
    judged_same EvictAbsent _ _ _ _ (line1_is shape now k a block)
    (λ there. judged_same EvictMask _ _ _ _
    (ap (λ m. mask.0 == m) (dirty_is now.slice block (k.first block) (k.written block) (a.blocks block) there))
    (λ _. judged_last EvictData _ _
    (ap (λ (memory : FlatMemory). bytes_eq bytes.items (masked (block_bytes shape memory block) mask.0)) a.memory)))
