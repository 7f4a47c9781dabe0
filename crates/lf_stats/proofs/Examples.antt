-- The rows of the worked examples, each with its answer by computation.
use Rattle.std.specs.Prelude.{◌≡◌, ℕ, [], ◌∷◌, refl}
use Rattle.arrayvec.specs.ArrayVec.{ArrayVec}
use Rattle.lf_rules.specs.declared.event.Op.TheVariants.{Load, Store}
use Rattle.lf_rules.specs.declared.shape.OrgShape.TheVariants.{Explicit}
use Rattle.lf_rules.specs.declared.shape.Level.{Level}
use Rattle.lf_rules.specs.declared.shape.Shape.{Shape}
use Rattle.lf_rules.specs.declared.event.Record.{Record}
use Rattle.lf_rules.specs.declared.event.Event.{Event}
use Rattle.lf_rules.specs.declared.event.Event.TheVariants.{Issue, Reply, Hit, Primary, Merge, Stall, Fill1}
use Rattle.lf_rules.specs.declared.event.Event.TheVariants.{SecondPrimary, Fill2, Fence}
use Rattle.lf_rules.specs.Address.{no_bank}
use Rattle.lf_stats.specs.declared.counts.BankStats.{BankStats}
use Rattle.lf_stats.specs.Statistics.{bank_stats, unanswered}

abbrev shape : Shape
shape =
    let level : Level = record { sets = 1; ways = 1; organisation = Explicit 1 2 } in
    record { ports = 1; banks = 1; block = 8; factor = 1; tags = 4; level1 = level; level2 = level }

abbrev no_bytes : ArrayVec ℕ
no_bytes = record { items = [] }

abbrev of_port : Event → Record
of_port event = record { log = 0; bank = 0; number = 0; event = event }

abbrev of_its_bank : Event → Record
of_its_bank event = record { log = 1; bank = 0; number = 0; event = event }

abbrev L : ℕ → ℕ → Record
L tag address = of_port (Issue Load tag 8 address no_bytes)

abbrev S : ℕ → ℕ → Record
S tag address = of_port (Issue Store tag 1 address no_bytes)

abbrev R : ℕ → Record
R tag = of_port (Reply tag 8 no_bytes)

abbrev fence : Record
fence = record { log = 0; bank = no_bank; number = 0; event = Fence }

abbrev H : ℕ → Record
H tag = of_its_bank (Hit 0 tag)

abbrev P : ℕ → ℕ → Record
P tag register = of_its_bank (Primary 0 tag register)

abbrev M : ℕ → ℕ → Record
M tag register = of_its_bank (Merge 0 tag register)

abbrev X : ℕ → Record
X tag = of_its_bank (Stall 0 tag)

abbrev SP : ℕ → ℕ → Record
SP block register = of_its_bank (SecondPrimary block register)

abbrev F2 : ℕ → Record
F2 block = of_its_bank (Fill2 block no_bytes)

abbrev F1 : ℕ → Record
F1 block = of_its_bank (Fill1 block no_bytes)

abbrev counts : ℕ → ℕ → ℕ → ℕ → ℕ → BankStats
counts hits primary merges stalls peak = record {
  hits = hits;
  primary = primary;
  merges = merges;
  stalls =
      stalls;
  peak = peak;
}

-- ---- the worked examples

load_merges_behind_store : bank_stats shape (S 0 0 ∷ P 0 0 ∷ L 1 0 ∷ M 1 0 ∷ SP 0 0 ∷ F2 0 ∷ F1 0 ∷ R 0 ∷ R 1 ∷ [])
    ≡ counts 0 1 1 0 1
load_merges_behind_store = refl

load_merges_behind_store_port : unanswered (S 0 0 ∷ L 1 0 ∷ R 0 ∷ R 1 ∷ []) ≡ 0
unfolding unanswered
load_merges_behind_store_port = refl

explicit_entries_full : bank_stats shape (L 0 0 ∷ P 0 0 ∷ L 1 0 ∷ M 1 0 ∷ L 2 0 ∷ X 2 ∷ []) ≡ counts 0 1 1 1 1
explicit_entries_full = refl

explicit_entries_full_port : unanswered (L 0 0 ∷ L 1 0 ∷ L 2 0 ∷ []) ≡ 3
unfolding unanswered
explicit_entries_full_port = refl

inverted_two_registers : bank_stats shape (L 0 0 ∷ P 0 0 ∷ L 1 0 ∷ M 1 1 ∷ []) ≡ counts 0 1 1 0 2
inverted_two_registers = refl

inverted_two_registers_port : unanswered (L 0 0 ∷ L 1 0 ∷ []) ≡ 2
unfolding unanswered
inverted_two_registers_port = refl

load_misses_both_levels : bank_stats shape (L 0 0 ∷ P 0 0 ∷ SP 0 0 ∷ F2 0 ∷ F1 0 ∷ R 0 ∷ []) ≡ counts 0 1 0 0 1
load_misses_both_levels = refl

-- a fence is in no bank's order, and a tag's last event stays the last
fence_last : unanswered (L 0 0 ∷ R 0 ∷ fence ∷ []) ≡ unanswered (L 0 0 ∷ R 0 ∷ [])
unfolding unanswered
fence_last = refl

-- ---- what they leave open

-- a register is free again once its block is filled
filled_between : bank_stats shape (L 0 0 ∷ P 0 0 ∷ F1 0 ∷ L 1 8 ∷ P 1 1 ∷ H 0 ∷ []) ≡ counts 1 2 0 0 1
filled_between = refl

-- a fill of another block ends no hold
filled_another : bank_stats shape (L 0 0 ∷ P 0 0 ∷ F1 1 ∷ L 1 8 ∷ P 1 1 ∷ []) ≡ counts 0 2 0 0 2
filled_another = refl

-- an accepted event without its issue holds nothing
without_issue : bank_stats shape (P 0 0 ∷ []) ≡ counts 0 1 0 0 0
without_issue = refl

-- its issue may stand behind it
issued_later : bank_stats shape (P 0 0 ∷ L 0 0 ∷ []) ≡ counts 0 1 0 0 1
issued_later = refl

-- a tag waits again after its next issue
issued_again : unanswered (L 0 0 ∷ R 0 ∷ L 0 8 ∷ []) ≡ 1
unfolding unanswered
issued_again = refl
