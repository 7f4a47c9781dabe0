-- Registers after a target was placed or a block released, and the requests that they tell of then.
use Rattle.std.proofs.Common.{◌≡◌, ◌==◌, not, ℕ, List, [], ◌∷◌, ◌++◌, refl, sym, subst}
use Rattle.lf_rules.specs.declared.shape.Shape.{Shape}
use Rattle.lf_rules.specs.Address.{FlatMemory, second_of, place_of}
use Rattle.lf_rules.specs.Registers.{Held, released}
use Rattle.lf_rules.specs.State.{Request, Missed, Asked}
use Rattle.lf_rules.specs.Table.{block_asked}
use Rattle.lf_mshr.specs.Alike.{IsAlike, AreAlike}
use Rattle.lf_mshr.specs.RegisterFile.{RegisterFile, held_item, with_target, without_block}
use Rattle.lf_mshr.specs.declared.level_one.Request1.{Request1}
use Rattle.lf_mshr.specs.declared.level_two.Request2.{Request2}
use Rattle.lf_mshr.proofs.Alike.{AreAlike-push, released-alike}
use Rattle.bank_events.specs.Targets.{IsTarget1, IsTarget2, miss_of}
use Rattle.bank_events.specs.Apart.{AreHome}
use Rattle.lf_rules.proofs.CopyStep.{push_all, filter_all}

pub placed1 : (shape : Shape) (old new : RegisterFile Request1) (waiting : List (Held Missed))
    (register block port : ℕ) (target : Request1) (memory : FlatMemory) (request oldest : Request)
    → AreAlike (IsTarget1 shape) old.held waiting → new ≡ with_target old register block target →
    block ≡ request.block → request ≡ oldest
    → IsTarget1 shape target (miss_of port register memory request).target →
    AreAlike (IsTarget1 shape) new.held (waiting ++ miss_of port register memory oldest ∷ [])
placed1 shape old new waiting register block port target memory request oldest alike is here same tells =
    let one : IsAlike (IsTarget1 shape) (held_item register block target) (miss_of port register memory request) =
    record { register = refl; block = here; target = tells } in
    subst (λ (r : Request). AreAlike (IsTarget1 shape) new.held (waiting ++ miss_of port register memory r ∷ [])) same
    (subst (λ (f : RegisterFile Request1). AreAlike (IsTarget1 shape) f.held
    (waiting ++ miss_of port register memory request ∷ [])) (sym is)
    (AreAlike-push (IsTarget1 shape) old.held waiting (held_item register block target)
    (miss_of port register memory request) alike one))

-- a register of level two takes a target of a block, and holds its second-level block
pub placed2 : (shape : Shape) (old new : RegisterFile Request2) (fetched : List (Held Asked))
    (register second block asker : ℕ) (target : Request2)
    → AreAlike (IsTarget2 shape) old.held fetched → new ≡ with_target old register second target →
    target.position ≡ place_of shape block → target.destination ≡ asker → second ≡ second_of shape block
    → AreAlike (IsTarget2 shape) new.held (fetched ++ held_item register (second_of shape block) (block, asker) ∷ [])
placed2 shape old new fetched register second block asker target alike is there same at =
    let one : IsAlike (IsTarget2 shape) (held_item register second target)
    (held_item register (second_of shape block) (block, asker)) =
    record { register = refl; block = at; target = record { position = there; destination = same } } in
    subst (λ (f : RegisterFile Request2). AreAlike (IsTarget2 shape) f.held
    (fetched ++ held_item register (second_of shape block) (block, asker) ∷ [])) (sym is)
    (AreAlike-push (IsTarget2 shape) old.held fetched (held_item register second target)
    (held_item register (second_of shape block) (block, asker)) alike one)

pub home_placed : (shape : Shape) (fetched : List (Held Asked)) (register block asker : ℕ) → AreHome shape fetched
    → AreHome shape (fetched ++ held_item register (second_of shape block) (block, asker) ∷ [])
home_placed shape fetched register block asker home = push_all (λ h. second_of shape (block_asked h) ≡ h.block)
    fetched (held_item register (second_of shape block) (block, asker)) home refl

pub released1 : (shape : Shape) (old new : RegisterFile Request1) (waiting : List (Held Missed)) (block : ℕ) →
    AreAlike (IsTarget1 shape) old.held waiting → new ≡ without_block old block
    → AreAlike (IsTarget1 shape) new.held (released waiting block)
released1 shape old new waiting block alike is =
    subst (λ (f : RegisterFile Request1). AreAlike (IsTarget1 shape) f.held (released waiting block)) (sym is)
    (released-alike (IsTarget1 shape) old.held waiting alike block)

pub released2 : (shape : Shape) (old new : RegisterFile Request2) (fetched : List (Held Asked)) (second : ℕ) →
    AreAlike (IsTarget2 shape) old.held fetched → new ≡ without_block old second
    → AreAlike (IsTarget2 shape) new.held (released fetched second)
released2 shape old new fetched second alike is =
    subst (λ (f : RegisterFile Request2). AreAlike (IsTarget2 shape) f.held (released fetched second)) (sym is)
    (released-alike (IsTarget2 shape) old.held fetched alike second)

pub home_released : (shape : Shape) (fetched : List (Held Asked)) (second : ℕ) → AreHome shape fetched →
    AreHome shape (released fetched second)
home_released shape fetched second home = filter_all (λ h. second_of shape (block_asked h) ≡ h.block)
    (λ h. not (h.block == second)) fetched home
