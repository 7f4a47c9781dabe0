-- A block that level one asked for, and asks for no more.
use Rattle.std.proofs.Common.{◌≡◌, ℕ, Bool, true, false, cond, not, ◌==◌, List, [], ◌∷◌, refl, sym, ap, ◌∙◌}
use Rattle.std.proofs.Common.{eqb-true}
use Rattle.lf_rules.specs.State.{Asked}
use Rattle.lf_rules.specs.Table.{asked_register, without_asked}
use Rattle.bank_cells.specs.declared.known.Fetch.TheVariants as fetch
use Rattle.bank_cells.specs.declared.known.First.{First}
use Rattle.bank_cells.specs.declared.known.First.TheVariants as level1
use Rattle.bank_events.specs.Known.{is_asking, is_missed}
use Rattle.bank_events.proofs.Holding.{no_way}

-- another block's register is as before
pub asked_register_gone : (asked : List Asked) (x y : ℕ) → (x == y) ≡ false
    → asked_register (without_asked asked x) y ≡ asked_register asked y
asked_register_gone [] x y apart = refl
asked_register_gone (a ∷ asked) x y apart = go (a.0 == x) refl (asked_register_gone asked x y apart)
  where
    go : (b : Bool) → (a.0 == x) ≡ b → asked_register (without_asked asked x) y ≡ asked_register asked y
        → asked_register (cond (not b) (a ∷ without_asked asked x) (without_asked asked x)) y
        ≡ cond (a.0 == y) a.1 (asked_register asked y)
    go true e rest = rest ∙ sym (ap (λ c. cond c a.1 (asked_register asked y))
        (ap (λ n. n == y) (eqb-true a.0 x e) ∙ apart))
    go false e rest = ap (λ n. cond (a.0 == y) a.1 n) rest

-- no level-two register has it
pub asking_not_missed : (f : First) → is_asking f ≡ true → is_missed f ≡ false
asking_not_missed level1.Absent asks = refl
asking_not_missed level1.Present asks = refl
asking_not_missed (level1.InFlight register fetch.Asked) asks = refl
asking_not_missed (level1.InFlight register fetch.Supplied) asks = refl
asking_not_missed (level1.InFlight register fetch.Missed) asks = no_way asks

-- what a push of a block leaves that is there already
pub still : (b w : Bool) → (b ≡ true → w ≡ true) → cond b true w ≡ w
still false w p = refl
still true w p = sym (p refl)
