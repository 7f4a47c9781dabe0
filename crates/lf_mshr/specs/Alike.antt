-- Two lists of held targets whose registers and blocks agree, and whose targets stand in a relation: one file keeps the
-- requests that another view of it tells of.
use Rattle.std.specs.Prelude.{◌≡◌, List, [], ◌∷◌}
use Rattle.lf_rules.specs.Registers.{Held}

module _ {A B : Type 0} (R : A → B → Type 0) where
  pub record IsAlike (x : Held A) (y : Held B) : Type 0 where
    pub register : x.register ≡ y.register
    pub block : x.block ≡ y.block
    pub target : R x.target y.target

  abbrev pub AreAlike : List (Held A) → List (Held B) → Type 0
  AreAlike [] [] = Unit {0}
  AreAlike (x ∷ xs) (y ∷ ys) = IsAlike x y × AreAlike xs ys
  AreAlike _ _ = ⊥
