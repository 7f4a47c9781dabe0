-- Vectors of vectors as lists of lists.
use Rattle.std.specs.Prelude.{List, map}
use Rattle.std.specs.Global.{Vec}

-- the lists that the vectors hold
abbrev pub lists_of : {T : Type 0} → Vec (Vec T) → List (List T)
lists_of vecs = map (λ v. v.items) vecs.items
