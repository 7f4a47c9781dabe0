-- The least version of a text is one at least.
use Rattle.std.proofs.Common.{ℕ, ◌≤◌, List, [], ◌∷◌, arith}
use Rattle.text_assemble.specs.Assembly.{least_of}

pub one_at_least : (texts : List (List ℕ)) → 1 ≤ least_of texts
one_at_least [] = omega arith
one_at_least (text ∷ texts) = omega (arith, one_at_least texts)
