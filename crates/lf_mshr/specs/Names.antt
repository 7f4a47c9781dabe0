-- Which organisation a shape names.
use Rattle.std.specs.Prelude.{Bool, true, false}
use Rattle.lf_rules.specs.declared.shape.OrgShape.{OrgShape}
use Rattle.lf_rules.specs.declared.shape.OrgShape.TheVariants.{Implicit, Explicit, Inverted}

abbrev pub is_implicit : OrgShape → Bool
is_implicit (Implicit registers) = true
is_implicit _ = false

abbrev pub is_explicit : OrgShape → Bool
is_explicit (Explicit registers entries) = true
is_explicit _ = false

abbrev pub is_inverted : OrgShape → Bool
is_inverted Inverted = true
is_inverted _ = false
