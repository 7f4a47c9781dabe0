-- What the numbers of a shape are to be where the cache computes with them.
use Rattle.std.specs.Prelude.{◌≡◌, ◌<◌, ◌≤◌, true}
use Rattle.lf_rules.specs.declared.shape.Shape.{Shape}
use Rattle.lf_rules.specs.Fits.{is_factor}

pub record AreInRange (shape : Shape) : Type 0 where
  pub ports : shape.ports ≤ 16
  pub some_bank : 0 < shape.banks
  pub banks : shape.banks ≤ 16
  pub block : shape.block ≤ 64
  pub some_tag : 0 < shape.tags
  pub tags : shape.tags ≤ 64
  pub factor : is_factor shape.factor ≡ true
  pub some_set1 : 0 < shape.level1.sets
  pub some_set2 : 0 < shape.level2.sets
