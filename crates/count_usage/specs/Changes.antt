-- What the events of a bank change in its levels.
use Rattle.std.specs.Prelude.{List, [], ◌∷◌, fold}
use Rattle.lf_rules.specs.declared.event.Event.{Event}
use Rattle.lf_rules.specs.declared.event.Event.TheVariants.{Primary, Merge, Fill1, Evict1, SecondPrimary, SecondMerge}
use Rattle.lf_rules.specs.declared.event.Event.TheVariants.{Fill2, Evict2}
use Rattle.lf_rules.specs.declared.event.Record.{Record}
use Rattle.lf_rules.specs.declared.shape.Shape.{Shape}
use Rattle.lf_rules.specs.Address.{set1_of, set2_of}
use Rattle.count_usage.specs.declared.change.Change.{Change}
use Rattle.count_usage.specs.declared.change.Change.TheVariants.{Taken, Joined, Filled, Evicted, Nothing}

-- in level one
abbrev pub change1 : Shape → Event → Change
change1 shape (Primary port tag register) = Taken register
change1 shape (Merge port tag register) = Joined register
change1 shape (Fill1 block bytes) = Filled (set1_of shape.banks shape.factor shape.level1.sets block)
change1 shape (Evict1 block mask bytes) = Evicted (set1_of shape.banks shape.factor shape.level1.sets block)
change1 shape _ = Nothing

-- in level two
abbrev pub change2 : Shape → Event → Change
change2 shape (SecondPrimary block register) = Taken register
change2 shape (SecondMerge block register) = Joined register
change2 shape (Fill2 second bytes) = Filled (set2_of shape.banks shape.level2.sets second)
change2 shape (Evict2 second masks bytes) = Evicted (set2_of shape.banks shape.level2.sets second)
change2 shape _ = Nothing

-- what each of a bank's records changes, the latest first
abbrev pub latest_first : (Event → Change) → List Record → List Change
latest_first change rs = fold (λ before r. change r.event ∷ before) [] rs
