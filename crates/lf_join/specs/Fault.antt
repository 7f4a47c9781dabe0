-- What is said of the ring in a fault of the join.
use Rattle.lf_rules.specs.declared.ring.Knot.{Knot}
use Rattle.arrayvec.specs.ArrayVec.{ArrayVec}
use Rattle.lf_join.specs.declared.order.JoinFault.{JoinFault}
use Rattle.lf_join.specs.declared.order.JoinFault.TheVariants.{Cycle, NoMemory}

-- the fact of the ring, where the fault has one
abbrev pub IfCycle : JoinFault → (ArrayVec Knot → Type 0) → Type 0
IfCycle (Cycle ring) P = P ring
IfCycle NoMemory P = Unit {0}
