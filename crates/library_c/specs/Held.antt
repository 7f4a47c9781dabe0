-- What a held session owns: its block on the heap, where there is one.
use Rattle.std.specs.Prelude.{Option, Some, None}
use base.Fml.{Fml, ftrue}
use denote.RattleType.{RattleType}
use denote.RawPtr.{Ptr}
use Rattle.std_alloc.specs.Box.Ownership.{box_owns}
use Rattle.std.specs.contracts.impls.GlobalAllocator.TheImpl.{ghosts}
use Rattle.std.specs.declared.alloc.Global.{Global}

abbrev pub held_owns : (R : RattleType) → Global → Ptr → Option R.Denot → Fml
held_owns R heap at (Some x) = box_owns (ghosts.dealloc_token heap) R at x
held_owns R heap at None = ftrue
