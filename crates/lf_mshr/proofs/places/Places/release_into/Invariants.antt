use Rattle.std.proofs.Common.{◌≡◌, length}
use Rattle.lf_mshr.proofs.Release.{IsReleasing}
use Rattle.lf_mshr.proofs.places.Places.release_into.Given as goal

abbrev pub invariant-loop-left : goal.invariant-loop-left
invariant-loop-left g l =
    let p = l.self-inside in
    let was = l.initial.self-inside in
    record {
      releasing : IsReleasing was.items.items was.next.items was.len (length was.used.items) l.block p.next.items
          p.used.items l.targets was.end l.last l.kept l.at l.left;
      items : p.items ≡ was.items;
      end : p.end ≡ was.end;
      ends : p.last ≡ was.last;
    }

abbrev pub decreases-loop-left : goal.decreases-loop-left
decreases-loop-left g l = l.left
