-- What went out and what is still to be written are all lines.
use Rattle.std.proofs.Common.{◌≡◌, ◌++◌, ℕ, List, map, length, string_bytes}
use Rattle.std.specs.List.{concat}
use Rattle.run_stream.specs.Account.{WentOut}
use Rattle.run_stream.specs.Counted.{failures_of, account_of}
use Rattle.text_dump.proofs.chosen.put_lines.Given as goal

abbrev pub invariant-loop-line : goal.invariant-loop-line
invariant-loop-line g l = record {
  writes : failures_of l.writer ≡ 0;
  done : List ℕ;
  out : WentOut (account_of g.W.Write.contents l.initial.writer) (account_of g.W.Write.contents l.writer) done;
  all : done ++ concat (map string_bytes l.lines.items) ≡ concat (map string_bytes l.initial.lines.items);
}

abbrev pub decreases-loop-line : goal.decreases-loop-line
decreases-loop-line g l = length l.lines.items
