use Rattle.std.proofs.Common.{◌≡◌, ℕ, ◌<◌, ◌≤◌, ◌^◌, take, get_or, length}
use Rattle.std.specs.List.{All}
use Rattle.std.specs.Global.{Vec}
use Rattle.lf_rules.specs.declared.event.Record.{Record}
use Rattle.lf_rules.specs.Fits.{Fits}
use Rattle.log_tests.proofs.rechecks.are_sound.Given as goal

abbrev pub invariant-loop-number : goal.invariant-loop-number
invariant-loop-number l = record {
  short : All (λ log. length log.items ≤ 2 ^ 24) (take l.number l.logs.items);
  named : (k : ℕ) (d : Vec Record) → k < l.number → All (λ r. r.log ≡ k) (get_or l.logs.items k d).items;
  fits : All (λ log. All (Fits l.shape) log.items) (take l.number l.logs.items);
}
