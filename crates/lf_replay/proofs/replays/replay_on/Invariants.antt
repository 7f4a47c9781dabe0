use Rattle.std.proofs.Common.{take, map}
use Rattle.lf_rules.specs.Address.{flat_memory}
use Rattle.bank_state.specs.Bytes.{bank_part}
use Rattle.lf_replay.specs.Shows.{ShowsReached}
use Rattle.lf_replay.specs.Step.{IsBankAfter}
use Rattle.lf_replay.proofs.replays.replay_on.Given as goal

abbrev pub invariant-loop-place : goal.invariant-loop-place
invariant-loop-place g l =
    let view = g.B.BankState.view in
    record {
      reached : ShowsReached (view l.state);
      after : IsBankAfter (view l.state) l.shape (bank_part l.shape l.bank (flat_memory l.memory.items))
          (take l.place-index (map g.R.Lends.lent l.records));
    }
