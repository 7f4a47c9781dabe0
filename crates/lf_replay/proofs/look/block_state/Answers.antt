use Rattle.std.proofs.Common.{subst}
use Rattle.bank_events.specs.BankView.{BankView}
use Rattle.lf_replay.specs.Seen.{IsSeen}
use Rattle.lf_replay.proofs.Looks.{seen_is}
use Rattle.lf_replay.proofs.look.block_state.Goals as goal

pub returns : goal.returns
returns g c = seen_is c.seen_in.result c.args.block c.args.bank.now
    (subst (λ (k : BankView). IsSeen c.seen_in.result c.args.block k.shape k.cells) c.bank.view_is c.seen_in.ensures)
