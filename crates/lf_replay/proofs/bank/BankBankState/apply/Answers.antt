use Rattle.lf_replay.proofs.Answered.{is_steady}
use Rattle.lf_replay.proofs.Reached.{reached_after, same_after, same_shape}
use Rattle.lf_replay.proofs.Runs.{bank_after_more, fault_more}
use Rattle.lf_replay.proofs.bank.BankBankState.apply.Goals as goal

pub apply-requires-clause-steady : goal.apply-requires-clause-steady
apply-requires-clause-steady g c = is_steady c.args.self.now c.requires.reached

pub returns-clause-reached : goal.returns-clause-reached
returns-clause-reached g c = reached_after c.args.self.now _ c.args.item.now.log c.args.item.now.event
    c.requires.reached c.apply.result c.apply.ensures

pub returns-clause-shape : goal.returns-clause-shape
returns-clause-shape g c = same_shape c.args.self.now _ c.args.item.now.log c.args.item.now.event
    c.requires.reached c.apply.result c.apply.ensures

pub returns-clause-unchanged : goal.returns-clause-unchanged
returns-clause-unchanged g c = same_after c.args.self.now _ c.args.item.now.log c.args.item.now.event
    c.requires.reached c.apply.result c.apply.ensures

pub returns-clause-stands : goal.returns-clause-stands
returns-clause-stands g c = λ shape memory rs stands. bank_after_more c.args.self.now _ c.requires.reached shape memory
    rs stands c.args.item.now c.apply.result c.apply.ensures

pub returns-clause-broken : goal.returns-clause-broken
returns-clause-broken g c = λ shape memory rs stands. fault_more c.args.self.now _ c.requires.reached shape memory rs
    stands c.args.item.now c.apply.result c.apply.ensures
