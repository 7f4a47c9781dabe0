use Rattle.std.proofs.Common.{arith}
use Rattle.lf_model.proofs.Walks.{none_there, read_record}
use Rattle.lf_model.proofs.walk.Walk.record.Goals as goal

pub returns-then-log-len : goal.returns-then-log-len
returns-then-log-len c = none_there c.args.self.now.places.items c.args.logs.now.items c.args.log c.requires
    (omega arith)

pub returns : goal.returns
returns c = read_record c.args.self.now.places.items c.args.logs.now.items c.args.log c.index.result.now
    c.index-2.result.now c.deref.result.now c.get.result
    c.requires (omega arith) c.index.ensures c.index-2.ensures c.deref.ensures.value c.get.ensures.lookup.3
