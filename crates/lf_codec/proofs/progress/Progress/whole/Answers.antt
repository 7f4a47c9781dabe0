use Rattle.std.proofs.Common.{rules, arith, subst}
use Rattle.lf_codec.specs.declared.stage.Kind.{Kind}
use Rattle.lf_codec.specs.Takes.{AreWholeParts}
use Rattle.lf_codec.proofs.Soundness.{room_of_head, data_limit}
use Rattle.lf_codec.proofs.WholeRecord.{range_at}
use Rattle.lf_codec.proofs.progress.Progress.whole.Goals as goal

pub returns-clause-parts : goal.returns-clause-parts
returns-clause-parts c =
    let h = c.args.self.now.header in let head = c.in-Ok.head in
    let rest = c.in_ok-first.rest.now in let fixed = c.in_ok-fixed.fixed.now in
    let carried = c.in_ok-carried.carried.now in
    let named : AreWholeParts h c.args.kind head.bank rest fixed carried = search rules in
    subst (λ (kind : Kind). AreWholeParts h kind head.bank rest fixed carried) c.in-Ok.ensures.kind named

pub returns-clause-few : goal.returns-clause-few
returns-clause-few c =
    let p = c.args.self.now in let head = c.in-Ok.head in let parts = returns-clause-parts c in
    omega (
      arith,
      parts.carried_whole,
      data_limit p.header head.bank head.kind c.in_ok-fixed.fixed.now
          (range_at p c.in-Head.is c.requires.sound) parts.fixed_passes,
    )

pub returns-clause-log : goal.returns-clause-log
returns-clause-log c =
    let p = c.args.self.now in
    rw c.in-Ok.ensures.head (room_of_head p.header p.counts c.in_ok-first.first.now
    (range_at p c.in-Head.is c.requires.sound) c.in-Ok.ensures.passed).exists
