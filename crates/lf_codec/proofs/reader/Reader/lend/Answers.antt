use Rattle.std.proofs.Common.{arith}
use Rattle.lf_codec.proofs.Lending.{on_found, lent_rest, lent_header, lent_read, lends_again}
use Rattle.lf_codec.proofs.reader.Reader.lend.Goals as goal

pub returns-clause-some : goal.returns-clause-some
returns-clause-some c =
    on_found c.lend_next.result c.lend_next.ensures.some (λ n lent. (lent.takes.0, lent.takes.1))

pub returns-clause-spelled : goal.returns-clause-spelled
returns-clause-spelled c = on_found c.lend_next.result c.lend_next.ensures.some (λ n lent. lent.spelled)

pub returns-clause-fits : goal.returns-clause-fits
returns-clause-fits c = on_found c.lend_next.result c.lend_next.ensures.some (λ n lent. lent.fits)

pub returns-clause-again : goal.returns-clause-again
returns-clause-again c =
    let l = c.lend_next in
    lends_again c.args.self.now l.new.self (lent_rest c.args.self.now l.new.self c.args.bytes.now l.new.place l.result
    l.ensures.some l.ensures.none) c.requires

pub returns-clause-rest : goal.returns-clause-rest
returns-clause-rest c =
    let l = c.lend_next in
    lent_rest c.args.self.now l.new.self c.args.bytes.now l.new.place l.result l.ensures.some l.ensures.none

pub returns-clause-header : goal.returns-clause-header
returns-clause-header c =
    let l = c.lend_next in
    lent_header c.args.self.now l.new.self c.args.bytes.now l.new.place l.result l.ensures.some l.ensures.none

pub returns-clause-lent : goal.returns-clause-lent
returns-clause-lent c =
    let l = c.lend_next in
    on_found l.result l.ensures.some (λ n lent. lent_read c.args.self.now l.new.self c.args.bytes.now l.new.place n
    (λ i. omega (arith, c.type_inv.bytes i)) lent)
