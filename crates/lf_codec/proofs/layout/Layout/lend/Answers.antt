use Rattle.std.proofs.Common.{subst, sym, ◌∙◌}
use Rattle.lf_codec.specs.declared.header.Header.{Header}
use Rattle.lf_codec.specs.Lent.{BeginWith}
use Rattle.lf_codec.proofs.Again.{spelled_again}
use Rattle.lf_codec.proofs.layout.Layout.lend.Goals as goal

pub lend_front-requires-clause-begins : goal.lend_front-requires-clause-begins
lend_front-requires-clause-begins c =
    let bytes = c.args.bytes.now in let x = c.requires.0 in
    (x, subst (λ (k : Header). BeginWith k bytes x) (sym c.self.view_is) c.requires.1)

pub returns : goal.returns
returns c x begins =
    let h = c.self.inside.header in let bytes = c.args.bytes.now in
    c.lend_front.ensures ∙ spelled_again h bytes x c.self.invariant
    (subst (λ (k : Header). BeginWith k bytes x) (sym c.self.view_is) begins)
