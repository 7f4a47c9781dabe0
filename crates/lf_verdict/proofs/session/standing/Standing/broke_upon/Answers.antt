use Rattle.std.proofs.Common.{[], ◌∷◌, ◌++◌, subst, arith}
use Rattle.std.proofs.lemmas.Option.{IfSome_then}
use Rattle.lf_verdict.specs.declared.session.breaking.PartFault.{PartFault}
use Rattle.lf_verdict.specs.inner.Noting.{IsPortWhole, IsBankWhole}
use Rattle.lf_verdict.proofs.Breaks.{none_broke_more, port_whole_more, ports_whole_more, bank_whole_more, if_none}
use Rattle.lf_verdict.proofs.Named.{named_port, named_bank_if}
use Rattle.lf_verdict.proofs.session.standing.Standing.broke_upon.Goals as goal

pub returns-in-Some-clause-named : goal.returns-in-Some-clause-named
returns-in-Some-clause-named c shape memory before none stands =
    let item = c.args.item.now in
    let after = before ++ item ∷ [] in
    named_port shape memory after c.log.result c.in-Some.fault
    (c.in-Some.ensures.some shape after stands.entered memory) c.in-Some.ensures.port
    (λ p lt. port_whole_more shape memory before item none p (λ e. omega (arith, lt, e, c.log.ensures)))

pub returns-in-None-clause-named : goal.returns-in-None-clause-named
returns-in-None-clause-named c shape memory before none stands =
    let item = c.args.item.now in
    let after = before ++ item ∷ [] in
    let port = subst (IsPortWhole shape memory after) c.log.ensures
    (c.in-None.ensures.none shape after stands.entered memory) in
    named_bank_if shape memory after c.bank_fault.result (c.bank_fault.ensures.some shape memory after stands)
    (IfSome_then c.bank_fault.result (c.bank_fault.ensures.first shape memory after stands)
    (λ (fault : PartFault) first. record {
      bank = c.bank.result;
      of_bank = first;
      below = λ b lt. bank_whole_more shape memory before item none b (λ e. omega (arith, lt, e, c.bank.ensures));
    }))
    (λ p lt. ports_whole_more shape memory before item none port p)

pub returns-in-None-clause-none : goal.returns-in-None-clause-none
returns-in-None-clause-none c shape memory before none stands =
    let item = c.args.item.now in
    let after = before ++ item ∷ [] in
    if_none c.bank_fault.result (c.bank_fault.ensures.none shape memory after stands)
    (λ whole. none_broke_more shape memory before item none
    (subst (IsPortWhole shape memory after) c.log.ensures (c.in-None.ensures.none shape after stands.entered memory))
    (subst (IsBankWhole shape memory after) c.bank.ensures whole))
