use Rattle.std.proofs.Common.{◌≡◌, sym, subst, ⊎_elim, arith}
use Rattle.std.proofs.lemmas.Bool.{cases_eq}
use Rattle.lf_verdict.specs.inner.Noting.{IsPortWhole}
use Rattle.lf_verdict.proofs.Named.{named_port}
use Rattle.lf_verdict.proofs.session.standing.Standing.port_at_fault.Goals as goal

pub returns-in-Some-clause-some : goal.returns-in-Some-clause-some
returns-in-Some-clause-some c shape memory records stands = c.in-Some.ensures.some shape records stands.entered memory

pub loop-port-preserved : goal.loop-port-preserved
loop-port-preserved c shape memory records stands port lt = ⊎_elim
    (λ (this : port ≡ c.loop-port.port).
    subst (IsPortWhole shape memory records) (sym this) (c.in_default.ensures.none shape records stands.entered memory))
    (λ (other : port ≡ c.loop-port.port → ⊥). c.loop-port.invariant shape memory records stands port (omega arith))
    (cases_eq port c.loop-port.port)

pub returns-clause-none : goal.returns-clause-none
returns-clause-none c shape memory records stands port lt =
    c.loop-port.invariant shape memory records stands port (omega
    (arith, c.loop-port-test.false, c.len-port-end.ensures, stands.entered.count_ports, lt))

pub returns-in-Some-clause-named : goal.returns-in-Some-clause-named
returns-in-Some-clause-named c shape memory records stands =
    named_port shape memory records c.loop-port.port c.in-Some.fault
    (c.in-Some.ensures.some shape records stands.entered memory) c.in-Some.ensures.port
    (c.loop-port.invariant shape memory records stands)
