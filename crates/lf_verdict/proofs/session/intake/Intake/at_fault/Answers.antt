use Rattle.std.proofs.Common.{None, subst}
use Rattle.lf_rules.specs.Address.{flat_memory}
use Rattle.lf_verdict.specs.declared.session.intake.Judging.{Judging}
use Rattle.lf_verdict.specs.inner.Fed.{IsJudging}
use Rattle.lf_verdict.specs.inner.Taking.{IsDrained}
use Rattle.lf_verdict.proofs.SoFar.{named_of_all, none_of_all}
use Rattle.lf_verdict.proofs.Finals.{begins_fed}
use Rattle.lf_verdict.proofs.session.intake.Intake.at_fault.Goals as goal

pub returns-in_ok-other_header-in-Waiting-clause-stands : goal.returns-in_ok-other_header-in-Waiting-clause-stands
returns-in_ok-other_header-in-Waiting-clause-stands c bytes m =
    let other = c.in_ok-other_header-in-Waiting.ensures.other bytes m in
    c.other_headers_are_final.ensures c.args.self.now.shape bytes other.header c.in_ok-other_header-in-Waiting.field-0
    m.1.read.are_bytes other.read other.differs

pub returns-in-Another-clause-stands : goal.returns-in-Another-clause-stands
returns-in-Another-clause-stands c bytes m =
    let s = c.args.self.now in
    let other = subst (λ (j : Judging). IsJudging s.shape s.asked.ordered bytes m.1.taken m.0 j) c.in-Another.is
    m.1.judging in
    c.other_headers_are_final.ensures s.shape bytes other.header c.in-Another.other m.1.read.are_bytes other.read
    other.differs

pub returns-in-Another-clause-named : goal.returns-in-Another-clause-named
returns-in-Another-clause-named c bytes m =
    let s = c.args.self.now in
    subst (λ (j : Judging). IsJudging s.shape s.asked.ordered bytes m.1.taken m.0 j) c.in-Another.is m.1.judging

pub returns-in-Some-clause-stands : goal.returns-in-Some-clause-stands
returns-in-Some-clause-stands c bytes m =
    let s = c.args.self.now in
    let run = subst (λ (j : Judging). IsJudging s.shape s.asked.ordered bytes m.1.taken m.0 j) c.in-Running.is
    m.1.judging in
    c.part_faults_are_final.ensures s.shape bytes m.1.taken m.0 c.in-Some.fault None m.1.read.are_bytes
    (begins_fed c.read_so_far.ensures s bytes m.0 c.in-Running.standing m.1 run)
    (c.in-Some.ensures.some s.shape (flat_memory m.1.taken) m.0 run.stands)

pub returns-in-Some-clause-named : goal.returns-in-Some-clause-named
returns-in-Some-clause-named c bytes m =
    let s = c.args.self.now in
    let run = subst (λ (j : Judging). IsJudging s.shape s.asked.ordered bytes m.1.taken m.0 j) c.in-Running.is
    m.1.judging in
    let empty = subst (λ (j : Judging). IsDrained j s.reader s.memory.items) c.in-Running.is c.requires.drained in
    named_of_all s bytes m.0 m.1 c.read_so_far.ensures c.in-Running.standing run empty c.in-Some.fault
    (c.in-Some.ensures.named s.shape (flat_memory m.1.taken) m.0 run.stands)

pub returns-in-None-clause-none : goal.returns-in-None-clause-none
returns-in-None-clause-none c bytes m =
    let s = c.args.self.now in
    let run = subst (λ (j : Judging). IsJudging s.shape s.asked.ordered bytes m.1.taken m.0 j) c.in-Running.is
    m.1.judging in
    let empty = subst (λ (j : Judging). IsDrained j s.reader s.memory.items) c.in-Running.is c.requires.drained in
    none_of_all s bytes m.0 m.1 c.read_so_far.ensures c.in-Running.standing run empty
    (c.in-None.ensures.none s.shape (flat_memory m.1.taken) m.0 run.stands)
