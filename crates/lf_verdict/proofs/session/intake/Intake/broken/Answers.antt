use Rattle.std.proofs.Common.{sym, subst}
use Rattle.std.specs.Prelude.{IfSome}
use Rattle.lf_verdict.specs.declared.session.intake.Judging.{Judging}
use Rattle.lf_verdict.specs.inner.Fed.{IsJudging, IsWatched}
use Rattle.lf_codec.specs.declared.header.Header.{Header}
use Rattle.lf_verdict.specs.Breaking.{first_offset}
use Rattle.lf_verdict.specs.inner.Noting.{IsPartBroken}
use Rattle.lf_verdict.specs.inner.Taking.{IsDrained}
use Rattle.lf_verdict.proofs.SoFar.{none_of_all}
use Rattle.lf_verdict.proofs.Breaks.{if_none}
use Rattle.lf_verdict.proofs.Finals.{begins_fed, begins_fed-header, final_if, earliest_if}
use Rattle.lf_verdict.proofs.Sessions.{can_taken}
use Rattle.lf_rules.specs.Address.{flat_memory}
use Rattle.lf_verdict.proofs.session.intake.Intake.broken.Goals as goal

pub returns-in_ok-other_header-in-Waiting-clause-stands : goal.returns-in_ok-other_header-in-Waiting-clause-stands
returns-in_ok-other_header-in-Waiting-clause-stands c bytes fed =
    let s = c.args.self.now in
    let m = can_taken s bytes s.stop (c.can_tell.ensures.0 c.if-not-can_tell.false) fed in
    let other = c.in_ok-other_header-in-Waiting.ensures.other bytes m in
    c.other_headers_are_final.ensures s.shape bytes other.header c.in_ok-other_header-in-Waiting.field-0
    m.1.read.are_bytes other.read other.differs

pub returns-in-Another-clause-stands : goal.returns-in-Another-clause-stands
returns-in-Another-clause-stands c bytes fed =
    let s = c.args.self.now in
    let m = can_taken s bytes s.stop (c.can_tell.ensures.0 c.if-not-can_tell.false) fed in
    let other = subst (λ (j : Judging). IsJudging s.shape s.asked.ordered bytes m.1.taken m.0 j) c.in-Another.is
    m.1.judging in
    c.other_headers_are_final.ensures s.shape bytes other.header c.in-Another.field m.1.read.are_bytes other.read
    other.differs

pub returns-in-Another-clause-earliest : goal.returns-in-Another-clause-earliest
returns-in-Another-clause-earliest c does watched bytes fed =
    let s = c.args.self.now in
    let m = can_taken s bytes s.stop (c.can_tell.ensures.0 c.if-not-can_tell.false) fed in
    subst (λ (j : Judging). IsJudging s.shape s.asked.ordered bytes m.1.taken m.0 j) c.in-Another.is m.1.judging

pub returns-in-Running-clause-stands : goal.returns-in-Running-clause-stands
returns-in-Running-clause-stands c bytes fed =
    let s = c.args.self.now in
    let m = can_taken s bytes s.stop (c.can_tell.ensures.0 c.if-not-can_tell.false) fed in
    let run = subst (λ (j : Judging). IsJudging s.shape s.asked.ordered bytes m.1.taken m.0 j) c.in-Running.is
    m.1.judging in
    let begins = begins_fed c.read_so_far.ensures s bytes m.0 c.in-Running.standing m.1 run in
    final_if (first_offset run.header m.1.taken) c.part_faults_are_final.ensures s.shape bytes m.1.taken m.0
    c.broken.result m.1.read.are_bytes begins
    (c.broken.ensures.some (first_offset run.header m.1.taken) s.shape (flat_memory m.1.taken) m.0
    run.stands run.watched)

pub returns-in-Running-clause-earliest : goal.returns-in-Running-clause-earliest
returns-in-Running-clause-earliest c does watched bytes fed =
    let s = c.args.self.now in
    let m = can_taken s bytes s.stop (c.can_tell.ensures.0 c.if-not-can_tell.false) fed in
    let run = subst (λ (j : Judging). IsJudging s.shape s.asked.ordered bytes m.1.taken m.0 j) c.in-Running.is
    m.1.judging in
    let begins = begins_fed c.read_so_far.ensures s bytes m.0 c.in-Running.standing m.1 run in
    let some = c.broken.ensures.some (first_offset run.header m.1.taken) s.shape (flat_memory m.1.taken) m.0
    run.stands run.watched in
    let same = begins_fed-header c.read_so_far.ensures s bytes m.0 c.in-Running.standing m.1 run in
    earliest_if s.shape bytes m.1.taken m.0 c.broken.result begins
    (subst (λ (h : Header). IfSome c.broken.result (IsPartBroken (first_offset h m.1.taken) s.shape
    (flat_memory m.1.taken) m.0)) (sym same) some)
    (c.broken.ensures.named (subst IsWatched c.in-Running.is
    ((does (c.can_tell.ensures.0 c.if-not-can_tell.false)).known watched)))

pub returns-in-Running-clause-none : goal.returns-in-Running-clause-none
returns-in-Running-clause-none c settled can bytes fed =
    let s = c.args.self.now in
    let m = can_taken s bytes s.stop can fed in
    let run = subst (λ (j : Judging). IsJudging s.shape s.asked.ordered bytes m.1.taken m.0 j) c.in-Running.is
    m.1.judging in
    let empty = subst (λ (j : Judging). IsDrained j s.reader s.memory.items) c.in-Running.is (settled can) in
    if_none c.broken.result (c.broken.ensures.none (first_offset run.header m.1.taken) s.shape
    (flat_memory m.1.taken) m.0 run.stands run.watched)
    (none_of_all s bytes m.0 m.1 c.read_so_far.ensures c.in-Running.standing run empty)
