use Rattle.std.proofs.Common.{◌++◌, List, ℕ, Option, Some, take, drop, sym, ap, ◌∙◌, subst, arith, append_assoc}
use Rattle.std.proofs.lemmas.List.{take-append-drop}
use Rattle.lf_codec.proofs.Numbers.{IsBytes-drop}
use Rattle.lf_verdict.specs.declared.session.intake.Intake.{Intake}
use Rattle.lf_verdict.specs.declared.stop.Stop.{Stop}
use Rattle.lf_verdict.specs.inner.Fed.{HasFedUntil}
use Rattle.lf_verdict.proofs.Pieces.{told_fine}
use Rattle.lf_verdict.proofs.Sessions.{going, read_stop, stop_stays, judged_feed}
use Rattle.lf_verdict.proofs.session.intake.Intake.feed_step.Goals as goal

pub stop_at-requires : goal.stop_at-requires
stop_at-requires c =
    let s = c.args.self.now in
    let fed = c.requires.fed.0 in
    let front = take c.min-n.result c.args.bytes.now in
    let m = going s fed c.requires.going c.requires.fed.1 in (
      fed ++ front,
      read_stop c.header_of_bytes.ensures s fed front m.0 m.1 c.feed.new.self c.in-Err.told c.from.result
          c.requires.going (sym c.in-Err.ensures.told) (c.in-Err.ensures.pieces fed m.1.taken m.0 m.1.read)
          c.from.ensures,
    )

pub returns-in-Err-clause-fed : goal.returns-in-Err-clause-fed
returns-in-Err-clause-fed c fed has =
    let s = c.args.self.now in
    let front = take c.min-n.result c.args.bytes.now in
    let behind = drop c.min-n.result c.args.bytes.now in
    let m = going s fed c.requires.going has in
    let stopped : Intake = record s { reader = c.feed.new.self; stop = Some c.from.result } in
    let at = read_stop c.header_of_bytes.ensures s fed front m.0 m.1 c.feed.new.self c.in-Err.told c.from.result
    c.requires.going (sym c.in-Err.ensures.told) (c.in-Err.ensures.pieces fed m.1.taken m.0 m.1.read)
    c.from.ensures in
    let stays = stop_stays c.faults_stand.ensures stopped (fed ++ front) behind c.from.result
    (IsBytes-drop c.min-n.result c.args.bytes.now (λ i. omega (arith, c.type_inv.bytes i))) at in
    c.stop_at.ensures.fed (fed ++ c.args.bytes.now)
    (subst (λ (bytes : List ℕ). HasFedUntil stopped bytes (Some c.from.result))
    (append_assoc fed front behind ∙ ap (λ (bytes : List ℕ). fed ++ bytes)
    (take-append-drop c.min-n.result c.args.bytes.now)) stays)

pub take_all-requires : goal.take_all-requires
take_all-requires c =
    let s = c.args.self.now in
    let fed = c.requires.fed.0 in
    let front = take c.min-n.result c.args.bytes.now in
    let m = going s fed c.requires.going c.requires.fed.1 in (
      fed ++ front,
      (
        m.0,
        judged_feed c.header_of_bytes.ensures s fed front m.0 c.feed.new.self m.1
            (c.in_default.ensures.ok fed m.1.taken m.0 m.1.read)
            (told_fine s.reader.fault c.feed.new.self.fault (m.1.fine c.requires.going)
            (sym c.in_default.ensures.told)),
      ),
    )

pub returns-in-Ok-clause-fed : goal.returns-in-Ok-clause-fed
returns-in-Ok-clause-fed c fed has =
    let s = c.args.self.now in
    let front = take c.min-n.result c.args.bytes.now in
    let m = going s fed c.requires.going has in
    let judged = judged_feed c.header_of_bytes.ensures s fed front m.0 c.feed.new.self m.1
    (c.in_default.ensures.ok fed m.1.taken m.0 m.1.read)
    (told_fine s.reader.fault c.feed.new.self.fault (m.1.fine c.requires.going) (sym c.in_default.ensures.told)) in
    subst (λ (stop : Option Stop). HasFedUntil c.take_all.new.self (fed ++ front) stop)
    (sym (c.in-Ok.ensures.stop ∙ c.requires.going)) (c.in-Ok.ensures.taken (fed ++ front) (m.0, judged))
