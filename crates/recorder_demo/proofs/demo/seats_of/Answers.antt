use Rattle.std.proofs.Common.{◌≡◌, ◌∷◌, sym, subst}
use Rattle.std.specs.Prelude.{All, OnOk}
use Rattle.std.specs.Vec.Iter.{into_iter_items}
use Rattle.std.proofs.lemmas.List.Elements.{All-head, All-tail, All-push}
use Rattle.lf_recorder.specs.Desk.{SeatView}
use Rattle.recorder_demo.specs.declared.recording.Recorded.{Recorded}
use Rattle.recorder_demo.specs.Threads.{IsGivenBack, IsWholeSeat}
use Rattle.recorder_demo.proofs.demo.seats_of.Goals as goal

pub loop-one-preserved : goal.loop-one-preserved
loop-one-preserved c =
    let at = c.loop-one in
    let x = c.in-Some.one in
    let P : Recorded → Type 0 = IsGivenBack c.args.recording.now.places.shape c.args.recording.now.desk in
    let Q : SeatView → Type 0 = IsWholeSeat c.args.recording.now.places.shape c.args.recording.now.desk in
    let steps : into_iter_items at.one-iterator ≡ x ∷ into_iter_items c.next.new.self = c.in-Some.ensures.steps.0 in
    let own : P x = All-head P x (into_iter_items c.next.new.self) (subst (All P) steps at.invariant.left) in record {
      left = All-tail P x (into_iter_items c.next.new.self) (subst (All P) steps at.invariant.left);
      seats = subst (All Q) (sym c.in_ok-push.ensures.items)
          (All-push Q at.seats.items x.seat at.invariant.seats
          (subst (λ o. OnOk o (Q x.seat)) c.in_ok-outcome.was own.whole));
    }
