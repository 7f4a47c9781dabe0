use Rattle.std.proofs.Common.{◌≡◌, ◌∷◌, length, sym, ap, subst, arith}
use Rattle.std.specs.Prelude.{All}
use Rattle.std.specs.Vec.Iter.{into_iter_items}
use Rattle.std.specs.declared.thread.PromisedHandle.{PromisedHandle}
use Rattle.std.proofs.lemmas.List.Elements.{All-tail, All-push}
use Rattle.lf_recorder.specs.Desk.{SeatView}
use Rattle.recorder_demo.specs.declared.demo.RecordedBy.{RecordedBy}
use Rattle.recorder_demo.specs.declared.recording.Recorded.{Recorded}
use Rattle.recorder_demo.specs.Threads.{IsNew}
use Rattle.recorder_demo.proofs.Joined.{IsFor, each_recorded}
use Rattle.recorder_demo.proofs.demo.run_in.Goals as goal

pub loop-seat-preserved : goal.loop-seat-preserved
loop-seat-preserved g c =
    let at = c.loop-seat in
    let x = c.in-Some.seat in
    let P : SeatView → Type 0 = IsNew c.args.recording.now.desk in
    let Q : PromisedHandle Recorded RecordedBy → Type 0 = λ h. IsFor c.args.recording.now.places.shape
    c.args.recording.now.desk h.promise in
    let steps : into_iter_items at.seat-iterator ≡ x ∷ into_iter_items c.next.new.self = c.in-Some.ensures.steps.0 in
    let promise = c.in-Ok.ensures.ok in record {
      left = All-tail P x (into_iter_items c.next.new.self) (subst (All P) steps at.invariant.left);
      promises =
          subst (All Q) (sym c.in_ok-push-in-Ok.ensures.items)
          (All-push Q at.handles.items c.in-Ok.handle at.invariant.promises (
            ap (λ (p : RecordedBy). p.recording.now.places.shape) promise,
            ap
                (λ (p : RecordedBy). p.recording.now.desk) promise,
          ));
    }

pub returns-in-Ok-join_promised : goal.returns-in-Ok-join_promised
returns-in-Ok-join_promised g c =
    let at = c.loop-seat in
    let all = c.in-Ok-join_promised.all in
    let count : at.handles.len ≡ length at.handles.items = (let ok = at.handles.ok in omega arith) in
    let same : length all.items ≡ at.handles.len = (let ok = all.ok in let len = c.in-Ok-join_promised.ensures.len in
    omega arith) in
    each_recorded c.args.recording.now.places.shape c.args.recording.now.desk _
    (λ p r k. k) at.handles.items at.invariant.promises at.handles.len all.items count same
    c.in-Ok-join_promised.ensures.each
