use Rattle.std.proofs.Common.{◌≡◌, List, Bool, ap, ◌∙◌, ◌||◌}
use Rattle.count_coverage.specs.declared.request.Requests.{Requests}
use Rattle.count_coverage.specs.declared.supply.Asked.{Asked}
use Rattle.count_coverage.specs.Standing.{latest_after, writes_back, writes_back2, waiting2_after, supplied_after}
use Rattle.count_coverage.specs.Standing.{has_line2}
use Rattle.count_coverage.specs.Kept.{latest_in, is_in}
use Rattle.count_coverage.proofs.standing.Kept.take.Goals as goal

pub returns : goal.returns
returns c s kept =
    let shape = c.args.shape.now in
    let item = c.args.item.now in
    let requests : c.write_back2.new.self.requests ≡ c.args.self.now.requests =
    c.write_back2.ensures.requests ∙ c.write_back.ensures.requests ∙ c.wait2.ensures.requests
    ∙ c.hold.ensures.requests ∙ c.supply.ensures.requests ∙ c.wait.ensures.requests in
    let written : c.wait2.new.self.written ≡ c.args.self.now.written =
    c.wait2.ensures.written ∙ c.hold.ensures.written ∙ c.supply.ensures.written ∙ c.wait.ensures.written in
    let written2 : c.write_back.new.self.written2 ≡ c.args.self.now.written2 =
    c.write_back.ensures.written2 ∙ c.wait2.ensures.written2 ∙ c.hold.ensures.written2 ∙ c.supply.ensures.written2
    ∙ c.wait.ensures.written2 in
    let waiting2 : c.hold.new.self.waiting2 ≡ c.args.self.now.waiting2 =
    c.hold.ensures.waiting2 ∙ c.supply.ensures.waiting2 ∙ c.wait.ensures.waiting2 in
    let lines2 : c.supply.new.self.lines2 ≡ c.args.self.now.lines2 =
    c.supply.ensures.lines2 ∙ c.wait.ensures.lines2 in
    record {
      len = c.keep.ensures.len;
      latest = λ port tag below small.
          c.keep.ensures.latest port tag below small
          ∙ ap (latest_after shape item port tag)
          (ap (λ (all : Requests). latest_in all port tag) requests ∙ kept.latest port tag below small);
      waiting = ap (λ w. w.items)
          (c.write_back2.ensures.waiting ∙ c.write_back.ensures.waiting ∙ c.wait2.ensures.waiting
          ∙ c.hold.ensures.waiting ∙ c.supply.ensures.waiting)
          ∙ c.in_ok-wait.ensures.waiting s kept;
      written = λ block.
          ap (λ w. is_in w block) c.write_back2.ensures.written
          ∙ c.in_ok-write_back.ensures.written block
          ∙ ap (λ (was : Bool). writes_back item.event block || was)
          (ap (λ w. is_in w block) written ∙ kept.written block);
      waiting2 = ap (λ w. w.items) (c.write_back2.ensures.waiting2 ∙ c.write_back.ensures.waiting2)
          ∙ c.in_ok-wait2.ensures.waiting2
          ∙ ap (waiting2_after shape item.event) (ap (λ w. w.items) waiting2 ∙ kept.waiting2);
      written2 = λ second.
          c.in_ok-write_back2.ensures.written2 second
          ∙ ap (λ (was : Bool). writes_back2 item.event second || was)
          (ap (λ w. is_in w second) written2 ∙ kept.written2 second);
      lines2 = λ second.
          ap (λ w. is_in w second)
          (c.write_back2.ensures.lines2 ∙ c.write_back.ensures.lines2 ∙ c.wait2.ensures.lines2)
          ∙ c.in_ok-hold.ensures.lines2 second
          ∙ ap (has_line2 item.event second) (ap (λ w. is_in w second) lines2 ∙ kept.lines2 second);
      supplied = ap (λ w. w.items)
          (c.write_back2.ensures.supplied ∙ c.write_back.ensures.supplied ∙ c.wait2.ensures.supplied
          ∙ c.hold.ensures.supplied)
          ∙ c.in_ok-supply.ensures.supplied
          ∙ ap (λ w. supplied_after shape w.items item.event c.wait.new.self.supplied.items) c.wait.ensures.waiting2
          ∙ ap (λ (w : List Asked). supplied_after shape w item.event c.wait.new.self.supplied.items) kept.waiting2
          ∙ ap (λ w. supplied_after shape s.waiting2 item.event w.items) c.wait.ensures.supplied
          ∙ ap (supplied_after shape s.waiting2 item.event) kept.supplied;
    }
