use Rattle.std.proofs.Common.{◌≡◌, ◌∙◌, ◌+◌, ap, arith, length}
use Rattle.std.specs.List.{slice_split}
use Rattle.text_assemble.specs.Assembly.{assembled, is_newline}
use Rattle.text_assemble.specs.Draft.{lines_in, left_in}
use Rattle.text_assemble.proofs.LineLoop.{goes_on, stops, is_done}
use Rattle.text_assemble.proofs.assembling.add_lines.Goals as goal

pub returns-in-Err : goal.returns-in-Err
returns-in-Err c =
    let draft = c.loop-rest.draft in
    let total = assembled c.args.draft.now.due c.args.draft.now.defaults c.args.draft.now.bytes.items 0
    (slice_split is_newline c.args.text.now) in
    stops draft.due draft.defaults draft.bytes.items c.loop-rest.number c.split_line.result.0.now
    (lines_in c.split_line.result.1)
    (lines_in c.loop-rest.rest) total c.in-Err.cause (ap lines_in c.in-Some.is ∙ c.split_line.ensures.lines)
    c.in-Err.ensures c.loop-rest.invariant.1

pub loop-rest-preserved : goal.loop-rest-preserved
loop-rest-preserved c =
    let draft = c.loop-rest.draft in
    let total = assembled c.args.draft.now.due c.args.draft.now.defaults c.args.draft.now.bytes.items 0
    (slice_split is_newline c.args.text.now) in
    let left : left_in c.loop-rest.rest ≡ length c.in-Some.ahead.now + 1 = ap left_in c.in-Some.is in (
      c.in_default-add.ensures.1,
      goes_on draft.due draft.defaults draft.bytes.items c.loop-rest.number c.split_line.result.0.now
          (lines_in c.split_line.result.1)
          (lines_in c.loop-rest.rest) total c.add.new.self.due c.add.new.self.defaults c.add.new.self.bytes.items
          (ap lines_in c.in-Some.is ∙ c.split_line.ensures.lines) c.in_default-add.ensures.0 c.loop-rest.invariant.1,
      omega (arith, left, c.split_line.ensures.shorter, c.loop-rest.invariant.2),
    )

pub returns : goal.returns
returns c =
    let total = assembled c.args.draft.now.due c.args.draft.now.defaults c.args.draft.now.bytes.items 0
    (slice_split is_newline c.args.text.now) in (
      is_done c.loop-rest.draft.due c.loop-rest.draft.defaults c.loop-rest.draft.bytes.items c.loop-rest.number
          (lines_in c.loop-rest.rest) total
          (ap lines_in c.in_default.is) c.loop-rest.invariant.1,
      c.loop-rest.invariant.0,
    )
