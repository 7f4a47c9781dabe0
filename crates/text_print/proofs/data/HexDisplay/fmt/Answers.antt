use Rattle.std.proofs.Common.{arith, refl, sym, [], ◌++◌, take, true}
use Rattle.std.proofs.Output.{writes_in_calls_nil, has_written_of_eq}
use Rattle.std.proofs.lemmas.Grind.{put_two, common_steps}
use Rattle.hex.specs.Hex.{encode_lower, lower_digits}
use Rattle.text_print.proofs.Digits.{encode_with-nil, encode_with-append}
use Rattle.text_print.proofs.data.HexDisplay.fmt.Goals as goal

pub loop-rest-init : goal.loop-rest-init
loop-rest-init g c plain = record {
  before = [];
  whole = refl;
  written = rw (encode_with-nil lower_digits) (record { wrote = writes_in_calls_nil _ _; plain = plain });
}

pub loop-rest-preserved : goal.loop-rest-preserved
loop-rest-preserved g c plain =
    let so_far = c.loop-rest.invariant plain in
    let piece = take c.min-len.result c.loop-rest.rest.now in
    let whole = so_far.whole in
    record {
      before = so_far.before ++ piece;
      whole = grind (arith, common_steps, whole);
      written = put_two g.W.Write.write_str_gives c.args.f.now c.loop-rest.f c.write_str.new.self
          (encode_lower so_far.before) (encode_lower piece) _
          so_far.written
          (has_written_of_eq _ _ _ _ _ c.spell-text.ensures
          (c.in_ok-write_str.ensures.writes so_far.written.plain (refl {a = true})))
          (sym (encode_with-append lower_digits so_far.before piece));
    }
