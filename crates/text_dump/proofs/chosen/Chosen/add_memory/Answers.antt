use Rattle.std.proofs.Common.{◌≡◌, ◌+◌, ◌++◌, ◌∙◌, [], ℕ, List, length, map, ap, arith, rules}
use Rattle.std.proofs.lemmas.List.{length-append}
use Rattle.lf_rules.specs.Fits.{Bytes}
use Rattle.lf_codec.specs.Layout.{u32_bytes, memory_bytes}
use Rattle.lf_codec.specs.Reading.{Reading}
use Rattle.lf_codec.proofs.Numbers.{length-u32_bytes}
use Rattle.text_print.specs.Text.{memory_text}
use Rattle.text_dump.specs.declared.choice.Choice.{Choice}
use Rattle.text_dump.specs.Chosen.{fits_memory, memory_candidate, line_at, taken_from}
use Rattle.text_dump.proofs.Placing.{one_end}
use Rattle.text_dump.proofs.Taken.{one_added, added_all, one_more}
use Rattle.text_dump.proofs.chosen.Chosen.add_memory.Goals as goal

pub loop-block-preserved : goal.loop-block-preserved
loop-block-preserved c =
    let so_far = c.loop-block.invariant in
    let choice = c.args.self.now.choice in
    let block = c.in-Some.block in
    let bytes = c.in-Some.bytes in
    let rest = c.take_memory.new.self.memory in
    let part = memory_candidate choice (block, bytes) in
    let size : 4 + c.len.result ≡ length (memory_bytes (block, bytes)) =
    omega (arith, c.len.ensures.value, length-append (u32_bytes block) bytes.items, length-u32_bytes block) in
    let fits : c.fits_memory-fits.result ≡ fits_memory choice block =
    c.fits_memory-fits.ensures ∙ ap (λ (k : Choice). fits_memory k block) so_far.choice in
    let text : memory_text block c.deref.result.now ≡ memory_text block bytes.items =
    ap (memory_text block) c.deref.ensures.0 in
    record {
      reader = c.in-Some.ensures.rest ∙ ap (λ (q : Reading). record q { memory = rest }) so_far.reader;
      choice = c.add.ensures.choice ∙ so_far.choice;
      done = so_far.done ++ line_at choice c.loop-block.at part;
      holds = λ out head lines h.
          one_added c.add.new.self out head lines so_far.done c.loop-block.self.choice choice part
          c.fits_memory-fits.result (memory_text block c.deref.result.now) c.loop-block.at so_far.choice fits text
          (c.in_ok-add.ensures.holds out head (lines ++ so_far.done) (so_far.holds out head lines h));
      all = one_more choice c.loop-block.at part (map (memory_candidate choice) rest) _ _ so_far.done _
          (ap (λ (ms : List (ℕ × Bytes)). map (memory_candidate choice) ms) c.in-Some.ensures.first) size so_far.all;
      end = one_end c.loop-block.at _ (block, bytes) rest _ c.in-Some.ensures.first size _ so_far.end;
    }

pub returns-clause-holds : goal.returns-clause-holds
returns-clause-holds c out head lines h =
    let so_far = c.loop-block.invariant in
    let choice = c.args.self.now.choice in
    let none : c.loop-block.reader.memory ≡ [] = search (rules, c.in_default.ensures.none) in
    added_all c.loop-block.self out head lines so_far.done _ _ (so_far.holds out head lines h) so_far.all
    (ap (λ (ms : List (ℕ × Bytes)). taken_from choice c.loop-block.at (map (memory_candidate choice) ms)) none)
