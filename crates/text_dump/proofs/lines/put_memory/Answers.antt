use Rattle.std.proofs.Common.{◌≡◌, ◌+◌, ◌++◌, ◌∙◌, length, ap, arith, rules, string_bytes}
use Rattle.std.proofs.lemmas.List.{length-append}
use Rattle.lf_codec.specs.Layout.{u32_bytes, memory_bytes}
use Rattle.lf_codec.specs.Reading.{Reading}
use Rattle.lf_codec.proofs.Numbers.{length-u32_bytes}
use Rattle.text_print.specs.Text.{memory_text}
use Rattle.text_dump.specs.Lines.{placed_line}
use Rattle.text_dump.proofs.Placing.{one_line, one_end}
use Rattle.text_dump.proofs.lines.put_memory.Goals as goal

pub loop-block-preserved : goal.loop-block-preserved
loop-block-preserved c =
    let so_far = c.loop-block.invariant in
    let block = c.in-Some.block in
    let bytes = c.in-Some.bytes in
    let rest = c.take_memory.new.self.memory in
    let size : 4 + c.len.result ≡ length (memory_bytes (block, bytes)) =
    omega (arith, c.len.ensures.value, length-append (u32_bytes block) bytes.items, length-u32_bytes block) in
    let put : string_bytes c.put_line.new.text ≡ string_bytes c.loop-block.text
    ++ placed_line (memory_text block bytes.items) c.loop-block.at = search (rules, c.deref.ensures) in
    record {
      reader = c.in-Some.ensures.rest ∙ ap (λ (q : Reading). record q { memory = rest }) so_far.reader;
      lines = one_line c.loop-block.at _ (block, bytes) rest _ c.in-Some.ensures.first size _ _ _ put so_far.lines;
      end = one_end c.loop-block.at _ (block, bytes) rest _ c.in-Some.ensures.first size _ so_far.end;
    }
