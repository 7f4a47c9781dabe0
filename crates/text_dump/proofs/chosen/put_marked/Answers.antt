use Rattle.std.proofs.Common.{◌++◌, ◌∙◌, ℕ, List, ap, string_bytes}
use Rattle.text_print.specs.Text.{line_text}
use Rattle.text_dump.proofs.Kept.{marked}
use Rattle.text_dump.proofs.chosen.put_marked.Goals as goal

pub returns : goal.returns
returns c = c.in_ok-write.ensures.bytes ∙ ap (λ (l : List ℕ). string_bytes c.args.text.now ++ l)
    (marked (line_text c.args.line) c.args.offset)
