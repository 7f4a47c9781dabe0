use Rattle.std.proofs.Common.{◌≡◌, ℕ, ◌+◌, ◌<◌, ◌∙◌, List, ◌∷◌, length, take, drop, sym, ap, arith}
use mathlib.Core.Path.{ap₂}
use Rattle.std.specs.List.{slice_split, position_or_len}
use Rattle.std.proofs.lemmas.List.Splits.{slice_split_first}
use Rattle.explain_refusal.specs.Lines.{is_newline}
use Rattle.explain_refusal.proofs.Cuts.{last_line}
use Rattle.explain_refusal.proofs.lines.split_line.Goals as goal

pub returns-then-len-text-clause-lines : goal.returns-then-len-text-clause-lines
returns-then-len-text-clause-lines c =
    let text = c.args.text.now in
    let at = c.line_len-len.ensures.value in
    let below : position_or_len is_newline text < length text = omega (arith, at) in
    let front : c.up_to.result.now ≡ take (position_or_len is_newline text) text =
    c.up_to.ensures ∙ ap (λ (n : ℕ). take n text) at in
    let back : c.behind.result.now ≡ drop (position_or_len is_newline text + 1) text =
    c.behind.ensures ∙ ap (λ (n : ℕ). drop (n + 1) text) at in
    slice_split_first is_newline text 0 below
    ∙ ap₂ (λ (line rest : List ℕ). line ∷ slice_split is_newline rest) (sym front) (sym back)

pub returns-else-len-text-clause-lines : goal.returns-else-len-text-clause-lines
returns-else-len-text-clause-lines c = last_line c.args.text.now (omega (arith, c.line_len-len.ensures.value))
