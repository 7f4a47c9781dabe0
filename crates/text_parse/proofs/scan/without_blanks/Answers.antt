use Rattle.std.proofs.Common.{◌∙◌, ap, ℕ, drop}
use Rattle.text_parse.proofs.Cuts.{blanks_dropped}
use Rattle.text_parse.proofs.scan.without_blanks.Goals as goal

pub returns : goal.returns
returns c =
    c.split_at.ensures.back ∙ ap (λ (n : ℕ). drop n c.args.text.now) c.blanks_len.ensures.value
    ∙ blanks_dropped c.args.text.now
