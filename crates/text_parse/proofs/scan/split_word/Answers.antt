use Rattle.std.proofs.Common.{◌∙◌, ap, ℕ, take, drop}
use Rattle.text_parse.proofs.Cuts.{word_taken, word_dropped}
use Rattle.text_parse.proofs.scan.split_word.Goals as goal

pub returns-clause-word : goal.returns-clause-word
returns-clause-word c =
    c.split_at.ensures.front ∙ ap (λ (n : ℕ). take n c.args.text.now) c.word_len.ensures.value
    ∙ word_taken c.args.text.now

pub returns-clause-rest : goal.returns-clause-rest
returns-clause-rest c =
    c.split_at.ensures.back ∙ ap (λ (n : ℕ). drop n c.args.text.now) c.word_len.ensures.value
    ∙ word_dropped c.args.text.now
