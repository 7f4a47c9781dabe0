use Rattle.std.proofs.Common.{sym, ◌∙◌}
use Rattle.std.proofs.lemmas.Bool.{ne_eqb}
use Rattle.lf_codec.proofs.Soundness.{log_at_head, code_at_head}
use Rattle.lf_codec.proofs.progress.Progress.advance.Goals as goal

pub head_at-requires-clause-kind : goal.head_at-requires-clause-kind
head_at-requires-clause-kind c =
    code_at_head c.args.self.now c.args.bytes.now (sym c.replace.ensures.value ∙ c.in-Head.is) c.requires.sound
    (ne_eqb _ _ c.if-bytes-eq0.false) c.requires.checked

pub past_head-requires-clause-log : goal.past_head-requires-clause-log
past_head-requires-clause-log c =
    rw c.head_at.ensures (log_at_head c.args.self.now c.args.bytes.now (sym c.replace.ensures.value ∙ c.in-Head.is)
    c.requires.sound (ne_eqb _ _ c.if-bytes-eq0.false) c.requires.checked)
