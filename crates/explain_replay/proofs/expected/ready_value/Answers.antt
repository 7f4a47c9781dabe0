use Rattle.std.proofs.Common.{ℕ, List, ◌++◌, ◌∙◌, sym, ap}
use Rattle.explain_replay.proofs.Listed.{no_value}
use Rattle.explain_replay.proofs.expected.ready_value.Goals as goal

pub returns : goal.returns
returns c = λ shape memory bank rs stands.
    let ready = c.in-Some.ensures shape memory bank rs stands in
    c.in_ok-extend_from_slice.ensures.items ∙ ap (λ (xs : List ℕ). xs ++ c.in-Some.ready.now)
    c.new-value.ensures.items ∙ ready.1

pub returns-in_default : goal.returns-in_default
returns-in_default c = λ shape memory bank rs stands.
    c.new-value.ensures.items ∙ sym (no_value c.args.port c.args.tag _
    (c.in_default.ensures shape memory bank rs stands))
