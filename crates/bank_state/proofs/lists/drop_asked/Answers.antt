use Rattle.std.proofs.Common.{ℕ, not, ◌==◌, rules}
use Rattle.std.proofs.lemmas.Fn.{filter_same}
use Rattle.bank_state.proofs.lists.drop_asked.Goals as goal

pub returns : goal.returns
returns c = filter_same _ (λ (a : ℕ × ℕ). not (a.0 == c.args.block)) _ (λ x b f' k. search rules) _ _
    c.retain.ensures.filtered
