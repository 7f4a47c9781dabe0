use Rattle.std.proofs.Common.{ℕ, not, ◌==◌, rules}
use Rattle.std.proofs.lemmas.Fn.{filter_same}
use Rattle.wave_traffic.proofs.bank.drop_block.Goals as goal

pub returns : goal.returns
returns c = filter_same _ (λ (a : ℕ). not (a == c.args.block)) _ (λ x b f' k. search rules) _ _
    c.retain.ensures.filtered
