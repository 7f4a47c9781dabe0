use Rattle.std.proofs.Common.{not, ◌==◌, rules}
use Rattle.std.proofs.lemmas.Map.Made.{filter_same_pairs}
use Rattle.model_plain.proofs.lines.drop_line.Goals as goal

pub returns : goal.returns
returns g c = filter_same_pairs _ (λ line. not (line.0 == c.args.block)) _ (λ k v b w f' t. search rules) _ _
    c.retain.ensures.filtered
