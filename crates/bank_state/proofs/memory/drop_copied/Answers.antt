use Rattle.std.proofs.Common.{rules}
use Rattle.std.proofs.lemmas.Map.Made.{filter_same_pairs}
use Rattle.bank_state.proofs.TwoParts.{dropped, is_absent}
use Rattle.bank_state.proofs.memory.drop_copied.Goals as goal

pub returns : goal.returns
returns c = dropped c.args.near.now c.args.far.now.entries c.retain.new.self.entries
    (filter_same_pairs _ (λ e. is_absent c.args.near.now e.0) _ (λ k v b w f' t. search rules) _ _
    c.retain.ensures.filtered)
