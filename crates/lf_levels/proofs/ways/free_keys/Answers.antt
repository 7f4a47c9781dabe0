use Rattle.std.proofs.Common.{ap, ◌∙◌, replicate, rules}
use Rattle.lf_levels.proofs.ways.free_keys.Goals as goal

pub returns : goal.returns
returns c = c.in_ok-vec.ensures.items_if_clones_equal (λ y h. search rules) ∙ ap (replicate c.args.count)
    c.free.ensures
