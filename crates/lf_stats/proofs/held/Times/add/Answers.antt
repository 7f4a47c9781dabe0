use Rattle.std.proofs.Common.{rules, ◌≡◌, ℕ, ◌+◌, Option, Some, cond, ap, ◌∙◌}
use Rattle.std.specs.Prelude.{unwrap_or, is_some}
use Rattle.std.specs.BTreeMap.{get, btree_map_len}
use Rattle.std.specs.Ordering.{nat_cmp}
use Rattle.lf_stats.proofs.Holds.{at_other, each_added, count_added}
use Rattle.lf_stats.proofs.held.Times.add.Goals as goal

pub returns : goal.returns
returns c registers told =
    let register = c.args.register in
    let before : ℕ → Option ℕ = get nat_cmp c.args.self.now.0 in
    let after : ℕ → Option ℕ = get nat_cmp c.insert.new.self in
    let updates = c.in_ok-insert.ensures.updates in
    let kept : c.unwrap_or-times.result ≡ unwrap_or (before register) 0 = search rules in
    record {
      each = each_added register registers before after (λ q other. updates.2 q (at_other register q other)) told.each
          (updates.1 ∙ ap (λ n. Some (n + 1)) kept);
      count =
          c.in_ok-insert.ensures.len
          ∙ ap (λ o. btree_map_len c.args.self.now.0 + cond (is_some o) 0 1) c.in_ok-insert.ensures.old
          ∙ count_added register registers (before register) (btree_map_len c.args.self.now.0) (told.each register)
          told.count;
    }
