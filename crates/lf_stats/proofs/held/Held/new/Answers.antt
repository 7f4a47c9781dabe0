use Rattle.std.proofs.Common.{refl, sym, ap, subst}
use Rattle.std.specs.Map.{lookup}
use Rattle.std.specs.BTreeMap.{is_at}
use Rattle.std.specs.Ordering.{nat_cmp}
use Rattle.lf_stats.specs.Standing.{IsCount, items_in}
use Rattle.lf_stats.proofs.held.Held.new.Goals as goal

pub returns : goal.returns
returns c = record {
  blocks = λ block. ap (λ entries. items_in (lookup (is_at (nat_cmp block)) entries)) c.new.ensures.empty;
  times = record {
    each = λ register. subst (λ entries. IsCount (lookup (is_at (nat_cmp register)) entries) 0)
        (sym c.new-2.ensures.empty) refl;
    count = c.new-2.ensures.len;
  };
}
