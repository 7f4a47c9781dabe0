use Rattle.std.proofs.Common.{◌≡◌, rules, ap, ◌∙◌}
use Rattle.std.specs.BTreeMap.{keys}
use Rattle.lf_config.specs.Unknown.{is_known}
use Rattle.lf_config.proofs.Names.{first_name, names_of_table}
use Rattle.lf_config.proofs.unknown.first_other.Goals as goal

pub loop-name-init : goal.loop-name-init
loop-name-init c =
    let all : c.into_iter-name-iterator.result ≡ keys c.args.table.now = search rules in
    let known = is_known c.args.level in
    record {
      can = tt;
      ends = tt;
      same = ap (first_name known) all
          ∙ names_of_table known c.args.table.now.entries c.keys-name-items.ensures.ordered;
    }
