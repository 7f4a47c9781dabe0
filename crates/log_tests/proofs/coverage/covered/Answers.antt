use Rattle.std.proofs.Common.{◌≡◌, ◌≤◌, ◌^◌, List, length, sym, subst, arith, rules}
use Rattle.std.specs.Global.{Vec}
use Rattle.std.specs.List.{All}
use Rattle.std.proofs.lemmas.List.Elements.{All-map}
use Rattle.lf_rules.specs.declared.event.Record.{Record}
use Rattle.lf_rules.specs.Numbers.{bank_numbers, IsWhole}
use Rattle.lf_rules.specs.Lists.{lists_of}
use Rattle.log_tests.proofs.coverage.covered.Goals as goal

pub cover-requires-clause-whole : goal.cover-requires-clause-whole
cover-requires-clause-whole c bank h =
    let first : bank ≡ 0 = omega (arith, c.shape.ensures.banks) in
    subst (λ b. IsWhole (bank_numbers (lists_of c.args.logs.now) b)) (sym first) c.in-Ok.ensures.whole

pub cover-requires-clause-short : goal.cover-requires-clause-short
cover-requires-clause-short c =
    let short : All (λ (v : Vec Record). length v.items ≤ 2 ^ 24) c.args.logs.now.items = search rules in
    All-map (λ (log : List Record). length log ≤ 2 ^ 24) (λ (v : Vec Record). v.items) c.args.logs.now.items short
