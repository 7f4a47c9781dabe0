use Rattle.std.proofs.Common.{sym, subst, arith}
use Rattle.lf_join.specs.LogSets.{IsEmpty}
use Rattle.lf_join.proofs.LogSetLemmas.{empty_set, lowest_is}
use Rattle.lf_join.proofs.log_set.LogSet.lowest.Goals as goal

pub returns-then-self-eq0 : goal.returns-then-self-eq0
returns-then-self-eq0 c = subst (λ n. IsEmpty (record { 0 = n })) (sym c.if-self-eq0.true) empty_set

pub returns-else-self-eq0 : goal.returns-else-self-eq0
returns-else-self-eq0 c = lowest_is c.args.self.0 (let some = c.if-self-eq0.false in omega (arith, some)) (omega arith)
