use Rattle.std.proofs.Common.{◌≡◌, ℕ, List, [], ◌∷◌, ◌++◌, length, get_or, sym, ap, subst, arith}
use Rattle.std.proofs.lemmas.List.{length-append}
use Rattle.lf_stats.specs.declared.counts.BankStats.{BankStats}
use Rattle.lf_stats.specs.Statistics.{unanswered}
use Rattle.lf_stats.specs.Answer.{IsBankStats}
use Rattle.lf_stats.proofs.Pushed.{each_more}
use Rattle.lf_stats.proofs.statistics.stats_of.Goals as goal

pub of_bank-requires-clause-whole : goal.of_bank-requires-clause-whole
of_bank-requires-clause-whole g c = c.requires.whole c.loop-bank.bank c.loop-bank-test.true

pub loop-bank-preserved : goal.loop-bank-preserved
loop-bank-preserved g c =
    let banks : List BankStats = c.loop-bank.banks.items in
    let counts = c.in_ok-counts.counts in
    let pushed : c.push.new.self.items ≡ banks ++ counts ∷ [] = c.in_ok-push.ensures.items in
    record {
      each_bank = omega (arith, ap length pushed, length-append banks (counts ∷ []), c.loop-bank.invariant.each_bank);
      bank = λ b d h.
          subst (λ xs. IsBankStats c.args.shape.now (g.L.LogRecords.lists c.args.logs.now) b (get_or xs b d))
          (sym pushed)
          (each_more (IsBankStats c.args.shape.now (g.L.LogRecords.lists c.args.logs.now)) banks counts c.loop-bank.bank
          c.loop-bank.invariant.each_bank c.loop-bank.invariant.bank c.in_ok-counts.ensures b d h);
    }

pub loop-port-preserved : goal.loop-port-preserved
loop-port-preserved g c =
    let ports : List ℕ = c.loop-port.ports.items in
    let lists = g.L.LogRecords.lists c.args.logs.now in
    let waiting = c.unanswered.result in
    let pushed : c.push-in-loop-port.new.self.items ≡ ports ++ waiting ∷ [] = c.in_ok-push-2.ensures.items in
    let last : waiting ≡ unanswered (get_or lists c.loop-port.port []) = c.unanswered.ensures in
    record {
      each_port = omega (arith, ap length pushed, length-append ports (waiting ∷ []), c.loop-port.invariant.each_port);
      port = λ p d h.
          subst (λ xs. get_or xs p d ≡ unanswered (get_or lists p [])) (sym pushed)
          (each_more (λ q n. n ≡ unanswered (get_or lists q [])) ports waiting c.loop-port.port
          c.loop-port.invariant.each_port c.loop-port.invariant.port last p d h);
    }

pub returns : goal.returns
returns g c = record {
  each_bank = omega (arith, c.loop-bank.invariant.each_bank);
  bank = λ b d h. c.loop-bank.invariant.bank b d (omega arith);
  each_port = omega (arith, c.loop-port.invariant.each_port);
  port = λ p h. c.loop-port.invariant.port p 0 (omega arith);
}
