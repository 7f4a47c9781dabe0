use Rattle.std.proofs.Common.{◌≡◌, ℕ, List, [], ◌∷◌, ◌++◌, length, get_or, sym, ap, subst, arith, Option}
use Rattle.std.proofs.lemmas.List.{length-append}
use Rattle.lf_stats.proofs.Pushed.{each_more}
use Rattle.count_usage.specs.declared.usage.BankUse.{BankUse}
use Rattle.count_usage.specs.Usage.{IsBankUse, highest_tag}
use Rattle.count_usage.proofs.usage.usage_of.Goals as goal

pub of_bank-requires-clause-whole : goal.of_bank-requires-clause-whole
of_bank-requires-clause-whole g c = c.requires.whole c.loop-bank.bank c.loop-bank-test.true

pub loop-bank-preserved : goal.loop-bank-preserved
loop-bank-preserved g c =
    let banks : List BankUse = c.loop-bank.banks.items in
    let used = c.in_ok-used.used in
    let pushed : c.push.new.self.items ≡ banks ++ used ∷ [] = c.in_ok-push.ensures.items in
    record {
      each_bank = omega (arith, ap length pushed, length-append banks (used ∷ []), c.loop-bank.invariant.each_bank);
      bank = λ b d h.
          subst (λ xs. IsBankUse c.args.shape.now (g.L.LogRecords.lists c.args.logs.now) b (get_or xs b d)) (sym pushed)
          (each_more (IsBankUse c.args.shape.now (g.L.LogRecords.lists c.args.logs.now)) banks used c.loop-bank.bank
          c.loop-bank.invariant.each_bank c.loop-bank.invariant.bank c.in_ok-used.ensures b d h);
    }

pub loop-port-preserved : goal.loop-port-preserved
loop-port-preserved g c =
    let tags : List (Option ℕ) = c.loop-port.tags.items in
    let lists = g.L.LogRecords.lists c.args.logs.now in
    let highest = c.highest_tag.result in
    let pushed : c.push-in-loop-port.new.self.items ≡ tags ++ highest ∷ [] = c.in_ok-push-2.ensures.items in
    let last : highest ≡ highest_tag (get_or lists c.loop-port.port []) = c.highest_tag.ensures in
    record {
      each_port = omega (arith, ap length pushed, length-append tags (highest ∷ []), c.loop-port.invariant.each_port);
      port = λ p d h.
          subst (λ xs. get_or xs p d ≡ highest_tag (get_or lists p [])) (sym pushed)
          (each_more (λ q tag. tag ≡ highest_tag (get_or lists q [])) tags highest c.loop-port.port
          c.loop-port.invariant.each_port c.loop-port.invariant.port last p d h);
    }
