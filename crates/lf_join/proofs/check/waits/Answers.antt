use Rattle.std.proofs.Common.{◌≡◌, ◌+◌, ◌∙◌, sym, ap, drop, Some, subst, length, ◌≤◌, arith}
use Rattle.std.proofs.lemmas.Bool.{ltb-true}
use Rattle.lf_rules.specs.Address.{no_bank}
use Rattle.std.specs.List.{list_any}
use Rattle.lf_rules.specs.Order.{log_at}
use Rattle.lf_rules.specs.Ring.{entry_at}
use Rattle.lf_join.specs.Join.{skeleton_lists}
use Rattle.lf_join.proofs.Entries.{entry_at-get_or, wait_from_smaller, smaller_from_wait, no_wait, waits_at_bank}
use Rattle.lf_join.proofs.Entries.{smaller_from_test, test_from_smaller, is_smaller}
use Rattle.lf_join.proofs.check.waits.Goals as goal

pub returns-then-bank-lt-NO_BANK : goal.returns-then-bank-lt-NO_BANK
returns-then-bank-lt-NO_BANK c =
    let skeletons = skeleton_lists c.args.skeletons.now in
    let waiting = c.in-Some.field-0.now in
    let h = c.in-Some.ensures.lookup in
    let named : entry_at (log_at skeletons c.args.knot.log) c.args.knot.at ≡ Some waiting =
    subst (λ xs. entry_at xs c.args.knot.at ≡ Some waiting) c.entries.ensures
    (entry_at-get_or c.entries.result.now c.args.knot.at waiting h.3.0 (h.3.1 waiting)) in
    let is : c.has_smaller.result ≡ list_any (is_smaller waiting.0 waiting.1)
    (drop (c.args.next.at + 1) (log_at skeletons c.args.next.log)) =
    c.has_smaller.ensures ∙ ap (λ xs. list_any (is_smaller waiting.0 waiting.1) (drop (c.args.next.at + 1) xs))
    c.entries-other.ensures in (
      λ told. wait_from_smaller skeletons c.args.knot c.args.next waiting named c.if-bank-lt-NO_BANK.true
          (smaller_from_test _ _ _ _ (sym is ∙ told)),
      λ wait. is ∙ test_from_smaller _ _ _ _ (smaller_from_wait skeletons c.args.knot c.args.next waiting named wait),
    )

pub returns-else-bank-lt-NO_BANK : goal.returns-else-bank-lt-NO_BANK
returns-else-bank-lt-NO_BANK c =
    let skeletons = skeleton_lists c.args.skeletons.now in
    let waiting = c.in-Some.field-0.now in
    let h = c.in-Some.ensures.lookup in
    let named : entry_at (log_at skeletons c.args.knot.log) c.args.knot.at ≡ Some waiting =
    subst (λ xs. entry_at xs c.args.knot.at ≡ Some waiting) c.entries.ensures
    (entry_at-get_or c.entries.result.now c.args.knot.at waiting h.3.0 (h.3.1 waiting)) in
    let free = c.if-bank-lt-NO_BANK.false in (
      λ told. absurd (omega (arith, free, ltb-true waiting.0 no_bank told)),
      λ wait. absurd (omega (arith, free, waits_at_bank skeletons c.args.knot c.args.next waiting named wait)),
    )

pub returns-in-None : goal.returns-in-None
returns-in-None c =
    let h = c.in-None.ensures.lookup in (
      λ told. cc,
      λ wait. absurd (no_wait (skeleton_lists c.args.skeletons.now) c.args.knot c.args.next
          (subst (λ xs. length xs ≤ c.args.knot.at) c.entries.ensures h.3) wait),
    )
