use Rattle.std.proofs.Common.{◌≡◌, ℕ, ◌<◌, is_some, false, sym, ap, ◌∙◌, arith}
use Rattle.std.specs.Prelude.{nat_le}
use Rattle.std.proofs.lemmas.Bool.Decides.{nat_tests}
use Rattle.lf_logs.specs.Reordering.{Reordering}
use Rattle.lf_logs.proofs.Reordered.{none_past}
use Rattle.lf_logs.proofs.reorder.Reorder.has_next.Goals as goal

above : (n m : ℕ) → m < n → nat_le n m ≡ false
above n m more = grind (arith, nat_tests)

pub returns-else-self-from : goal.returns-else-self-from
returns-else-self-from c put gave has = above c.self.inside.next c.from.result c.if-self-from.false
    ∙ sym (ap is_some (none_past c.args.self.now put gave has (omega (
      arith,
      c.if-self-from.false,
      c.from.ensures,
      ap (λ (o : Reordering). o.next) c.self.view_is,
    ))))
