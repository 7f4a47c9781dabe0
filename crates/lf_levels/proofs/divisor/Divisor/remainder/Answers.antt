use Rattle.std.proofs.Common.{◌≡◌, ◌<◌, ◌-◌, ◌%◌, ◌^◌, ◌∙◌, sym, ap, subst, bit_and}
use Rattle.std.specs.Prelude.{IfSome}
use Rattle.std.proofs.lemmas.Nat.{and_mask}
use Rattle.lf_levels.proofs.divisor.Divisor.remainder.Goals as goal

pub returns-in-Some : goal.returns-in-Some
returns-in-Some c =
    let power = subst (λ places. IfSome places (λ k. (k < 32) × (c.self.inside.by ≡ 2 ^ k))) c.in-Some.is
    c.self.invariant.1 in
    ap (λ by. bit_and c.args.n (by - 1)) power.1 ∙ and_mask c.args.n c.in-Some.field-0
    ∙ ap (λ by. c.args.n % by) (sym power.1 ∙ c.self.view_is)
