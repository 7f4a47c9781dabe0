use Rattle.std.proofs.Common.{◌≡◌, ◌++◌, ◌∙◌, ℕ, Option, Err, ap, sym, subst, rules, string_bytes}
use Rattle.std.specs.List.{concat}
use Rattle.std.proofs.Common.{map}
use Rattle.text_dump.specs.declared.choice.Choice.{Choice}
use Rattle.text_dump.specs.declared.fault.DumpFault.TheVariants.{Write}
use Rattle.text_dump.specs.Chosen.{chosen_lines}
use Rattle.text_dump.specs.Choosing.{rest_of, IsToldOf}
use Rattle.text_dump.proofs.Kept.{rest_is, cut_before, chose}
use Rattle.text_dump.proofs.choosing.choose.Goals as goal

pub returns-in_err-tell_at_once-clause-chooses : goal.returns-in_err-tell_at_once-clause-chooses
returns-in_err-tell_at_once-clause-chooses g c choice bytes out so_far =
    let is : c.from_residual-in_err-tell_at_once.result ≡ Err Write = search rules in
    let mid = c.choose.new.chosen in
    let holds = c.in_ok-enough.ensures.lines bytes out so_far.shown so_far.holds in
    let all = bytes ++ c.args.piece.now in
    let kept = c.choose.ensures.choice ∙ so_far.same in
    let same = ap (λ (k : Choice). chosen_lines k all) (sym kept) ∙ rest_is mid out all holds in
    let prefix = c.in_err-tell_at_once.ensures.prefix in
    rw is (
      rest_of mid,
      same,
      cut_before _ _ (string_bytes mid.text) (concat (map string_bytes mid.lines.items))
          prefix.1.0 prefix.1.1,
    )

pub returns-clause-chooses : goal.returns-clause-chooses
returns-clause-chooses g c choice bytes out so_far =
    let mid = c.choose.new.chosen in
    let all = bytes ++ c.args.piece.now in
    let holds = c.in_ok-enough.ensures.lines bytes out so_far.shown so_far.holds in
    let shown = c.in_ok-enough.ensures.shown bytes so_far.shown in
    let kept = c.choose.ensures.choice ∙ so_far.same in
    let last = ap (λ (k : Choice). k.last) (sym kept) in (
      c.in_ok-enough.ensures.enough bytes so_far.shown,
      chose choice mid c.tell_at_once.new.self _ _ c.choose.new.self out all bytes kept c.tell_at_once.ensures.choice
          holds shown mid.choice.last last
          (subst (λ (l : Option ℕ). IsToldOf l choice out bytes) last so_far.told) c.in_ok-tell_at_once.ensures.whole,
    )
