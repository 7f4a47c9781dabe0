use Rattle.std.proofs.Common.{◌≡◌, ◌+◌, ◌<◌, [], length, sym, ap, ◌∙◌, arith, get_or}
use Rattle.lf_rules.specs.Run.{of_bank}
use Rattle.lf_logs.proofs.Joined.{of_first, of_first-more, of_first-le, of_bank-append}
use Rattle.lf_logs.proofs.order.bank_len.Given as given
use Rattle.lf_logs.proofs.order.bank_len.Goals as goal

inside : (g : given.Over) (c : goal.After-count_of_bank-len g) →
    c.loop-log.log < length (g.L.LogRecords.lists c.args.logs.now)
inside g c = omega (arith, c.log_count-log-end.ensures, c.loop-log-test.true)

counted : (g : given.Over) (c : goal.After-count_of_bank-len g) → c.loop-log.len + c.count_of_bank-len.result
    ≡ length (of_bank c.args.bank (of_first (c.loop-log.log + 1) (g.L.LogRecords.lists c.args.logs.now)))
counted g c =
    let lists = g.L.LogRecords.lists c.args.logs.now in
    let at = c.loop-log.log in
    ap (λ n. n + c.count_of_bank-len.result) c.loop-log.invariant
    ∙ ap (λ n. length (of_bank c.args.bank (of_first at lists)) + n) c.count_of_bank-len.ensures
    ∙ sym (ap (λ rs. length (of_bank c.args.bank rs)) (of_first-more lists at [] (inside g c))
    ∙ of_bank-append c.args.bank (of_first at lists) (get_or lists at []))

pub overflow_add-len : goal.overflow_add-len
overflow_add-len g c =
    let within = inside g c in
    omega (
      arith,
      counted g c,
      of_first-le c.args.bank (g.L.LogRecords.lists c.args.logs.now) c.requires.short (c.loop-log.log + 1)
          (omega arith),
      c.requires.few,
    )

pub loop-log-preserved : goal.loop-log-preserved
loop-log-preserved g c = counted g c
