use Rattle.std.proofs.Common.{map, length, ap, ◌∙◌, subst, arith}
use Rattle.std.proofs.lemmas.Result.{err_from_is_err_and}
use Rattle.lf_logs.specs.Tallies.{AreOnceBelow, IsFirstFault}
use Rattle.lf_logs.specs.declared.order.Tally.{Tally}
use Rattle.lf_logs.proofs.Joined.{all_records-le}
use Rattle.lf_logs.proofs.Tallying.{whole_from, fault_from, no_fault_from}
use Rattle.lf_logs.proofs.Judged.{ArePlacesOfBank-from_tallies}
use Rattle.lf_logs.proofs.order.places_of_bank.Given as given
use Rattle.lf_logs.proofs.order.places_of_bank.Goals as goal

pub judge-requires : goal.judge-requires
judge-requires g c =
    omega (
      arith,
      ap length c.deref.ensures.value,
      c.in_ok-tallies.ensures.len,
      all_records-le c.args.bank
          (g.L.LogRecords.lists c.args.logs.now) c.requires.short c.requires.few,
    )

pub returns-in_err-judge-clause-fault : goal.returns-in_err-judge-clause-fault
returns-in_err-judge-clause-fault g c =
    let p = err_from_is_err_and c.from_residual-in_err-judge.result c.from_residual-in_err-judge.ensures.1 in
    let tallies = c.in_ok-tallies.tallies.items in
    let judged = subst (λ ts. IsFirstFault ts c.in_err-judge.field-0.0) c.deref.ensures.value
    c.in_err-judge.ensures.fault in
    rw (p.1, p.2) (fault_from (g.L.LogRecords.lists c.args.logs.now) c.args.bank tallies c.in_ok-tallies.ensures.len
    c.in_ok-tallies.ensures.counted c.in_err-judge.field-0.0 judged)

pub returns-in_err-judge-clause-succeeds : goal.returns-in_err-judge-clause-succeeds
returns-in_err-judge-clause-succeeds g c whole =
    let tallies = c.in_ok-tallies.tallies.items in
    let judged = subst (λ ts. IsFirstFault ts c.in_err-judge.field-0.0) c.deref.ensures.value
    c.in_err-judge.ensures.fault in
    absurd (no_fault_from (g.L.LogRecords.lists c.args.logs.now) c.args.bank tallies c.in_ok-tallies.ensures.len
    c.in_ok-tallies.ensures.counted whole c.in_err-judge.field-0.0 judged)

once : (g : given.Over) (c : goal.After-drop-tallies-2 g) → AreOnceBelow (length c.in_ok-tallies.tallies.items)
    c.in_ok-tallies.tallies.items
once g c = subst (λ ts. AreOnceBelow (length ts) ts) c.deref.ensures.value c.in_ok-judge.ensures.fine

pub returns-clause-order : goal.returns-clause-order
returns-clause-order g c =
    let tallies = c.in_ok-tallies.tallies.items in
    let lists = g.L.LogRecords.lists c.args.logs.now in
    ArePlacesOfBank-from_tallies lists c.args.bank tallies c.in_ok-last_places.field-0.items
    c.in_ok-tallies.ensures.len c.in_ok-tallies.ensures.counted (once g c)
    (c.in_ok-last_places.ensures ∙ ap (map (λ (t : Tally). t.last)) c.deref-2.ensures.value)

pub returns-clause-whole : goal.returns-clause-whole
returns-clause-whole g c =
    let tallies = c.in_ok-tallies.tallies.items in
    whole_from (g.L.LogRecords.lists c.args.logs.now) c.args.bank tallies c.in_ok-tallies.ensures.len
    c.in_ok-tallies.ensures.counted (once g c)
