use Rattle.std.proofs.Common.{◌≡◌, Bool, false, length, refl, sym, ap, subst, arith}
use Rattle.std.specs.Bool.{IsTrue}
use Rattle.lf_verdict.specs.Standing.{AreKept}
use Rattle.lf_verdict.specs.declared.session.standing.log_entries.Entries.{Entries}
use Rattle.lf_verdict.proofs.Standings.{logs_len, kept_more}
use Rattle.lf_verdict.proofs.session.standing.log_entries.Entries.keep.Goals as goal

not_true : (b : Bool) → b ≡ false → ¬ IsTrue b
not_true b fails holds = cc

pub index_mut-requires : goal.index_mut-requires
index_mut-requires c =
    let r = c.requires in
    omega (
      arith,
      c.from.ensures,
      r.inside,
      logs_len r.skeletons c.args.self.now r.kept,
      ap (λ (e : Entries). length e.logs.items) c.lets_go.ensures.rest,
    )

pub returns-in_ok-push-clause-kept : goal.returns-in_ok-push-clause-kept
returns-in_ok-push-clause-kept c skeletons inside kept =
    let same = c.lets_go.ensures.stays (not_true c.lets_go.result c.if-not-lets_go.true) in
    kept_more skeletons c.lets_go.new.self (subst (AreKept skeletons) (sym same) kept) c.entries_stay.ensures
    c.args.log c.from.result c.index_mut.result.now c.push.new.self c.args.entry _ c.from.ensures inside
    c.index_mut.ensures.value c.in_ok-push.ensures.items refl refl refl
