use Rattle.std.proofs.Common.{[], ◌∷◌, ◌++◌, Result, Ok, Err, sym, subst}
use Rattle.std.specs.Result.{OnOk}
use Rattle.lf_verdict.specs.declared.session.breaking.Watch.{Watch}
use Rattle.lf_verdict.specs.Standing.{Counts, IsWatch, IsKnown, StandsAfterAll}
use Rattle.lf_verdict.specs.inner.Noting.{EndsInRange}
use Rattle.lf_verdict.proofs.Breaks.{stands_watched, watch_stays}
use Rattle.lf_verdict.proofs.session.standing.Standing.take.Goals as goal

on_any : {T E P : Type 0} (r : Result T E) → P → OnOk r P
on_any (Ok x) p = p
on_any (Err e) p = tt

pub returns-in_default-clause-watched : goal.returns-in_default-clause-watched
returns-in_default-clause-watched c start shape memory records may stands watched =
    let item = c.args.item.now in
    let before = c.args.self.now.watch in
    on_any c.judge.result
    (subst (IsWatch start shape memory (records ++ item ∷ [])) (sym c.judge.ensures.watch)
    (watch_stays start shape memory records item before c.in_default.not-Whole watched))

pub returns-in_default-clause-known : goal.returns-in_default-clause-known
returns-in_default-clause-known c known = subst IsKnown (sym c.judge.ensures.watch) known

pub note-requires : goal.note-requires
note-requires c = record {
  range = subst (λ (w : Watch). EndsInRange w c.args.item.now) c.in-Whole.is c.requires.range;
}

pub returns-clause-judged : goal.returns-clause-judged
returns-clause-judged c shape memory records may stands =
    let after = records ++ c.args.item.now ∷ [] in
    subst (StandsAfterAll shape memory after) (sym c.note.ensures.rest)
    (stands_watched shape memory after c.judge-2.new.self c.note.new.self.watch
    (c.in_ok-judge.ensures.judged shape memory records may stands))

pub returns-clause-watched : goal.returns-clause-watched
returns-clause-watched c start shape memory records may stands watched =
    let whole = subst (IsWatch start shape memory records) c.in-Whole.is watched in
    c.note.ensures.watched start shape memory records (c.place_of-at.ensures shape records may stands.entered) whole.1
    (c.in_ok-judge.ensures.judged shape memory records may stands) whole.0

pub returns-in_err-judge-clause-known : goal.returns-in_err-judge-clause-known
returns-in_err-judge-clause-known c known = subst IsKnown (sym c.judge-2.ensures.watch) known

pub returns-clause-counts : goal.returns-clause-counts
returns-clause-counts c counts = subst Counts (sym c.note.ensures.rest) (c.in_ok-judge.ensures.counts counts)
