use Rattle.std.proofs.Common.{◌≡◌, ◌+◌, [], ◌∷◌, length, refl, rules}
use Rattle.run_shrink.proofs.Larger.{same_size}
use Rattle.run_shrink.proofs.Told.{told_once_more, tell_of_one_more}
use Rattle.run_shrink.proofs.search.smallest.Goals as goal

pub loop-checks-init : goal.loop-checks-init
loop-checks-init g c = record { kept = c.requires.kept; smaller = same_size _; told = ([], refl, (refl, refl)) }

pub loop-checks-preserved : goal.loop-checks-preserved
loop-checks-preserved g c =
    let told = c.loop-checks.invariant.told in
    let checks = c.loop-checks.checks in
    let tried = c.in_ok-tried.ensures in
    let left = length c.in_ok-tried.tried.best.records.items in
    let same : c.len.result ≡ left = search rules in
    record {
      kept = tried.kept;
      smaller = tried.smaller c.args.first c.loop-checks.invariant.smaller;
      told = (
        (checks + 1, c.len.result) ∷ told.0,
        told_once_more g.O.Observer.tells c.args.observer.now c.loop-checks.observer c.judged.new.self told.0
            (checks + 1) told.1 c.len.result c.judged.ensures,
        tell_of_one_more (length c.args.first.records.items) told.0 checks (length c.loop-checks.best.records.items)
            c.len.result left told.2 same tried.fewer,
      );
    }

pub returns-in_err-note-clause-told : goal.returns-in_err-note-clause-told
returns-in_err-note-clause-told g c =
    let told = c.loop-checks.invariant.told in
    let checks = c.loop-checks.checks in (
      (checks + 1, c.len.result) ∷ told.0,
      told_once_more g.O.Observer.tells c.args.observer.now c.loop-checks.observer c.judged.new.self told.0
          (checks + 1) told.1 c.len.result c.judged.ensures,
      search rules,
    )
