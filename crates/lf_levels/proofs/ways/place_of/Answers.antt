use Rattle.std.proofs.Common.{◌≡◌, ◌-◌, ◌+◌, sym, ◌∙◌, ap, arith}
use Rattle.lf_levels.specs.Rows.{is_same}
use Rattle.lf_levels.proofs.Counting.{first_from, first-start, first-here, first-behind, first-found, first-lacking}
use Rattle.lf_levels.proofs.ways.place_of.Goals as goal

pub loop-left-init : goal.loop-left-init
loop-left-init c = record {
  inside = omega arith;
  place = first-start (is_same c.args.wanted) c.args.keys.now;
}

pub loop-left-preserved-then-is : goal.loop-left-preserved-then-is
loop-left-preserved-then-is c =
    let l = c.loop-left in
    let inside = l.invariant.inside in
    let some = c.loop-left-test.true in
    let is_here = ap (is_same c.args.wanted) (sym c.index-keys-left.is) ∙ sym c.is.ensures ∙ c.if-is.true in
    record {
      inside = omega (arith, inside);
      place = first-here (is_same c.args.wanted) c.args.keys.now (l.left - 1) c.index-keys-left.result
          (omega (arith, inside, some)) is_here;
    }

pub loop-left-preserved : goal.loop-left-preserved
loop-left-preserved c =
    let l = c.loop-left in
    let inside = l.invariant.inside in
    let some = c.loop-left-test.true in
    let other = ap (is_same c.args.wanted) (sym c.index-keys-left.is) ∙ sym c.is.ensures ∙ c.if-is.false in
    let behind : l.left ≡ l.left - 1 + 1 = omega (arith, some) in
    record {
      inside = omega (arith, inside);
      place = l.invariant.place ∙ ap (first_from (is_same c.args.wanted) c.args.keys.now) behind
          ∙ first-behind (is_same c.args.wanted) c.args.keys.now (l.left - 1) c.index-keys-left.result
          (omega (arith, inside, some)) other;
    }

pub returns-then-place-keys : goal.returns-then-place-keys
returns-then-place-keys c =
    let l = c.loop-left in
    let none : l.left ≡ 0 = omega (arith, c.loop-left-test.false) in
    first-lacking (is_same c.args.wanted) c.args.keys.now
    (sym c.if-place-keys.true ∙ l.invariant.place ∙ ap (first_from (is_same c.args.wanted) c.args.keys.now) none)

pub returns : goal.returns
returns c =
    let l = c.loop-left in
    let none : l.left ≡ 0 = omega (arith, c.loop-left-test.false) in
    first-found (is_same c.args.wanted) c.args.keys.now l.place
    (l.invariant.place ∙ ap (first_from (is_same c.args.wanted) c.args.keys.now) none) c.if-place-keys.false
