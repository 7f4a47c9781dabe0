use Rattle.std.proofs.Common.{◌≡◌, ℕ, zero, suc, ◌<◌, ◌≤◌, ◌^◌, List, [], ◌∷◌, length, get_or, ap, ◌∙◌, subst, arith}
use Rattle.std.specs.List.{All, AllByRecursion}
use Rattle.std.specs.Global.{Vec}
use borrow.Author.Count.{below_more}
use Rattle.std.proofs.lemmas.List.{take_all, get_or_default}
use Rattle.std.proofs.lemmas.List.Elements.{All-more, recursion_from_All}
use Rattle.lf_rules.specs.declared.event.Record.{Record}
use Rattle.lf_rules.specs.Fits.{Fits}
use Rattle.lf_rules.specs.Order.{log_at}
use Rattle.lf_model.proofs.Walks.{items_of}
use Rattle.log_tests.proofs.rechecks.are_sound.Goals as goal

named_all : (P : ℕ → Record → Type 0) (vs : List (Vec Record)) →
    ((k : ℕ) (d : Vec Record) → k < length vs → All (P k) (get_or vs k d).items) → (log : ℕ)
    → AllByRecursion (P log) (log_at (items_of vs) log)
named_all P [] h log = tt
named_all P (v ∷ vs) h zero = recursion_from_All (P 0) v.items (h 0 v (omega arith))
named_all P (v ∷ vs) h (suc log) = named_all (λ k. P (suc k)) vs (λ k d lt. h (suc k) d (omega arith)) log

pub loop-number-preserved : goal.loop-number-preserved
loop-number-preserved c =
    let vs = c.args.logs.now.items in
    let n = c.loop-number.number in
    let v = c.log-item.result in
    let is : v ≡ get_or vs n v = c.log-item.is ∙ ap (λ (xs : List (Vec Record)). get_or xs n v)
    c.deref-log-items.ensures.value in
    let inside : n < length vs = omega arith in
    let short : length v.items ≤ 2 ^ 24 = omega arith in
    let fits : All (Fits c.args.shape.now) v.items = subst (All (Fits c.args.shape.now)) c.deref.ensures.value
    (c.log_is_sound.ensures.fits c.if-not-log_is_sound.false) in
    let named : All (λ (r : Record). r.log ≡ n) v.items = subst (All (λ (r : Record). r.log ≡ n))
    c.deref.ensures.value (c.log_is_sound.ensures.named c.if-not-log_is_sound.false) in
    record {
      short = All-more (λ (log : Vec Record). length log.items ≤ 2 ^ 24) vs n v inside c.loop-number.invariant.short
          (subst (λ (log : Vec Record). length log.items ≤ 2 ^ 24) is short);
      named = λ k d lt. below_more (λ j. (e : Vec Record) → All (λ (r : Record). r.log ≡ j) (get_or vs j e).items) n
          (λ j lt e. c.loop-number.invariant.named j e lt)
          (λ e. subst (λ (log : Vec Record). All (λ (r : Record). r.log ≡ n) log.items)
          (is ∙ get_or_default vs n v e inside) named) k lt d;
      fits = All-more (λ (log : Vec Record). All (Fits c.args.shape.now) log.items) vs n v inside
          c.loop-number.invariant.fits
          (subst (λ (log : Vec Record). All (Fits c.args.shape.now) log.items) is fits);
    }

pub returns-clause-short : goal.returns-clause-short
returns-clause-short c = λ t. subst (All (λ (log : Vec Record). length log.items ≤ 2 ^ 24))
    (take_all c.loop-number.number c.args.logs.now.items (omega arith)) c.loop-number.invariant.short

pub returns-clause-named : goal.returns-clause-named
returns-clause-named c = λ t. named_all (λ k (r : Record). r.log ≡ k) c.args.logs.now.items
    (λ k d lt. c.loop-number.invariant.named k d (omega arith))

pub returns-clause-fits : goal.returns-clause-fits
returns-clause-fits c = λ t. subst (All (λ (log : Vec Record). All (Fits c.args.shape.now) log.items))
    (take_all c.loop-number.number c.args.logs.now.items (omega arith)) c.loop-number.invariant.fits
