use Rattle.std.proofs.Common.{◌≡◌, ℕ, ◌≤◌, List, true, false, refl, arith, replicate, get_or, inl, inr}
use Rattle.std.proofs.lemmas.Bool.{cases_lt}
use Rattle.std.proofs.lemmas.List.{get_or-replicate, get_or_past}
use Rattle.lf_codec.specs.Trace.{FitsIn}
use Rattle.lf_codec.proofs.Forward.{log_below}
use Rattle.lf_codec.proofs.FitsAt.{each_at, log_len_at, logs_within}
use Rattle.lf_codec.proofs.fitting.logs_fit.Goals as goal

no_counts : List ℕ
no_counts = replicate 32 0

no_more : (limit log : ℕ) → get_or no_counts log 0 ≤ limit
unfolding no_counts
no_more limit log =
    elim (cases_lt log 32) [
      | inl lt ↦ omega (arith, get_or-replicate {A = ℕ} 32 log 0 0 lt)
      | inr le ↦ omega (arith, get_or_past no_counts log 0 le)
    ]

pub loop-item-init : goal.loop-item-init
unfolding no_counts
loop-item-init c = record {
  len = refl;
  counted = λ log lt. get_or-replicate {A = ℕ} 32 log 0 0 lt;
  limit = λ log. no_more _ log;
  same_limit = c.log_limit-limit.ensures;
}

pub returns-then-counts-log : goal.returns-then-counts-log
returns-then-counts-log c = (
  λ no. absurd (let bad : false ≡ true = no in cc),
  λ all. absurd (
      let fits = rw (← c.item-item.is) at (each_at (FitsIn c.args.header.now) c.args.records.now
      c.loop-item.item-index c.item-item.result c.loop-item-test.true c.requires.each) in
      let below = log_below c.args.header.now c.item-item.result c.requires.header fits in
      let one_more = log_len_at c.args.records.now c.loop-item.item-index c.item-item.result c.loop-item-test.true
      c.item-item.is in
      omega (
        arith,
        one_more,
        all c.item-item.result.log,
        c.loop-item.invariant.counted c.item-item.result.log below,
        c.loop-item.invariant.same_limit,
        c.if-counts-log.true,
      )),
)

pub returns : goal.returns
returns c = (
  λ yes. logs_within c.args.header.now c.args.records.now c.loop-item.counts c.loop-item.item-index c.requires.header
      c.requires.each c.loop-item-test.false
      c.loop-item.invariant.counted c.loop-item.invariant.limit,
  λ all. refl,
)
