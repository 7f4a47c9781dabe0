use Rattle.std.proofs.Common.{List, ℕ, sym, ap, ◌∙◌, subst}
use Rattle.std.proofs.lemmas.List.{append-nil}
use Rattle.lf_rules.specs.Fits.{Bytes}
use Rattle.lf_codec.specs.Reading.{Reading}
use Rattle.lf_codec.specs.Reader.{HasRead}
use Rattle.lf_verdict.proofs.pool.gathering.take_memory.Goals as goal

pub loop-item-preserved : goal.loop-item-preserved
loop-item-preserved c = record {
  taken = λ bytes records was.
      subst (λ (items : List (ℕ × Bytes)). HasRead c.take_memory.new.self bytes items records)
      (sym c.in_ok-push.ensures.items)
      (c.in-Some.ensures.taken bytes c.loop-item.memory.items records (c.loop-item.invariant.taken bytes records was));
  fault = ap (λ (q : Reading). q.fault) c.in-Some.ensures.rest ∙ c.loop-item.invariant.fault;
}

pub returns-clause-taken : goal.returns-clause-taken
returns-clause-taken c bytes records was =
    subst (λ (items : List (ℕ × Bytes)). HasRead c.take_memory.new.self bytes items records)
    (append-nil c.loop-item.memory.items)
    (c.in_default.ensures.taken bytes c.loop-item.memory.items records (c.loop-item.invariant.taken bytes records was))
