use Rattle.std.proofs.Common.{◌++◌, ◌∷◌, [], List, ap, ◌∙◌, subst}
use Rattle.std.proofs.lemmas.List.{append-nil}
use Rattle.lf_rules.specs.declared.event.Record.{Record}
use Rattle.lf_codec.specs.Reading.{Reading}
use Rattle.lf_codec.specs.Reader.{HasRead}
use Rattle.lf_verdict.proofs.pool.gathering.take_records.Goals as goal

pub loop-item-preserved : goal.loop-item-preserved
loop-item-preserved c = record {
  taken = λ count bytes memory records was are.
      let m = c.loop-item.invariant.taken count bytes memory records was are in (
        m.0 ++ c.in-Some.item ∷ [],
        (
          c.in-Some.ensures.taken bytes memory m.0 m.1.0,
          c.in_ok-put.ensures count m.0
              m.1.1,
        ),
      );
  fault = ap (λ (q : Reading). q.fault) c.in-Some.ensures.rest ∙ c.loop-item.invariant.fault;
  memory = ap (λ (q : Reading). q.memory) c.in-Some.ensures.rest ∙ c.loop-item.invariant.memory;
}

pub returns-clause-taken : goal.returns-clause-taken
returns-clause-taken c count bytes memory records was are =
    let m = c.loop-item.invariant.taken count bytes memory records was are in (
      m.0,
      (
        subst (λ (rs : List Record). HasRead c.take.new.self bytes memory rs) (append-nil m.0)
            (c.in_default.ensures.taken bytes memory m.0 m.1.0),
        m.1.1,
      ),
    )
