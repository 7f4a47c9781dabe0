use Rattle.std.proofs.Common.{◌≡◌, ◌++◌, ◌∷◌, [], List, Option, sym, ap, ◌∙◌, subst, refl, option_to_list}
use Rattle.std.proofs.lemmas.List.{append-nil}
use Rattle.lf_rules.specs.declared.event.Record.{Record}
use Rattle.lf_rules.specs.Address.{flat_memory}
use Rattle.lf_codec.specs.Reading.{Reading}
use Rattle.lf_codec.specs.Reader.{HasRead}
use Rattle.lf_verdict.specs.Breaking.{first_offset}
use Rattle.lf_verdict.proofs.Lengths.{ends_in_range}
use Rattle.lf_verdict.proofs.Sessions.{may_come, running_more}
use Rattle.lf_verdict.proofs.session.intake.judge_records.Goals as goal

pub take-requires-in-Some-clause-next : goal.take-requires-in-Some-clause-next
take-requires-in-Some-clause-next c =
    let r = c.requires in
    let m = c.loop-item.invariant.read r.shape r.ordered r.bytes r.memory r.records r.read r.run in
    let rest = c.take.new.self.records in
    let front : c.loop-item.reader.records ≡ c.of.result ∷ rest =
    c.in-Some.ensures.first ∙ ap (λ (item : Record). item ∷ rest) (sym c.of.ensures) in
    record {
      shape = r.shape;
      memory = flat_memory r.memory;
      records = m.0;
      may = may_come c.read_so_far.ensures r.shape r.bytes r.memory m.0 c.loop-item.reader c.loop-item.standing
          c.of.result rest m.1.0 m.1.1 front;
      stands = m.1.1.stands;
    }

pub take-requires-in-Some-clause-range : goal.take-requires-in-Some-clause-range
take-requires-in-Some-clause-range c =
    let r = c.requires in
    let m = c.loop-item.invariant.read r.shape r.ordered r.bytes r.memory r.records r.read r.run in
    let rest = c.take.new.self.records in
    let front : c.loop-item.reader.records ≡ c.of.result ∷ rest =
    c.in-Some.ensures.first ∙ ap (λ (item : Record). item ∷ rest) (sym c.of.ensures) in
    ends_in_range c.read_so_far.ensures r.shape r.bytes r.memory m.0 c.loop-item.reader c.loop-item.standing
    c.of.result rest m.1.0 m.1.1 front

pub loop-item-preserved : goal.loop-item-preserved
loop-item-preserved c =
    let item = c.of.result in
    let rest = c.take.new.self.records in
    let front : c.loop-item.reader.records ≡ item ∷ rest =
    c.in-Some.ensures.first ∙ ap (λ (i : Record). i ∷ rest) (sym c.of.ensures) in
    let one : option_to_list c.take.result ≡ item ∷ [] =
    ap (λ (o : Option Record). option_to_list o) c.in-Some.is ∙ ap (λ (i : Record). i ∷ []) (sym c.of.ensures) in
    record {
      fault = ap (λ (q : Reading). q.fault) c.take.ensures.rest ∙ c.loop-item.invariant.fault;
      read = λ shape ordered bytes memory records read run.
          let m = c.loop-item.invariant.read shape ordered bytes memory records read run in
          let may = may_come c.read_so_far.ensures shape bytes memory m.0 c.loop-item.reader c.loop-item.standing item
          rest m.1.0 m.1.1 front in (
            m.0 ++ item ∷ [],
            (
              subst (λ (rs : List Record). HasRead c.take.new.self bytes memory (m.0 ++ rs)) one
                  (c.take.ensures.taken bytes memory m.0 m.1.0),
              running_more shape bytes memory m.0 (m.0 ++ item ∷ []) c.loop-item.standing c.take-in-Some.new.self
                  m.1.1 (c.in_ok-take.ensures.judged shape (flat_memory memory) m.0 may m.1.1.stands)
                  (c.in_ok-take.ensures.watched (first_offset m.1.1.header memory) shape (flat_memory memory) m.0 may
                  m.1.1.stands m.1.1.watched) c.in_ok-take.ensures.keeps,
            ),
          );
      known = λ known. c.take-in-Some.ensures.known (c.loop-item.invariant.known known);
      counts = λ counts. c.take-in-Some.ensures.counts (c.loop-item.invariant.counts counts);
    }

pub returns-clause-judged : goal.returns-clause-judged
returns-clause-judged c shape ordered bytes memory records read run =
    let m = c.loop-item.invariant.read shape ordered bytes memory records read run in
    let none : option_to_list c.take.result ≡ [] = ap (λ (o : Option Record). option_to_list o) c.in_default.is in (
      m.0,
      (
        subst (λ (rs : List Record). HasRead c.take.new.self bytes memory rs)
            (ap (λ (rs : List Record). m.0 ++ rs) none ∙ append-nil m.0) (c.take.ensures.taken bytes memory m.0 m.1.0),
        m.1.1,
      ),
    )

pub loop-item-init : goal.loop-item-init
loop-item-init c = record {
  fault = refl;
  read = λ shape ordered bytes memory records read run. (records, (read, run));
  known = λ known. known;
  counts = λ counts. counts;
}
