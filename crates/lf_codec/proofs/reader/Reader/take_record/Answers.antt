use Rattle.std.proofs.Common.{◌≡◌, ◌++◌, ◌∷◌, [], List, None, sym, ap, ◌∙◌}
use Rattle.std.proofs.lemmas.Bool.{eqb-true}
use Rattle.std.proofs.lemmas.List.{nil_from_length}
use Rattle.lf_rules.specs.declared.event.Record.{Record}
use Rattle.lf_codec.specs.declared.progress.Progress.{Progress}
use Rattle.lf_codec.specs.Steps.{counted}
use Rattle.lf_codec.specs.Reading.{Reading}
use Rattle.lf_codec.proofs.Soundness.{sound_reader}
use Rattle.lf_codec.proofs.WholeRecord.{sound_behind, taken_at_once}
use Rattle.lf_codec.proofs.reader.Reader.take_record.Goals as goal

pub invariant_of-self-2 : goal.invariant_of-self-2
invariant_of-self-2 c =
    let p = c.self.inside.progress in
    let item = c.lend_any.new.place in
    let into = c.in_ok-len.ensures.some in
    let empty : c.self.inside.pending.items ≡ [] = nil_from_length c.self.inside.pending.items
    (eqb-true _ _ (sym c.if-not-is_empty.ensures)) in
    rw (empty, into.is_counted) (sound_reader (counted p c.in_ok-len.len item.log)
    (sound_behind p c.args.bytes.now item c.in_ok-len.len into.whole into.stage c.self.invariant.sound))

pub returns-clause-some : goal.returns-clause-some
returns-clause-some c =
    let r : Reading = record {
      progress = c.self.inside.progress;
      pending = c.self.inside.pending.items;
      memory = c.self.inside.memory.items;
      records = c.self.inside.records.items;
      fault = c.self.inside.fault;
    } in
    let new : Reading = record r { progress = c.lend_any.new.self; records = c.push_back_reserved.new.self.items } in
    let len = c.in_ok-len.len in
    let item = c.lend_any.new.place in
    let into = c.in_ok-len.ensures.some in
    let fine : r.fault ≡ None = rw (← c.self.view_is) at c.requires in
    let empty : r.pending ≡ [] = nil_from_length c.self.inside.pending.items
    (eqb-true _ _ (sym c.if-not-is_empty.ensures)) in
    let longer : c.push_back_reserved.new.self.items ≡ r.records ++ item ∷ [] =
    c.push_back_reserved.ensures.items ∙ ap (λ (i : Record). r.records ++ i ∷ []) c.to_record.ensures in
    let same : new ≡ record r { progress = counted r.progress len item.log; records = r.records ++ item ∷ [] } =
    ap (λ (p : Progress). record r { progress = p; records = c.push_back_reserved.new.self.items }) into.is_counted
    ∙ ap (λ (rs : List Record). record r { progress = counted r.progress len item.log; records = rs }) longer in
    rw (← c.self.view_is) (taken_at_once r new c.args.bytes.now item len fine empty into.stage into.whole
    c.self.invariant.sound same)
