use Rattle.std.proofs.Common.{◌≡◌, [], refl, arith}
use Rattle.lf_codec.specs.Reading.{Reading}
use Rattle.lf_codec.specs.Reader.{CanLend}
use Rattle.lf_codec.proofs.Lending.{on_found, lent_sound, lends_part}
use Rattle.lf_codec.proofs.reader.Reader.lend_next.Goals as goal

pub invariant_of-self : goal.invariant_of-self
invariant_of-self c =
    let s = c.self.inside in
    let empty : s.pending.items ≡ [] = rw (← c.self.view_is) at c.requires.between in
    lent_sound s.progress c.lend_record.new.self c.args.bytes.now c.lend_record.new.place c.lend_record.result
    s.pending.items c.lend_record.ensures.some c.lend_record.ensures.none empty c.self.invariant

pub returns-clause-some : goal.returns-clause-some
returns-clause-some c =
    let s = c.self.inside in
    let r : Reading = record {
      progress = s.progress;
      pending = s.pending.items;
      memory = s.memory.items;
      records =
          s.records.items;
      fault = s.fault;
    } in
    let new : Reading = record r { progress = c.lend_record.new.self } in
    let bytes = c.args.bytes.now in let item = c.lend_record.new.place in
    let can : CanLend r = rw (← c.self.view_is) at c.requires in
    rw (← c.self.view_is)
    (on_found c.lend_record.result c.lend_record.ensures.some
    (λ n into. lends_part r new bytes n item into can c.self.invariant.sound
    (λ i. omega (arith, c.type_inv.bytes i)) refl))
