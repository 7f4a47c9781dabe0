use Rattle.std.proofs.Common.{◌≡◌, ℕ, [], None, Ok, refl}
use Rattle.lf_codec.specs.Reading.{Reading, with_front}
use Rattle.lf_codec.specs.Takes.{TakesPart}
use Rattle.lf_codec.proofs.Packing.{packed_sound, on_packed, packed_takes, packed_header}
use Rattle.lf_codec.proofs.reader.Reader.pack_record.Goals as goal

pub invariant_of-self : goal.invariant_of-self
invariant_of-self c =
    let s = c.self.inside in
    let empty : s.pending.items ≡ [] = rw (← c.self.view_is) at c.requires.between in
    packed_sound s.progress c.pack_record.new.self c.args.bytes.now c.args.records.now.records
    c.pack_record.new.records.records c.pack_record.result s.pending.items
    c.pack_record.ensures.packed empty c.self.invariant

pub returns-clause-some : goal.returns-clause-some
returns-clause-some c =
    let s = c.self.inside in
    let r : Reading = record {
      progress = s.progress;
      pending = s.pending.items;
      memory = s.memory.items;
      records =
          s.records.items;
      fault = s.fault;
    } in
    let new : Reading = record r { progress = c.pack_record.new.self } in
    let before = c.args.records.now.records in let after = c.pack_record.new.records.records in
    let fine : r.fault ≡ None = rw (← c.self.view_is) at c.requires.fine in
    let empty : r.pending ≡ [] = rw (← c.self.view_is) at c.requires.between in
    let none : r.records ≡ [] = rw (← c.self.view_is) at c.requires.none in
    rw (← c.self.view_is)
    (on_packed s.progress c.pack_record.new.self c.args.bytes.now before after
    (λ (n : ℕ). TakesPart (with_front [] before r) c.args.bytes.now (Ok n) (with_front [] after new))
    c.pack_record.result c.pack_record.ensures.packed
    (λ n into. packed_takes r new c.args.bytes.now n before after into fine empty none c.self.invariant.sound refl))

pub returns-clause-header : goal.returns-clause-header
returns-clause-header c =
    let s = c.self.inside in
    rw (← c.self.view_is)
    (packed_header s.progress c.pack_record.new.self c.args.bytes.now c.args.records.now.records
    c.pack_record.new.records.records c.pack_record.result c.pack_record.ensures.packed)
