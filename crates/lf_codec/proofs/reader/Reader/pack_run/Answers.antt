use Rattle.std.proofs.Common.{ℕ, List, length, take, drop, sym, ap, subst, ◌∙◌, arith}
use Rattle.std.proofs.lemmas.List.{length-drop}
use Rattle.lf_codec.specs.Reading.{Reading, read_on}
use Rattle.lf_codec.specs.Reader.{with_records}
use Rattle.lf_codec.specs.Packed.{PackedRecords, StandLast}
use Rattle.lf_codec.proofs.Parts.{rest_is, part_after}
use Rattle.lf_codec.proofs.Packing.{last_drop}
use Rattle.lf_codec.proofs.reader.Reader.pack_run.Goals as goal

pub pack_record-requires-clause-last : goal.pack_record-requires-clause-last
pack_record-requires-clause-last c =
    let bytes = c.args.bytes.now in
    subst (StandLast c.loop-n.records.bytes) (sym (rest_is bytes c.loop-n.at))
    (subst (λ (all : List ℕ). StandLast all (drop c.loop-n.at bytes)) (sym c.loop-n.invariant.bytes)
    (last_drop c.args.records.now.bytes bytes c.loop-n.at c.requires.last))

pub loop-n-preserved : goal.loop-n-preserved
loop-n-preserved c =
    let bytes = c.args.bytes.now in
    let rest = rest_is bytes c.loop-n.at in
    let before = c.loop-n.invariant in
    let old = with_records c.args.records.now.records c.args.self.now in
    let mid = with_records c.loop-n.records.records c.loop-n.self in
    let new = with_records c.pack_record.new.records.records c.pack_record.new.self in
    let took = c.in-Some.ensures.some in
    record {
      within = omega (arith, took.1, ap length rest, length-drop c.loop-n.at bytes, before.within);
      fine = took.3;
      between = ap (λ (r : Reading). r.pending) c.in-Some.ensures.progress ∙ before.between;
      none = ap (λ (r : Reading). r.records) c.in-Some.ensures.progress ∙ before.none;
      header = ap (λ (v : PackedRecords). v.header) c.in-Some.ensures.rest ∙ before.header
          ∙ sym c.in-Some.ensures.header;
      bytes = ap (λ (v : PackedRecords). v.bytes) c.in-Some.ensures.rest ∙ before.bytes;
      so_far = part_after old mid new bytes c.loop-n.at c.in-Some.n before.so_far
          (took.2 ∙ ap (λ (xs : List ℕ). read_on mid (take c.in-Some.n xs)) rest);
    }
