use Rattle.std.proofs.Common.{◌≡◌, ℕ, Err, List, length, take, sym, ap, subst, ◌∙◌, arith, inl, inr}
use Rattle.std.proofs.lemmas.List.{length-drop}
use Rattle.lf_codec.specs.Reading.{Reading, read_on}
use Rattle.lf_codec.specs.Reader.{with_records}
use Rattle.lf_codec.specs.Packed.{PackedRecords, StandLast}
use Rattle.lf_codec.specs.Takes.{HasReadOn, PacksPart, cut_short}
use Rattle.lf_codec.proofs.Parts.{rest_is, part_after}
use Rattle.lf_codec.proofs.Packing.{last_drop, on_after, cut_at_once}
use Rattle.lf_codec.proofs.reader.Reader.pack_steps.Goals as goal

-- what was moved to the caller's records changes nothing of both as one
pub returns-in-Err-clause-takes : goal.returns-in-Err-clause-takes
returns-in-Err-clause-takes c =
    let old = with_records c.args.records.now.records c.args.self.now in
    let new = with_records c.keep.new.self.records c.run_out.new.self in
    let same = ap (λ (v : PackedRecords). with_records v.records c.pack_waiting.new.self) c.in-Err.ensures.unchanged
    ∙ c.in_ok-pack_waiting.ensures.moved in (
      c.run_out.ensures.told,
      cut_at_once old new c.args.piece.now c.requires
          (ap (with_records c.keep.new.self.records) c.run_out.ensures.failed ∙ ap cut_short same),
    )

pub pack_next-requires-clause-last : goal.pack_next-requires-clause-last
pack_next-requires-clause-last c =
    let piece = c.args.piece.now in
    subst (StandLast c.loop-at.records.bytes) (sym (rest_is piece c.loop-at.at))
    (last_drop c.loop-at.records.bytes piece c.loop-at.at
    (record {
      front = c.pack_waiting.new.records.bytes;
      joined =
          c.loop-at.invariant.bytes ∙ ap (λ (v : PackedRecords). v.bytes) c.in_default.ensures.kept;
    }))

pub loop-at-preserved : goal.loop-at-preserved
loop-at-preserved c =
    let rest = rest_is c.args.piece.now c.loop-at.at in
    let old = with_records c.keep.new.self.records c.pack_waiting.new.self in
    let mid = with_records c.loop-at.records.records c.loop-at.self in
    let new = with_records c.pack_next.new.records.records c.pack_next.new.self in
    let took = c.in-Ok.ensures.takes in record {
      within = omega (
        arith,
        took.1,
        ap length rest,
        length-drop c.loop-at.at c.args.piece.now,
        c.loop-at.invariant.within,
      );
      fine = took.3;
      none = elim c.in-Ok.ensures.drained [ inl want ↦ absurd cc | inr none ↦ none ];
      so_far = part_after old mid new c.args.piece.now c.loop-at.at c.in-Ok.n c.loop-at.invariant.so_far
          (took.2 ∙ ap (λ (xs : List ℕ). read_on mid (take c.in-Ok.n xs)) rest);
      bytes = c.in-Ok.ensures.bytes ∙ c.loop-at.invariant.bytes;
    }

pub returns-in-Err-pack_next-clause-takes : goal.returns-in-Err-pack_next-clause-takes
returns-in-Err-pack_next-clause-takes c =
    let old = with_records c.keep.new.self.records c.pack_waiting.new.self in
    let same : old ≡ with_records c.args.records.now.records c.args.self.now =
    ap (λ (v : PackedRecords). with_records v.records c.pack_waiting.new.self) c.in_default.ensures.kept
    ∙ c.in_ok-pack_waiting.ensures.moved in
    let mid = with_records c.loop-at.records.records c.loop-at.self in
    let new = with_records c.pack_next.new.records.records c.pack_next.new.self in
    let took = subst (λ (xs : List ℕ). PacksPart mid xs (Err c.in-Err-pack_next.fault) new)
    (rest_is c.args.piece.now c.loop-at.at) c.in-Err-pack_next.ensures.takes in
    let fault = on_after old mid new c.args.piece.now c.loop-at.at c.loop-at.invariant.within
    c.loop-at.invariant.so_far took.1 in
    (took.0, subst (λ (r : Reading). HasReadOn r c.args.piece.now new) same fault)
