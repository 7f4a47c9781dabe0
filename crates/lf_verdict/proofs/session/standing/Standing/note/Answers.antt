use Rattle.std.proofs.Common.{[], ◌∷◌, length, refl, ap, ◌∙◌, append-nil, arith}
use Rattle.std.specs.List.{flat_map}
use Rattle.std.proofs.lemmas.List.{length-append}
use Rattle.std.proofs.lemmas.List.Concat.{flat_map-append, flat_map-cons}
use Rattle.lf_codec.specs.Layout.{record_bytes}
use Rattle.lf_verdict.proofs.session.standing.Standing.note.Goals as goal
use Rattle.lf_verdict.proofs.session.standing.Standing.note.Goals.{in-Some, in-None}

pub returns-clause-watched : goal.returns-clause-watched
returns-clause-watched c start shape memory before at offset stands none = elim c.match-broke_upon.branch [
  | in-Some w ↦ rw w.self-is (record {
    before = before;
    item = c.args.item.now;
    after = [];
    are = refl;
    place = record { log = w.log-log.ensures; at = at; offset = offset };
    whole = none;
    broke = w.in-Some.ensures.named shape memory before none stands;
  })
  | in-None w ↦
      let item = c.args.item.now in
      let front = flat_map record_bytes before in
      let own = ap length (flat_map-cons record_bytes item [] ∙ append-nil (record_bytes item)) in
      let joined = ap length (flat_map-append record_bytes before (item ∷ []))
      ∙ length-append front (flat_map record_bytes (item ∷ [])) in
      rw w.self-is (
        w.in-None.ensures.none shape memory before none stands,
        omega (arith, offset, w.view_len.ensures.len, joined, own),
      )
]
