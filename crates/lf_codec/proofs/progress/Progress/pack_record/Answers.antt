use Rattle.std.proofs.Common.{◌≡◌, ℕ, ◌++◌, ◌∷◌, [], take, refl, sym, ap, subst, arith, ◌∙◌}
use Rattle.lf_rules.specs.declared.event.Record.{Record}
use Rattle.lf_codec.specs.declared.header.Header.{Header}
use Rattle.lf_codec.specs.Lent.{spelled_record}
use Rattle.lf_codec.specs.Packed.{PackedRecords, SpellOne}
use Rattle.lf_codec.specs.Steps.{counted}
use Rattle.lf_codec.proofs.Lending.{spell_whole, whole_again}
use Rattle.lf_codec.proofs.WholeRecord.{range_at, log_exists, room_behind, len_within}
use Rattle.lf_codec.proofs.progress.Progress.pack_record.Goals as goal

pub push_spelled-requires-clause-len : goal.push_spelled-requires-clause-len
push_spelled-requires-clause-len c =
    let found = c.in_ok-len.ensures in
    len_within c.args.self.now c.args.bytes.now c.see_any.new.place c.in_ok-len.len found.whole found.stage
    c.requires.sound

pub push_spelled-requires-clause-spelled : goal.push_spelled-requires-clause-spelled
push_spelled-requires-clause-spelled c =
    let p = c.args.self.now in let bytes = c.args.bytes.now in let found = c.in_ok-len.ensures in
    subst (λ (h : Header). SpellOne h (take c.in_ok-len.len bytes)) (sym c.requires.header)
    (spell_whole p bytes c.see_any.new.place c.in_ok-len.len found.whole (range_at p found.stage c.requires.sound)
    (λ i. omega (arith, c.type_inv.bytes i)))

pub count_on-requires-clause-room : goal.count_on-requires-clause-room
count_on-requires-clause-room c =
    let found = c.in_ok-len.ensures in
    room_behind c.args.self.now c.args.bytes.now c.see_any.new.place c.in_ok-len.len found.whole found.stage
    c.requires.sound

pub count_on-requires-clause-log : goal.count_on-requires-clause-log
count_on-requires-clause-log c =
    let found = c.in_ok-len.ensures in
    rw c.log.ensures (log_exists c.args.self.now c.args.bytes.now c.see_any.new.place c.in_ok-len.len found.whole
    found.stage c.requires.sound)

pub returns-clause-packed : goal.returns-clause-packed
returns-clause-packed c =
    let p = c.args.self.now in let bytes = c.args.bytes.now in let found = c.in_ok-len.ensures in
    let item = c.see_any.new.place in let front = take c.in_ok-len.len bytes in let old = c.args.records.now in
    let same : spelled_record old.header front ≡ item =
    ap (λ (h : Header). spelled_record h front) c.requires.header
    ∙ whole_again p bytes item c.in_ok-len.len found.whole (range_at p found.stage c.requires.sound)
    (λ i. omega (arith, c.type_inv.bytes i)) in
    record {
      item = item;
      is_kept = ap (λ (v : PackedRecords). v.records) (c.if-not-push_spelled.ensures.kept refl)
          ∙ ap (λ (r : Record). old.records ++ r ∷ []) same;
      stage = found.stage;
      whole = found.whole;
      is_counted = c.count_on.ensures ∙ ap (λ (log : ℕ). counted p c.in_ok-len.len log) c.log.ensures;
    }
