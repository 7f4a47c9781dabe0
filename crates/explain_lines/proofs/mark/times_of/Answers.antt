use Rattle.std.proofs.Common.{◌≡◌, ℕ, ◌+◌, ◌<◌, List, [], ◌∷◌, ◌++◌, Option, length, get_or, set, map, take, sym}
use Rattle.std.proofs.Common.{ap, ◌∙◌}
use Rattle.std.proofs.Common.{string_bytes, arith}
use Rattle.std.proofs.lemmas.List.{get_or-replicate, length-replicate, length-set, map-append}
use Rattle.std.specs.Option.{option_map}
use Rattle.lf_rules.specs.declared.event.Record.{Record}
use Rattle.explain_lines.specs.Map.{time_of}
use Rattle.explain_lines.specs.Marks.{count_in, times_of}
use Rattle.explain_lines.proofs.Marking.{no_record, first_at, counts_more, count_few, times_more}
use Rattle.explain_lines.proofs.mark.times_of.Goals as goal

pub loop-place-init : goal.loop-place-init
loop-place-init c = record {
  long = length-replicate {A = ℕ} 256 0;
  counts = λ log lt. get_or-replicate 256 log 0 0 lt;
  found = ap (map (option_map string_bytes)) c.in_ok-found.ensures.items;
}

pub loop-place-preserved : goal.loop-place-preserved
loop-place-preserved c =
    let rs = c.args.records.now.records in
    let k = c.loop-place.place in
    let told : ℕ → ℕ → Option (List ℕ) = time_of c.args.times.now in
    let counts = c.loop-place.counts in
    let lt : k < length rs = omega (arith, c.loop-place-test.true, c.len-place-end.ensures) in
    let r : Record = get_or rs k no_record in
    let log : c.log-log.result ≡ r.log = c.log-log.ensures no_record in
    let is = first_at rs k lt in
    let from : c.from.result ≡ r.log = c.from.ensures ∙ log in
    let into : c.from-in-loop-place.result ≡ r.log = c.from-in-loop-place.ensures ∙ log in
    let within : r.log < 256 = omega (arith, log, c.log-log.type_inv) in
    let long = c.loop-place.invariant.long in
    let counted : get_or counts c.from.result 0 ≡ count_in (take k rs) r.log =
    ap (λ (i : ℕ). get_or counts i 0) from ∙ c.loop-place.invariant.counts r.log within in
    let one : c.saturating_add.result ≡ get_or counts r.log 0 + 1 =
    omega (
      arith,
      c.saturating_add.ensures,
      ap (λ (i : ℕ). get_or counts i 0) from,
      counted,
      count_few rs k r.log (omega arith),
      c.len-place-end.type_inv,
    ) in
    let passed : set counts c.from-in-loop-place.result c.saturating_add.result
    ≡ set counts r.log (get_or counts r.log 0 + 1) =
    ap (λ (i : ℕ). set counts i c.saturating_add.result) into ∙ ap (set counts r.log) one in
    let time : Option (List ℕ) = option_map string_bytes c.in_ok-time_of.field-0 in
    let time_is : time ≡ told r.log (count_in (take k rs) r.log) =
    c.in_ok-time_of.ensures ∙ ap (λ (i : ℕ). told i (get_or counts c.from.result 0)) log ∙ ap (told r.log) counted in
    record {
      long = length-set counts c.from-in-loop-place.result c.saturating_add.result ∙ long;
      counts = λ other lt.
          ap (λ (xs : List ℕ). get_or xs other 0) passed
          ∙ counts_more (take k rs) r counts long within c.loop-place.invariant.counts other lt
          ∙ ap (λ (xs : List Record). count_in xs other) (sym is);
      found =
          ap (map (option_map string_bytes)) c.in_ok-push.ensures.items
          ∙ map-append (option_map string_bytes) c.loop-place.found.items (c.in_ok-time_of.field-0 ∷ [])
          ∙ ap (λ (ts : List (Option (List ℕ))). ts ++ time ∷ []) c.loop-place.invariant.found
          ∙ ap (λ (t : Option (List ℕ)). times_of told (take k rs) ++ t ∷ []) time_is
          ∙ sym (times_more told (take k rs) r)
          ∙ ap (times_of told) (sym is);
    }
