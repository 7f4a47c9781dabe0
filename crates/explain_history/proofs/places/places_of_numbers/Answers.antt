use Rattle.std.proofs.Common.{◌≡◌, ℕ, ◌-◌, ◌<◌, None, length, get_or, drop, sym, ap, ◌∙◌, arith}
use Rattle.std.specs.Prelude.{slice_get}
use Rattle.std.proofs.lemmas.List.{ext_get_or, length-set}
use Rattle.std.proofs.lemmas.List.FromFn.{length-map-range_with_len, get_or-map-range_with_len}
use Rattle.explain_history.specs.Places.{places_from, is_numbered, place_of_number}
use Rattle.explain_history.proofs.Records.{no_record, with_number, without_number}
use Rattle.explain_history.proofs.places.places_of_numbers.Goals as goal
use Rattle.explain_history.proofs.places.places_of_numbers.Goals.{else-bank-via-then-bank+else-number-count}
use Rattle.explain_history.proofs.places.places_of_numbers.Goals.{else-bank-via-else-bank}

pub loop-place-preserved-then-number-count : goal.loop-place-preserved-then-number-count
loop-place-preserved-then-number-count c =
    let rs = c.args.records.now.records in
    let items = c.loop-place.places.items in
    let k = c.loop-place.place - 1 in
    let lt : k < length rs = omega arith in
    let len : length items ≡ c.args.count = c.loop-place.invariant.len in
    record {
      inside = omega arith;
      len = length-set items c.number-number.result _ ∙ len;
      found =
          with_number c.args.bank c.args.count c.number-number.result rs k c.loop-place.place items (omega arith) lt len
          c.if-number-count.true (sym (c.bank.ensures no_record) ∙ c.if-bank.true)
          (sym (c.number-number.ensures no_record)) c.loop-place.invariant.found;
    }

pub loop-place-preserved : goal.loop-place-preserved
loop-place-preserved c =
    let rs = c.args.records.now.records in
    let k = c.loop-place.place - 1 in
    let lt : k < length rs = omega arith in
    let bank_is = c.bank.ensures no_record in
    let number_is : c.number-number.result ≡ (get_or rs k no_record).number = c.number-number.ensures no_record in
    record {
      inside = omega arith;
      len = c.loop-place.invariant.len;
      found =
          without_number c.args.bank c.args.count rs k c.loop-place.place c.loop-place.places.items (omega arith) lt
          (λ own below. elim c.else-bank.branch [
            | else-bank-via-then-bank+else-number-count w ↦
                absurd (omega (arith, w.if-number-count.false, number_is, below))
            | else-bank-via-else-bank w ↦ w.if-bank.false (bank_is ∙ own)
          ])
          c.loop-place.invariant.found;
    }

pub returns : goal.returns
returns c =
    let rs = c.args.records.now.records in
    let bank = c.args.bank in
    let items = c.loop-place.places.items in
    let len = c.loop-place.invariant.len in
    let none : c.loop-place.place ≡ 0 = omega (arith, c.loop-place-test.false) in
    ext_get_or None items _ (len ∙ sym (length-map-range_with_len (place_of_number bank rs) 0 c.args.count))
    (λ k lt. c.loop-place.invariant.found k (omega (arith, len))
    ∙ ap (λ (n : ℕ). slice_get (places_from (is_numbered bank k) n (drop n rs)) 0) none
    ∙ sym (get_or-map-range_with_len (place_of_number bank rs) 0 c.args.count k k None (omega (arith, len))
    (omega arith)))
