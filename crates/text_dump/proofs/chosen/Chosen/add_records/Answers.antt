use Rattle.std.proofs.Common.{◌≡◌, ◌++◌, ◌∷◌, ◌∙◌, [], List, length, map, ap, refl, arith, rules}
use Rattle.std.proofs.lemmas.List.Sums.{sum_by-cons}
use Rattle.lf_rules.specs.declared.event.Record.{Record}
use Rattle.lf_codec.specs.Reading.{Reading}
use Rattle.text_print.specs.Text.{record_text}
use Rattle.text_dump.specs.declared.choice.Choice.{Choice}
use Rattle.text_dump.specs.Lines.{Part, len_of, record_part}
use Rattle.text_dump.specs.Chosen.{fits_record, record_candidate, line_at, taken_from}
use Rattle.text_dump.proofs.Taken.{one_added, added_all, one_more}
use Rattle.text_dump.proofs.chosen.Chosen.add_records.Goals as goal

pub loop-item-preserved : goal.loop-item-preserved
loop-item-preserved c =
    let so_far = c.loop-item.invariant in
    let choice = c.args.self.now.choice in
    let header = c.args.header.now in
    let item = c.in-Some.item in
    let rest = c.take.new.self.records in
    let part = record_candidate choice header item in
    let first : c.loop-item.reader.records ≡ item ∷ rest = c.in-Some.ensures.first in
    let fits : c.fits_record-fits.result ≡ fits_record choice header item =
    c.fits_record-fits.ensures ∙ ap (λ (k : Choice). fits_record k header item) so_far.choice in
    record {
      reader = c.in-Some.ensures.rest ∙ ap (λ (q : Reading). record q { records = rest }) so_far.reader;
      choice = c.add.ensures.choice ∙ so_far.choice;
      done = so_far.done ++ line_at choice c.loop-item.at part;
      holds = λ out head lines h.
          one_added c.add.new.self out head lines so_far.done c.loop-item.self.choice choice part
          c.fits_record-fits.result (record_text item) c.loop-item.at so_far.choice fits refl
          (c.in_ok-add.ensures.holds out head (lines ++ so_far.done) (so_far.holds out head lines h));
      all = one_more choice c.loop-item.at part (map (record_candidate choice header) rest) _ _ so_far.done _
          (ap (λ (rs : List Record). map (record_candidate choice header) rs) first) c.record_len-at.ensures.len
          so_far.all;
      end = omega (
        arith,
        so_far.end,
        c.record_len-at.ensures.len,
        ap (λ (rs : List Record). len_of (map record_part rs)) first,
        sum_by-cons (λ (p : Part). length p.bytes) (record_part item) (map record_part rest),
      );
      counted = omega (arith, so_far.counted, ap (λ (rs : List Record). length rs) first);
    }

pub returns-clause-holds : goal.returns-clause-holds
returns-clause-holds c out head lines h =
    let so_far = c.loop-item.invariant in
    let choice = c.args.self.now.choice in
    let none : c.loop-item.reader.records ≡ [] = search (rules, c.in_default.ensures.none) in
    added_all c.loop-item.self out head lines so_far.done _ _ (so_far.holds out head lines h) so_far.all
    (ap (λ (rs : List Record). taken_from choice c.loop-item.at (map (record_candidate choice c.args.header.now) rs))
    none)
