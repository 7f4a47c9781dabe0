use Rattle.std.proofs.Common.{◌≡◌, ℕ, List, [], sym, ap, ◌∙◌, subst}
use Rattle.lf_rules.specs.declared.event.Record.{Record}
use Rattle.lf_rules.specs.Fits.{Bytes}
use Rattle.lf_codec.specs.Reading.{Reading}
use Rattle.lf_codec.specs.Reader.{HasRead, with_records}
use Rattle.explain_why.proofs.Within.{as_taken}
use Rattle.explain_why.proofs.packing.pack_all.Goals as goal

pub returns : goal.returns
returns c =
    let bytes = c.args.bytes.now in
    let begun = c.args.reader.now in
    let records = c.pack.new.records.records in
    let first = subst (λ (rs : List Record). HasRead (with_records rs begun) [] [] []) (sym c.new-records.ensures)
    c.requires in
    let read = as_taken c.pack.new.reader bytes [] records (c.in_ok-pack.ensures.read [] [] [] first) in
    let none : begun.records ≡ [] = sym (ap (λ (r : Reading). r.records) c.requires.same) in
    record {
      read = c.in_ok-take_memory.ensures.taken bytes records
          (subst (λ (m : List (ℕ × Bytes)). HasRead c.pack.new.reader bytes m records) (sym c.new-memory.ensures.items)
          read);
      no_memory = c.in_ok-take_memory.ensures.none;
      no_records = c.take_memory.ensures.records ∙ c.in_ok-pack.ensures.drained none;
    }
