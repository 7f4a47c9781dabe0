use Rattle.std.proofs.Common.{◌≡◌, ◌+◌, ◌*◌, ◌≤◌, ◌==◌, ◌++◌, ◌∷◌, [], ap, sym, ◌∙◌, subst}
use Rattle.std.specs.Prelude.{count_by}
use Rattle.lf_mshr.specs.RegisterFile.{held_item}
use Rattle.lf_mshr.specs.Index.{are_in_rows}
use Rattle.lf_mshr.specs.Places.{held_of}
use Rattle.lf_mshr.proofs.Bounds.{IsWithin-push}
use Rattle.lf_mshr.proofs.Placed.{held-push}
use Rattle.lf_mshr.proofs.Rows.{row-free, rows-push}
use Rattle.lf_mshr.proofs.explicit.ExplicitFile.append.Goals as goal

pub push-requires-clause-free : goal.push-requires-clause-free
push-requires-clause-free g c =
    let file = c.args.self.now in
    let order = file.registers.places.order in
    rw (c.count.ensures, c.from-row.ensures) (row-free file.entries order
    (λ r. count_by (λ h. h.register == r) (held_of order)) file.within.few file.rows c.args.register
    c.requires.entry)

pub invariant_of-self : goal.invariant_of-self
invariant_of-self g c =
    let file = c.args.self.now in
    let order = file.registers.places.order in
    let item = held_item c.args.register c.args.block c.args.target in
    let place = c.from-row.result * file.entries + c.count.result in
    let is = ap (λ r. r * file.entries + c.count.result) c.from-row.ensures
    ∙ ap (λ n. c.args.register * file.entries + n) (c.count.ensures
    ∙ ap (λ r. count_by (λ h. h.register == r) (held_of order)) c.from-row.ensures) in
    let same : held_of c.push.new.self.places.order ≡ held_of order ++ item ∷ [] =
    ap held_of c.push.ensures.order ∙ held-push order (place, item) in
    record {
      all = c.push.ensures.places ∙ file.all ∙ ap (λ n. n * file.entries) (sym c.push.ensures.registers);
      within = rw (c.push.ensures.registers, same) (IsWithin-push file.within item c.requires.exists c.requires.entry);
      rows = ap (are_in_rows file.entries) c.push.ensures.order
          ∙ rows-push file.entries order (place, item) file.rows is;
      some_entry = file.some_entry;
      limit = subst (λ n. n * file.entries ≤ 4096) (sym c.push.ensures.registers) file.limit;
    }
