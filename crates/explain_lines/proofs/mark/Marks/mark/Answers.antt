use Rattle.std.proofs.Common.{◌≡◌, ℕ, List, Option, Some, None, length, refl, sym, ap, ◌∙◌, slice_get, unwrap_or}
use Rattle.std.specs.Option.{option_map}
use Rattle.std.proofs.lemmas.Option.{slice_get_past, slice_get_read}
use Rattle.explain_lines.specs.Marks.{texts}
use Rattle.explain_lines.proofs.Placed.{beside_at, with_offset}
use Rattle.explain_lines.proofs.mark.Marks.mark.Goals as goal

pub returns-in_err-offset : goal.returns-in_err-offset
returns-in_err-offset c =
    let offsets = c.args.self.now.offsets.items in
    let place = c.args.place in
    let time = unwrap_or (slice_get (texts c.args.self.now) place) None in
    let past = c.in_err-offset.ensures.lookup.3 in
    let none : slice_get offsets place ≡ None =
    ap (λ (xs : List ℕ). slice_get xs place) (sym c.deref.ensures.value)
    ∙ slice_get_past c.deref.result.now place past in
    ap (option_map _) c.from_residual.ensures
    ∙ sym (beside_at offsets (texts c.args.self.now) place ∙ ap (option_map (with_offset time)) none)

pub returns : goal.returns
returns c =
    let offsets = c.args.self.now.offsets.items in
    let place = c.args.place in
    let offset = c.in_ok-offset.field-0.now in
    let time = unwrap_or (slice_get (texts c.args.self.now) place) None in
    let found = c.in_ok-offset.ensures.lookup.3 in
    let here : slice_get offsets place ≡ Some offset =
    ap (λ (xs : List ℕ). slice_get xs place) (sym c.deref.ensures.value)
    ∙ slice_get_read c.deref.result.now (length c.deref.result.now) place offset refl found.0 (found.1 offset) in
    ap (λ (t : Option (List ℕ)). Some (with_offset t offset)) c.time.ensures
    ∙ sym (beside_at offsets (texts c.args.self.now) place ∙ ap (option_map (with_offset time)) here)
