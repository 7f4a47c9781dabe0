use Rattle.std.proofs.Common.{◌≡◌, ℕ, List, ◌+◌, ◌-◌, ◌*◌, ◌/◌, length, drop, take, ap, sym, ◌∙◌, arith}
use Rattle.std.specs.Int.{from_le_bytes, w64}
use Rattle.lf_rules.specs.declared.mask.Mask.{Mask}
use Rattle.trace_views.proofs.Spelled.{front_word, spelled_at, spelled_past}
use Rattle.trace_views.proofs.masks_view.spelled_mask.Goals as goal

pub returns-then-place-bytes : goal.returns-then-place-bytes
returns-then-place-bytes c =
    sym (spelled_past (length c.args.bytes.now / 8) c.args.place c.args.bytes.now (omega arith))

pub returns : goal.returns
returns c =
    let own : List ℕ = drop (8 * c.args.place) c.args.bytes.now in
    let eight : 8 * c.args.place + 8 - 8 * c.args.place ≡ 8 = omega arith in
    let copied : c.copy_from_slice.new.self ≡ take 8 own =
    c.copy_from_slice.ensures.after ∙ ap (λ (n : ℕ). take n own) eight in
    let word : c.from_le_bytes.result ≡ from_le_bytes w64 own =
    c.from_le_bytes.ensures ∙ ap (from_le_bytes w64) copied ∙ front_word own in
    ap (λ (n : ℕ). let mask : Mask = record { 0 = n } in mask) word
    ∙ sym (spelled_at (length c.args.bytes.now / 8) c.args.place c.args.bytes.now (omega arith))
