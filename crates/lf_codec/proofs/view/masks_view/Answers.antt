use Rattle.std.proofs.Common.{◌≡◌, ◌-◌, ℕ, length, take, drop, sym, ap, ◌∙◌, arith}
use Rattle.std.proofs.lemmas.List.{length-drop}
use Rattle.std.proofs.Math.Seq.{take-length}
use Rattle.lf_codec.proofs.Lending.{all_masks}
use Rattle.lf_codec.proofs.view.masks_view.Goals as goal

pub returns : goal.returns
returns c =
    let xs = c.args.fixed.now in
    let rest : take (length xs - 4) (drop 4 xs) ≡ drop 4 xs =
    ap (λ (n : ℕ). take n (drop 4 xs)) (sym (length-drop 4 xs)) ∙ take-length (drop 4 xs) in
    rw rest (all_masks c.args._header.now.factor (drop 4 xs) (omega (arith, length-drop 4 xs, c.requires)))
