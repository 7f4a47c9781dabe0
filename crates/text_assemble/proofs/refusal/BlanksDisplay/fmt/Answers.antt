use Rattle.std.proofs.Common.{◌≡◌, ◌∙◌, ℕ, zero, suc, ◌<◌, List, [], ◌∷◌, ◌++◌, length, take, refl, sym, ap, add-one}
use Rattle.std.proofs.Common.{arith, true, codes}
use Rattle.std.proofs.lemmas.Grind.{put_two}
use Rattle.std.specs.List.{flat_map}
use Rattle.text_assemble.specs.Refusal.{blank}
use Rattle.text_assemble.proofs.refusal.BlanksDisplay.fmt.Goals as goal

one_more : (i : ℕ) (bytes : List ℕ) → i < length bytes → flat_map blank (take i bytes) ++ codes " "
    ≡ flat_map blank (take (suc i) bytes)
one_more i [] below = absurd (omega arith)
one_more zero (b ∷ bytes) below = refl
one_more (suc i) (b ∷ bytes) below = ap (λ (text : List ℕ). 32 ∷ text) (one_more i bytes (omega arith))

pub loop-byte-preserved : goal.loop-byte-preserved
loop-byte-preserved g c plain =
    let so_far = c.loop-byte.invariant plain in
    let i = c.loop-byte._byte-index in
    let bytes = c.args.self.now.0.now in
    put_two g.W.Write.write_str_gives c.args.f.now c.loop-byte.f c.write.new.self (flat_map blank (take i bytes))
    (codes " ") _ so_far
    (c.in_ok-write.ensures.writes so_far.plain (refl {a = true}))
    (one_more i bytes c.loop-byte-test.true ∙ ap (λ (n : ℕ). flat_map blank (take n bytes)) (sym (add-one i)))
