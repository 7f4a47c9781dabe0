-- One named block more.
use Rattle.std.proofs.Common.{◌≡◌, ℕ, ◌*◌, List, [], ◌∷◌, ◌++◌, map, sym, ap, ◌∙◌, subst}
use mathlib.Core.Path.{ap₂}
use Rattle.std.specs.List.{AllByRecursion}
use Rattle.std.proofs.lemmas.List.{map-append}
use Rattle.lf_rules.specs.declared.shape.Shape.{Shape}
use Rattle.lf_rules.specs.State.{Local}
use Rattle.lf_replay.specs.Looks.{IsBlockState}
use Rattle.explain_replay.specs.declared.named.NamedBlock.{NamedBlock}
use Rattle.explain_replay.specs.Named.{IsNamed, AreNamed}
use Rattle.explain_replay.proofs.Listed.{all_append}

pub named_more : (shape : Shape) (now : Local) (all new : List NamedBlock) (blocks : List ℕ) (named : NamedBlock)
    (block : ℕ) → AreNamed all blocks shape now
    → named.block ≡ block → named.address ≡ block * shape.block → IsBlockState named.state block shape now →
    new ≡ all ++ named ∷ []
    → AreNamed new (blocks ++ block ∷ []) shape now
named_more shape now all new blocks named block are is address state pushed = record {
  numbers = ap (map (λ (n : NamedBlock). n.block)) pushed ∙ map-append (λ (n : NamedBlock). n.block) all (named ∷ [])
      ∙ ap₂ (λ (xs : List ℕ) k. xs ++ k ∷ []) are.numbers is;
  each = subst (AllByRecursion (IsNamed shape now)) (sym pushed)
      (all_append (IsNamed shape now) all (named ∷ []) are.each (
        record {
          address = address ∙ ap (λ k. k * shape.block) (sym is);
          state = subst (λ k. IsBlockState named.state k shape now) (sym is) state;
        },
        tt,
      ));
}
