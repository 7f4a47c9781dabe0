-- Laws of the bytes that a writer took.
use Rattle.std.proofs.Common.{◌≡◌, ℕ, ◌-◌, List, [], ◌∷◌, ◌++◌, sym, ap, ◌∙◌, subst}
use Rattle.std.proofs.Common.{append_assoc, append-nil, length, take, drop, take-append-drop}
use Rattle.std.proofs.lemmas.List.{take_rest}
use Rattle.std.proofs.lemmas.List.Folds.{concat-append}
use Rattle.std.proofs.Math.Seq.{take-append_seam}
use Rattle.std.proofs.KnownBytes.{Appends-nil, Appends-trans, Appends-kept}
use Rattle.std.specs.List.{concat}
use Rattle.std.specs.Io.KnownBytes.{Appends, Keeps}
use Rattle.run_stream.specs.Account.{Account, WentOut}

-- n more bytes went out
pub moves_front : (all done rest : List ℕ) (n : ℕ) → all ≡ done ++ rest
    → all ≡ (done ++ take n rest) ++ take (length rest - n) (drop n rest)
moves_front all done rest n e =
    e ∙ ap (λ l. done ++ l) (sym (take-append-drop n rest)) ∙ sym (append_assoc done (take n rest) (drop n rest))
    ∙ ap (λ l. (done ++ take n rest) ++ l) (sym (take_rest rest n))

-- Nothing went out yet.
pub nothing_out : (a : Account) → WentOut a a []
nothing_out a = record { taken = sym (append-nil (concat a.pieces)); known = Appends-nil a.known }

module _ (a b : Account) where
  -- What went out is the beginning of all.
  pub prefix_out : (all done rest : List ℕ) → all ≡ done ++ rest → WentOut a b done → (n : ℕ) × WentOut a b (take n all)
  prefix_out all done rest e out =
      (length done, subst (WentOut a b) (sym (ap (take (length done)) e ∙ take-append_seam done rest)) out)

  module _ (c : Account) (done : List ℕ) (out : WentOut a b done) where
    -- A write that failed took nothing.
    pub same_out : c.pieces ≡ b.pieces → Keeps b.known c.known → WentOut a c done
    same_out pieces known =
        record { taken = ap concat pieces ∙ out.taken; known = Appends-kept _ _ _ done out.known known }

    -- A write took a piece.
    pub more_out : (piece : List ℕ) → c.pieces ≡ b.pieces ++ piece ∷ [] → Appends b.known c.known piece
        → WentOut a c (done ++ piece)
    more_out piece pieces known = record {
      taken =
          ap concat pieces ∙ concat-append b.pieces (piece ∷ [])
          ∙ ap (λ (l : List ℕ). concat b.pieces ++ l) (append-nil piece)
          ∙ ap (λ (l : List ℕ). l ++ piece) out.taken ∙ append_assoc (concat a.pieces) done piece;
      known = Appends-trans _ _ _ done piece out.known known;
    }
