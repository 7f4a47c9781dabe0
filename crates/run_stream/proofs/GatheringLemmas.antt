-- One more read after a part of the stream.
use Rattle.std.proofs.Common.{◌≡◌, ◌≢◌, ℕ, ◌<◌, ◌≤◌, List, [], ◌∷◌, ◌++◌, sym, ap, ◌∙◌, subst, refl, arith}
use Rattle.std.proofs.Common.{append_assoc, append-nil, length, take}
use Rattle.std.specs.List.{concat}
use Rattle.std.proofs.lemmas.List.{length-take}
use Rattle.std.proofs.lemmas.List.Folds.{concat-append}
use Rattle.std.proofs.lemmas.List.Elements.{All-nil, All-push}
use Rattle.std.specs.Io.KnownBytes.{Consumes, Keeps, IsAtEnd}
use Rattle.std.proofs.KnownBytes.{Consumes-nil, Consumes-trans, Consumes-kept}
use Rattle.run_stream.specs.Account.{Account}
use Rattle.run_stream.specs.Gathered.{IsPartRead, IsAllRead, GoesOn, GoesOnToLast}

module _ (Enough : List ℕ → Type 0) where
  -- Nothing was read yet.
  pub begun : (a : Account) → ¬ Enough [] → IsPartRead Enough a a []
  begun a wanted = record {
    pieces = [];
    answered = sym (append-nil a.pieces);
    joined = refl;
    given = Consumes-nil a.known;
    wanted = wanted;
  }

  module _ (a b c : Account) (bytes : List ℕ) (part : IsPartRead Enough a b bytes) where
    -- A read that failed changed nothing of what was answered.
    pub same_part : c.pieces ≡ b.pieces → Keeps b.known c.known → IsPartRead Enough a c bytes
    same_part pieces known = record {
      pieces = part.pieces;
      answered = pieces ∙ part.answered;
      joined = part.joined;
      given = Consumes-kept _ _ _ bytes part.given known;
      wanted = part.wanted;
    }

    module _
        (piece : List ℕ) (pieces : c.pieces ≡ b.pieces ++ piece ∷ []) (known : Consumes b.known c.known piece) where
      answered_more : c.pieces ≡ a.pieces ++ (part.pieces ++ piece ∷ [])
      answered_more =
          pieces ∙ ap (λ (ps : List (List ℕ)). ps ++ piece ∷ []) part.answered
          ∙ append_assoc a.pieces part.pieces (piece ∷ [])

      given_more : Consumes a.known c.known (bytes ++ piece)
      given_more = Consumes-trans _ _ _ bytes piece part.given known

      -- A read answered a piece.
      pub more_part : ¬ Enough (bytes ++ piece) → IsPartRead Enough a c (bytes ++ piece)
      more_part wanted = record {
        pieces = part.pieces ++ piece ∷ [];
        answered = answered_more;
        joined =
            ap (λ (l : List ℕ). l ++ piece) part.joined
            ∙ ap (λ (l : List ℕ). concat part.pieces ++ l) (sym (append-nil piece))
            ∙ sym (concat-append part.pieces (piece ∷ []));
        given = given_more;
        wanted = wanted;
      }

      -- A read answered the last piece.
      pub last_part : (most : ℕ) → length piece ≤ most → (¬ Enough (bytes ++ piece) → piece ≡ [])
          → (¬ Enough (bytes ++ piece) → IsAtEnd c.known) → IsAllRead Enough most a c (bytes ++ piece)
      last_part most one_read ended at_end = record {
        before = part.pieces;
        last = piece;
        answered = answered_more;
        joined = ap (λ (l : List ℕ). l ++ piece) part.joined;
        one_read = one_read;
        wanted = λ h. part.wanted (subst Enough (sym part.joined) h);
        ended = ended;
        given = given_more;
        at_end = at_end;
      }

-- ---- reads that answer some bytes

pub goes_from : (pieces : List (List ℕ)) → GoesOn pieces pieces
goes_from pieces = ([], sym (append-nil pieces), All-nil (λ piece. piece ≢ []))

module _ (a b c : List (List ℕ)) (on : GoesOn a b) where
  pub goes_same : c ≡ b → GoesOn a c
  goes_same same = (on.0, same ∙ on.1, on.2)

  module _ (piece : List ℕ) (pieces : c ≡ b ++ piece ∷ []) where
    pub goes_more : piece ≢ [] → GoesOn a c
    goes_more some = (
      on.0 ++ piece ∷ [],
      pieces ∙ ap (λ (ps : List (List ℕ)). ps ++ piece ∷ []) on.1 ∙ append_assoc a on.0 (piece ∷ []),
      All-push (λ piece. piece ≢ []) on.0 piece on.2 some,
    )

    pub goes_to_last : GoesOnToLast a c
    goes_to_last = (b, piece, on, pieces)

-- A read into a buffer answered some bytes.
pub some_read : (n : ℕ) (buffer : List ℕ) → 0 < n → n ≤ length buffer → take n buffer ≢ []
some_read n buffer some within none =
    let len : length (take n buffer) ≡ 0 = ap length none in
    absurd (omega (arith, len, some, within, length-take n buffer))
