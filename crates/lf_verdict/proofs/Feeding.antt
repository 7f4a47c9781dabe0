-- A piece that is fed a record at a time.
use Rattle.std.proofs.Common.{◌≡◌, ℕ, ◌+◌, ◌-◌, ◌≤◌, List, [], ◌++◌, length, take, drop, Option, Some, None, Ok}
use Rattle.std.proofs.Common.{refl, sym, ap, subst, ◌∙◌, arith, append_assoc}
use Rattle.std.proofs.Math.Seq.{take-add}
use Rattle.std.proofs.lemmas.List.{append-nil, length-drop, take-append-drop, take_all}
use Rattle.lf_verdict.specs.declared.session.intake.Intake.{Intake}
use Rattle.lf_verdict.specs.declared.stop.Stop.{Stop}
use Rattle.lf_verdict.specs.Session.{stop_told}
use Rattle.lf_verdict.specs.inner.Fed.{HasFed}

-- what of the piece is still to be fed
abbrev pub rest_of : List ℕ → ℕ → List ℕ
rest_of piece at = take (length piece - at) (drop at piece)

pub rest_is : (piece : List ℕ) (at : ℕ) → rest_of piece at ≡ drop at piece
rest_is piece at = take_all (length piece - at) (drop at piece) (omega (arith, length-drop at piece))

pub rest_len : (piece : List ℕ) (at : ℕ) → length (rest_of piece at) ≡ length piece - at
rest_len piece at = ap length (rest_is piece at) ∙ length-drop at piece

-- nothing has stopped it where nothing was told
pub told_going : (old now : Option Stop) → old ≡ None → stop_told old now ≡ Ok tt → now ≡ None
told_going old None going is = refl
told_going old (Some stop) going is = let none : stop_told None (Some stop) ≡ Ok tt = rw going at is in absurd (cc)

pub fed_nothing : (s : Intake) (bytes : List ℕ) → HasFed s bytes → HasFed s (bytes ++ [])
fed_nothing s bytes fed = subst (HasFed s) (sym (append-nil bytes)) fed

-- some bytes of the piece, and some of those behind them
pub more_bytes : (bytes piece : List ℕ) (at n : ℕ) →
    (bytes ++ take at piece) ++ take n (rest_of piece at) ≡ bytes ++ take (at + n) piece
more_bytes bytes piece at n =
    let more : take at piece ++ take n (rest_of piece at) ≡ take (at + n) piece =
    ap (λ (xs : List ℕ). take at piece ++ take n xs) (rest_is piece at) ∙ sym (take-add at n piece) in
    append_assoc bytes (take at piece) (take n (rest_of piece at)) ∙ ap (λ (xs : List ℕ). bytes ++ xs) more

pub fed_more : (s : Intake) (bytes piece : List ℕ) (at n : ℕ) →
    HasFed s ((bytes ++ take at piece) ++ take n (rest_of piece at)) → HasFed s (bytes ++ take (at + n) piece)
fed_more s bytes piece at n fed = subst (HasFed s) (more_bytes bytes piece at n) fed

pub fed_rest : (s : Intake) (bytes piece : List ℕ) (at : ℕ) →
    HasFed s ((bytes ++ take at piece) ++ rest_of piece at) → HasFed s (bytes ++ piece)
fed_rest s bytes piece at fed =
    let whole : take at piece ++ rest_of piece at ≡ piece =
    ap (λ (xs : List ℕ). take at piece ++ xs) (rest_is piece at) ∙ take-append-drop at piece in
    subst (HasFed s) (append_assoc bytes (take at piece) (rest_of piece at) ∙ ap (λ (xs : List ℕ). bytes ++ xs) whole)
    fed

pub fed_all : (s : Intake) (bytes piece : List ℕ) (at : ℕ) → length piece ≤ at → HasFed s (bytes ++ take at piece) →
    HasFed s (bytes ++ piece)
fed_all s bytes piece at past fed = subst (λ (xs : List ℕ). HasFed s (bytes ++ xs)) (take_all at piece past) fed
