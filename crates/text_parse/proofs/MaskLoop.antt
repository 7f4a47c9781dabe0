-- Masks that are read one after another, as a loop does.
use Rattle.std.proofs.Common.{◌≡◌, ℕ, suc, ◌-◌, ◌+◌, ◌≤◌, ◌<◌, true, false, List, [], ◌∷◌, ◌++◌, Result, Ok, Err}
use Rattle.std.proofs.Common.{refl, sym, ap, ◌∙◌, append_assoc, arith}
use Rattle.std.proofs.lemmas.List.{append-nil}
use Rattle.lf_rules.specs.declared.mask.Mask.{Mask}
use Rattle.text_parse.specs.declared.fault.Lack.{Lack}
use Rattle.text_parse.specs.declared.fault.Name.TheVariants as names
use Rattle.text_parse.specs.Words.{◌>>=◌}
use Rattle.text_parse.specs.Fields.{is_field, hexadecimal_at, masks_at}

-- what was read before, and what is still read
abbrev pub with_front : List Mask → Result (List Mask × List ℕ) Lack → Result (List Mask × List ℕ) Lack
with_front front read = read >>= λ x. Ok (front ++ x.0, x.1)

regroup : (front : List Mask) (m : Mask) (read : Result (List Mask × List ℕ) Lack)
    → with_front front (read >>= λ x. Ok (m ∷ x.0, x.1)) ≡ with_front (front ++ m ∷ []) read
regroup front m (Ok x) = ap (λ (ms : List Mask). Ok (ms, x.1)) (simp append_assoc)
regroup front m (Err lack) = refl

pub goes_on : (front : List Mask) (count i : ℕ) (text : List ℕ) (bits : ℕ) (after : List ℕ)
    (total : Result (List Mask × List ℕ) Lack)
    → i < count → is_field names.Mask text ≡ true → hexadecimal_at names.Mask text ≡ Ok (bits, after)
    → with_front front (masks_at (count - i) text) ≡ total
    → with_front (front ++ (record { 0 = bits }) ∷ []) (masks_at (count - (i + 1)) after) ≡ total
unfolding masks_at
goes_on front count i text bits after total lt here h so_far =
    let k : count - i ≡ suc (count - (i + 1)) = omega arith in
    let one : with_front front (masks_at (count - i) text) ≡ with_front (front ++ (record { 0 = bits }) ∷ [])
    (masks_at (count - (i + 1)) after) =
    rw (k, here, h) (regroup front (record { 0 = bits }) (masks_at (count - (i + 1)) after)) in
    sym one ∙ so_far

pub fails : (lack : Lack) (front : List Mask) (count i : ℕ) (text : List ℕ) (total : Result (List Mask × List ℕ) Lack)
    → i < count → is_field names.Mask text ≡ true → hexadecimal_at names.Mask text ≡ Err lack
    → with_front front (masks_at (count - i) text) ≡ total → total ≡ Err lack
unfolding masks_at
fails lack front count i text total lt here h so_far =
    let k : count - i ≡ suc (count - (i + 1)) = omega arith in
    let one : with_front front (masks_at (count - i) text) ≡ Err lack = rw (k, here, h) refl in
    sym so_far ∙ one

pub stops : (front : List Mask) (count i : ℕ) (text : List ℕ) (total : Result (List Mask × List ℕ) Lack)
    → i < count → is_field names.Mask text ≡ false → with_front front (masks_at (count - i) text) ≡ total →
    total ≡ Ok (front, text)
unfolding masks_at
stops front count i text total lt here so_far =
    let k : count - i ≡ suc (count - (i + 1)) = omega arith in
    let one : with_front front (masks_at (count - i) text) ≡ Ok (front, text) =
    rw (k, here) (ap (λ (ms : List Mask). Ok (ms, text)) (append-nil front)) in
    sym so_far ∙ one

pub is_done : (front : List Mask) (count i : ℕ) (text : List ℕ) (total : Result (List Mask × List ℕ) Lack)
    → count ≤ i → with_front front (masks_at (count - i) text) ≡ total → total ≡ Ok (front, text)
unfolding masks_at
is_done front count i text total le so_far =
    let k : count - i ≡ 0 = omega arith in
    let one : with_front front (masks_at (count - i) text) ≡ Ok (front, text) =
    rw k (ap (λ (ms : List Mask). Ok (ms, text)) (append-nil front)) in
    sym so_far ∙ one
