-- The first unknown name of a table, by its keys in their order.
use Rattle.std.proofs.Common.{◌≡◌, ℕ, nat_cmp, List, [], ◌∷◌, Option, Some, None, Bool, false, not, if◌then◌else◌}
use Rattle.std.proofs.Common.{String, Global, string_bytes, map, refl, ap, sym, ◌∙◌, Less}
use Rattle.std.specs.List.{filter, AllByRecursion}
use Rattle.std.specs.List.Sorted.{IsStrictlySortedBy}
use Rattle.std.specs.Map.{keys_of}
use Rattle.std.specs.Option.{IfSome}
use Rattle.std.specs.Ordering.{is_lt, ordering_reverse}
use Rattle.std.specs.Cmp.Lexicographic.{slice_cmp}
use Rattle.std.specs.String.{string_cmp}
use Rattle.std.proofs.Math.Logic.{⊎_elim}
use Rattle.std.proofs.lemmas.Bool.{cases_Bool}
use Rattle.std.proofs.lemmas.Cmp.{nat_list_cmp_total}
use Rattle.std.proofs.lemmas.Map.Keys.{sorted_head, sorted_tail}
use Rattle.toml.proofs.Views.{Entry}
use Rattle.toml.specs.View.{members_view}
use Rattle.lf_config.specs.Unknown.{names_of, earlier, earliest, first_other}

-- the first name in the order of the keys that is not known
abbrev pub first_name : (List ℕ → Bool) → List (String Global) → Option (List ℕ)
first_name known [] = None
first_name known (key ∷ keys) = if known (string_bytes key) then first_name known keys else Some (string_bytes key)

-- ---- the earliest of names that come after one

abbrev IsAfter : List ℕ → List ℕ → Type 0
IsAfter name other = slice_cmp nat_cmp name other ≡ Less

abbrev AllAfter : List ℕ → List (List ℕ) → Type 0
AllAfter name others = AllByRecursion (IsAfter name) others

earliest_after : (name : List ℕ) (others : List (List ℕ)) → AllAfter name others →
    IfSome (earliest others) (IsAfter name)
earliest_after name [] after = tt
earliest_after name (x ∷ others) after = pick (earliest others) (earliest_after name others after.1)
  where
    pick : (o : Option (List ℕ)) → IfSome o (IsAfter name) → IsAfter name (earlier x o)
    pick None h = after.0
    pick (Some other) h = ⊎_elim
        (λ first. let P : Bool → Type 0 = λ b. IsAfter name (if b then other else x) in rw first h)
        (λ later. rw later after.0)
        (cases_Bool (is_lt (slice_cmp nat_cmp other x)))

earliest_head : (name : List ℕ) (others : List (List ℕ)) → AllAfter name others → earliest (name ∷ others) ≡ Some name
earliest_head name others after = ap Some (stays (earliest others) (earliest_after name others after))
  where
    stays : (o : Option (List ℕ)) → IfSome o (IsAfter name) → earlier name o ≡ name
    stays None h = refl
    stays (Some other) h =
        let back : is_lt (slice_cmp nat_cmp other name) ≡ false =
        ap is_lt (nat_list_cmp_total.antisymm other name ∙ ap ordering_reverse h) in
        rw back refl

-- ---- the keys of a table

abbrev bytes_of : List (String Global) → List (List ℕ)
bytes_of keys = map string_bytes keys

after_filtered : (known : List ℕ → Bool) (name : String Global) (keys : List (String Global)) →
    AllByRecursion (λ y. string_cmp name y ≡ Less) keys
    → AllAfter (string_bytes name) (filter (λ n. not (known n)) (bytes_of keys))
after_filtered known name [] after = tt
after_filtered known name (key ∷ keys) after = ⊎_elim
    (λ yes_known. rw yes_known (after_filtered known name keys after.1))
    (λ not_known. rw not_known (after.0, after_filtered known name keys after.1))
    (cases_Bool (known (string_bytes key)))

first_name-earliest : (known : List ℕ → Bool) (keys : List (String Global)) → IsStrictlySortedBy string_cmp keys
    → first_name known keys ≡ earliest (filter (λ n. not (known n)) (bytes_of keys))
first_name-earliest known [] sorted = refl
first_name-earliest known (key ∷ keys) sorted =
    let after = after_filtered known key keys (sorted_head string_cmp key keys sorted) in
    ⊎_elim
    (λ yes_known. rw yes_known (first_name-earliest known keys (sorted_tail string_cmp key keys sorted)))
    (λ not_known. rw not_known (sym (earliest_head (string_bytes key) (filter (λ n. not (known n)) (bytes_of keys))
    after)))
    (cases_Bool (known (string_bytes key)))

names_of_view : (entries : List Entry) → names_of (members_view entries) ≡ bytes_of (keys_of entries)
names_of_view [] = refl
names_of_view (e ∷ entries) = ap (λ names. string_bytes e.0 ∷ names) (names_of_view entries)

pub names_of_table : (known : List ℕ → Bool) (entries : List Entry) → IsStrictlySortedBy string_cmp (keys_of entries)
    → first_name known (keys_of entries) ≡ first_other known (members_view entries)
names_of_table known entries sorted =
    first_name-earliest known (keys_of entries) sorted ∙ ap (λ names. earliest (filter (λ n. not (known n)) names))
    (sym (names_of_view entries))
