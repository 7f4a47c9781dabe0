-- Logs that wait in a row, and in a round.
use Rattle.std.proofs.Common.{◌≡◌, ◌≢◌, ℕ, zero, suc, ◌+◌, ◌-◌, ◌<◌, ◌≤◌, List, [], ◌∷◌, ◌++◌, length, take, drop}
use Rattle.std.proofs.Common.{slice_index, eqb, eqb-true, inl, inr, refl, sym, ap, ◌∙◌, subst, arith}
use Rattle.std.specs.List.{AllPairs, All}
use Rattle.std.specs.Bool.{Decides}
use Rattle.std.proofs.lemmas.List.Quantifiers.{all_pairs_push}
use Rattle.std.proofs.lemmas.List.Elements.{All-push}
use Rattle.std.proofs.lemmas.List.Folds.{Any-from_list_any}
use Rattle.std.proofs.lemmas.Map.Made.{IsDistinct-from_AllPairs}
use Rattle.std.proofs.lemmas.Map.Steps.{length-le_from_distinct_below}
use Rattle.std.proofs.lemmas.Bool.Decides.{Decides-eqb}
use Rattle.std.proofs.lemmas.Bool.{cases_lt}
use Rattle.std.proofs.lemmas.List.{get_or-drop, get_or-take, get_or_append_left, get_or-append_right, length-drop}
use Rattle.std.proofs.lemmas.List.{length-append, length-take-le, length_push, get_or_default}
use Rattle.lf_join.specs.Join.{Leads}
use Rattle.lf_join.specs.Heads.{first_or, Chain, IsPath, IsRound}

first_split : (n : ℕ) (xs : List ℕ) (last : ℕ) → first_or (take n xs) (first_or (drop n xs) last) ≡ first_or xs last
first_split zero xs last = refl
first_split (suc n) [] last = refl
first_split (suc n) (x ∷ xs) last = refl

first_join : (xs ys : List ℕ) (last : ℕ) → first_or (xs ++ ys) last ≡ first_or xs (first_or ys last)
first_join [] ys last = refl
first_join (x ∷ xs) ys last = refl

first_is : (xs : List ℕ) (last : ℕ) → 0 < length xs → first_or xs last ≡ slice_index xs 0
first_is [] last some_log = absurd (omega arith)
first_is (x ∷ xs) last some_log = refl

add_none : (n : ℕ) → n + 0 ≡ n
add_none n = omega arith

strictly : (a b : ℕ) → a ≤ b → a ≢ b → a < b
strictly a b le apart = elim (cases_lt a b) [ inl lt ↦ lt | inr ge ↦ absurd (apart (omega arith)) ]

module _ (waits : ℕ → ℕ → Type 0) where
  pub chain_push : (xs : List ℕ) (log next : ℕ) → Chain waits xs log → waits log next →
      Chain waits (xs ++ log ∷ []) next
  chain_push [] log next chain step = (step, tt)
  chain_push (x ∷ []) log next chain step = (chain.0, (step, tt))
  chain_push (x ∷ y ∷ xs) log next chain step = (chain.0, chain_push (y ∷ xs) log next chain.1 step)

  chain_drop : (n : ℕ) (xs : List ℕ) (last : ℕ) → Chain waits xs last → Chain waits (drop n xs) last
  chain_drop zero xs last chain = chain
  chain_drop (suc n) [] last chain = chain
  chain_drop (suc n) (x ∷ xs) last chain = chain_drop n xs last chain.1

  chain_take : (n : ℕ) (xs : List ℕ) (last : ℕ) → Chain waits xs last →
      Chain waits (take n xs) (first_or (drop n xs) last)
  chain_take zero xs last chain = tt
  chain_take (suc n) [] last chain = tt
  chain_take (suc n) (x ∷ xs) last chain = (
    subst (λ m. waits x m) (sym (first_split n xs last)) chain.0,
    chain_take n
        xs last chain.1,
  )

  chain_join : (xs ys : List ℕ) (last : ℕ) → Chain waits xs (first_or ys last) → Chain waits ys last →
      Chain waits (xs ++ ys) last
  chain_join [] ys last left right = right
  chain_join (x ∷ xs) ys last left right = (
    subst (λ m. waits x m) (sym (first_join xs ys last)) left.0,
    chain_join xs
        ys last left.1 right,
  )

  -- each log of a chain waits
  pub chain_at : (xs : List ℕ) (last j : ℕ) → Chain waits xs last → j < length xs →
      waits (slice_index xs j) (slice_index (xs ++ last ∷ []) (suc j))
  chain_at [] last j chain lt = absurd (omega arith)
  chain_at (x ∷ []) last zero chain lt = chain.0
  chain_at (x ∷ y ∷ xs) last zero chain lt = chain.0
  chain_at (x ∷ xs) last (suc j) chain lt = chain_at xs last j chain.1 (omega arith)

  leads : (xs : List ℕ) (last j : ℕ) → Chain waits xs last → j < length xs → (path : List ℕ) ×
      Leads waits (first_or xs last) path (slice_index xs j)
  leads [] last j chain lt = absurd (omega arith)
  leads (x ∷ xs) last zero chain lt = ([], refl)
  leads (x ∷ xs) last (suc j) chain lt = let rest = leads xs last j chain.1 (omega arith) in
      (first_or xs last ∷ rest.0, (chain.0, rest.1))

  -- one more log on a path
  pub path_more : (start : ℕ) (path : List ℕ) (log next : ℕ) → IsPath waits start path log → waits log next →
      ((k : ℕ) → k < length path → slice_index path k ≢ log)
      → IsPath waits start (path ++ log ∷ []) next
  path_more start path log next is step new = record {
    starts = first_join path (log ∷ []) next ∙ is.starts;
    chain = chain_push path log next is.chain step;
    apart = all_pairs_push (λ a b. a ≢ b) path log is.apart
        (λ k d lt. subst (λ a. a ≢ log) (get_or_default path k 0 d lt) (new k lt));
  }

  -- The round of a path, from its lowest log on.
  module _ (start : ℕ) (path : List ℕ) (again lowest : ℕ) (is : IsPath waits start path (slice_index path again))
      (within : again < length path) (place : lowest < length (drop again path))
      (is_lowest : (k : ℕ) → k < length (drop again path) →
      slice_index (drop again path) lowest ≤ slice_index (drop again path) k) where
    abbrev round : List ℕ
    round = drop again path

    abbrev turned : List ℕ
    turned = drop lowest round ++ take lowest round

    head_turned : slice_index turned 0 ≡ slice_index round lowest
    head_turned =
        get_or_append_left (drop lowest round) (take lowest round) 0 0
        (omega (arith, length-drop lowest round, place)) ∙ get_or-drop lowest round 0 0
        ∙ ap (λ n. slice_index round n) (add_none lowest)

    logs_apart : (i j : ℕ) → i < length round → j < length round → i ≢ j → slice_index round i ≢ slice_index round j
    logs_apart i j lt lt' apart same =
        let at_i : slice_index round i ≡ slice_index path (again + i) = get_or-drop again path i 0 in
        let at_j : slice_index round j ≡ slice_index path (again + j) = get_or-drop again path j 0 in
        let len = length-drop again path in
        elim (cases_lt i j) [
          | inl below ↦ is.apart (again + i) (again + j) 0 (omega arith) (omega (arith, len, lt'))
              (sym at_i ∙ same ∙ at_j)
          | inr above ↦ is.apart (again + j) (again + i) 0 (omega arith) (omega (arith, len, lt))
              (sym at_j ∙ sym same ∙ at_i)
        ]

    turned_at : (j : ℕ) → j < length turned → (k : ℕ) × (k < length round) ×
        (slice_index turned j ≡ slice_index round k) × (0 < j → k ≢ lowest)
    turned_at j lt =
        let first = length-drop lowest round in
        let rest = length-take-le lowest round (omega (arith, place)) in
        let whole = length-append (drop lowest round) (take lowest round) in
        elim (cases_lt j (length (drop lowest round))) [
          | inl left ↦ (
            lowest + j,
            omega (arith, first, left),
            get_or_append_left (drop lowest round)
                (take lowest round) 0 j left ∙ get_or-drop lowest round j 0,
            λ pos. omega (arith, pos),
          )
          | inr right ↦
              let k = j - length (drop lowest round) in
              let below : k < lowest = omega (arith, first, rest, whole, lt, right) in (
                k,
                omega (arith, below, place),
                get_or-append_right (drop lowest round) (take lowest round) (length (drop lowest round)) j 0 refl right
                    ∙ get_or-take lowest round k 0 below,
                λ pos. omega (arith, below),
              )
        ]

    round_chain : Chain waits round (slice_index path again)
    round_chain = chain_drop again path (slice_index path again) is.chain

    turned_chain : Chain waits turned (first_or (drop lowest round) (slice_index path again))
    turned_chain =
        let last = slice_index path again in
        let head : first_or round last ≡ last = first_is round last (omega (arith, place))
        ∙ get_or-drop again path 0 0 ∙ ap (λ n. slice_index path n) (add_none again) in
        chain_join (drop lowest round) (take lowest round) (first_or (drop lowest round) last)
        (subst (λ m. Chain waits (drop lowest round) m) (sym (first_split lowest round last ∙ head))
        (chain_drop lowest round last round_chain))
        (chain_take lowest round last round_chain)

    pub round_of : IsRound waits start (drop lowest (drop again path) ++ take lowest (drop again path))
    round_of =
        let last = slice_index path again in
        let first_len = length-drop lowest round in
        let whole = length-append (drop lowest round) (take lowest round) in
        let pos : 0 < length (drop lowest round) = omega (arith, first_len, place) in
        let head : first_or (drop lowest round) last ≡ slice_index turned 0 =
        first_is (drop lowest round) last pos ∙ sym (get_or_append_left (drop lowest round) (take lowest round) 0
        0 pos) in
        let led = leads path last (again + lowest) is.chain (omega (arith, length-drop again path, place)) in
        let there : slice_index path (again + lowest) ≡ slice_index turned 0 =
        sym (get_or-drop again path lowest 0) ∙ sym head_turned in
        record {
          some_log = omega (arith, pos, whole);
          chain = subst (λ m. Chain waits turned m) head turned_chain;
          lowest = λ j positive lt.
              let at = turned_at j lt in
              let low = is_lowest at.0 at.1 in
              let other = logs_apart lowest at.0 place at.1 (λ e. at.3 positive (sym e)) in
              subst (λ n. slice_index turned 0 < n) (sym at.2)
              (subst (λ n. n < slice_index round at.0) (sym head_turned)
              (strictly (slice_index round lowest) (slice_index round at.0) low other));
          path = led.0;
          led = subst (λ m. Leads waits start led.0 m) there
              (subst (λ m. Leads waits m led.0 (slice_index path (again + lowest))) is.starts led.1);
        }

numbers_same : (a b : ℕ) → Decides (eqb a b) (a ≡ b)
numbers_same a b = Decides-eqb a b

-- Distinct logs below a number are no more than that number.
pub room_left : (path : List ℕ) (log n : ℕ) → AllPairs (λ a b. a ≢ b) path → All (λ a. a < n) path →
    ((k : ℕ) → k < length path → slice_index path k ≢ log) → log < n → length path < n
room_left path log n apart below new lt =
    let longer = path ++ log ∷ [] in
    let all_apart : AllPairs (λ a b. a ≢ b) longer = all_pairs_push (λ a b. a ≢ b) path log apart
    (λ k d within. subst (λ a. a ≢ log) (get_or_default path k 0 d within) (new k within)) in
    let all_below : All (λ a. a < n) longer = All-push (λ a. a < n) path log below lt in
    let small = length-le_from_distinct_below longer n (IsDistinct-from_AllPairs {eq = eqb} numbers_same longer
    all_apart)
    (λ q any. let found = Any-from_list_any (eqb q) longer any in
    subst (λ a. a < n) (sym (eqb-true q found.1 found.4)) (subst (λ a. a < n) found.3
    (all_below found.0 found.1 found.2))) in
    omega (arith, small, length_push path log)
