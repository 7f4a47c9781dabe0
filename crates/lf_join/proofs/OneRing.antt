-- The ring to which the waits lead is one.
use Rattle.std.proofs.Common.{◌≡◌, ◌≢◌, ℕ, zero, suc, ◌+◌, ◌-◌, ◌%◌, ◌<◌, ◌≤◌, ◌⊎◌, inl, inr, List, [], ◌∷◌, length}
use Rattle.std.proofs.Common.{Option, Some, refl, sym, ap, ◌∙◌, subst, ◌==◌, true, eq-eqb, arith}
use mathlib.Core.Path.{ap₂}
use Rattle.std.proofs.lemmas.Bool.{cases_eq, cases_lt, and_from}
use Rattle.std.proofs.lemmas.List.{ext_get_or}
use Rattle.std.proofs.Math.Nat.{mod-eq_of_lt, mod_self}
use Rattle.lf_rules.specs.declared.ring.Knot.{Knot}
use Rattle.lf_rules.specs.Order.{log_at, IsNotAbove}
use Rattle.lf_rules.specs.Ring.{entry_at, knot_at, no_knot}
use Rattle.lf_join.specs.Join.{next_number, NothingGoes, WaitsFor, Leads}
use Rattle.lf_join.specs.Heads.{is_next}
use Rattle.lf_join.specs.Laws.{LeastOrdersAreOne, StuckRingsAdmitNone, StuckRingsAreOne}
use Rattle.lf_join.proofs.Orders.{none_where_stuck, runs_from_order}
use Rattle.lf_join.proofs.Confluence.{AtMostOnce, of_its_bank, one_end, none_from, gone_runs, stuck_at, once_at_start}
use Rattle.lf_join.proofs.Confluence.{once_at_end, one_in_joined, two_apart}

-- ---- rounds of a relation

pub record Round (waits : ℕ → ℕ → Type 0) (n : ℕ) (log : ℕ → ℕ) : Type 0 where
  pub some_log : 0 < n
  pub step : (j : ℕ) → suc j < n → waits (log j) (log (suc j))
  pub close : (j : ℕ) → suc j ≡ n → waits (log j) (log 0)
  pub lowest : (j : ℕ) → 0 < j → j < n → log 0 < log j

module _ (waits : ℕ → ℕ → Type 0) (one : (log a b : ℕ) → waits log a → waits log b → a ≡ b) where
  -- of two ways from one log, one goes on to the end of the other
  goes_on : (log : ℕ) (path : List ℕ) (last : ℕ) (path' : List ℕ) (last' : ℕ) → Leads waits log path last →
      Leads waits log path' last'
      → ((q : List ℕ) × Leads waits last q last') ⊎ ((q : List ℕ) × Leads waits last' q last)
  goes_on log [] last path' last' led led' = inl (path', subst (λ k. Leads waits k path' last') led led')
  goes_on log (m ∷ path) last [] last' led led' = inr (m ∷ path, subst (λ k. Leads waits k (m ∷ path) last) led' led)
  goes_on log (m ∷ path) last (m' ∷ path') last' led led' =
      goes_on m path last path' last' led.1 (subst (λ k. Leads waits k path' last') (one log m' m led'.0 led.0) led'.1)

  -- the waits of a round stay in it
  stays : (n : ℕ) (log : ℕ → ℕ) → Round waits n log → (i : ℕ) (q : List ℕ) (last : ℕ) → i < n →
      Leads waits (log i) q last → (j : ℕ) × (j < n) × (last ≡ log j)
  stays n log round i [] last lt led = (i, lt, sym led)
  stays n log round i (m ∷ q) last lt led = elim (cases_lt (suc i) n) [
    | inl within ↦ stays n log round (suc i) q last within (subst (λ k. Leads waits k q last)
        (one (log i) m (log (suc i)) led.0 (round.step i within)) led.1)
    | inr past ↦ stays n log round 0 q last round.some_log (subst (λ k. Leads waits k q last)
        (one (log i) m (log 0) led.0 (round.close i (omega arith))) led.1)
  ]

  -- from each log of a round the waits lead to its lowest
  leads_home : (n : ℕ) (log : ℕ → ℕ) → Round waits n log → (far j : ℕ) → j + suc far ≡ n → (q : List ℕ) ×
      Leads waits (log j) q (log 0)
  leads_home n log round zero j is = (log 0 ∷ [], (round.close j (omega arith), refl))
  leads_home n log round (suc far) j is = let rest = leads_home n log round far (suc j) (omega arith) in
      (log (suc j) ∷ rest.0, (round.step j (omega arith), rest.1))

  not_above : (n : ℕ) (log : ℕ → ℕ) → Round waits n log → (q : List ℕ) (last : ℕ) → Leads waits (log 0) q last →
      log 0 ≤ last
  not_above n log round q last led =
      let at = stays n log round 0 q last round.some_log led in
      elim (cases_lt 0 at.0) [
        | inl positive ↦ let lt = round.lowest at.0 positive at.1 in omega (arith, lt, at.2)
        | inr none ↦ let e : at.0 ≡ 0 = omega arith in omega (arith, at.2, ap log e)
      ]

  -- a round that another leads to is that one
  same_lowest : (n : ℕ) (log : ℕ → ℕ) (n' : ℕ) (log' : ℕ → ℕ) → Round waits n log → Round waits n' log' →
      (q : List ℕ) → Leads waits (log 0) q (log' 0) → log 0 ≡ log' 0
  same_lowest n log n' log' round round' q led =
      let at = stays n log round 0 q (log' 0) round.some_log led in
      let home = leads_home n log round (n - suc at.0) at.0 (omega (arith, at.1)) in
      let le = not_above n log round q (log' 0) led in
      let le' = not_above n' log' round' home.0 (log 0) (subst (λ k. Leads waits k home.0 (log 0)) (sym at.2) home.1) in
      omega (arith, le, le')

  same_logs : (n : ℕ) (log : ℕ → ℕ) (n' : ℕ) (log' : ℕ → ℕ) → Round waits n log → Round waits n' log' →
      log 0 ≡ log' 0 → (j : ℕ) → j < n → j < n' → log j ≡ log' j
  same_logs n log n' log' round round' same zero lt lt' = same
  same_logs n log n' log' round round' same (suc j) lt lt' =
      let before = same_logs n log n' log' round round' same j (omega arith) (omega arith) in
      one (log j) (log (suc j)) (log' (suc j)) (round.step j lt)
      (subst (λ k. waits k (log' (suc j))) (sym before) (round'.step j lt'))

  not_shorter : (n : ℕ) (log : ℕ → ℕ) (n' : ℕ) (log' : ℕ → ℕ) → Round waits n log → Round waits n' log' →
      log 0 ≡ log' 0 → n < n' → ⊥
  not_shorter zero log n' log' round round' same lt = let some_log = round.some_log in omega arith
  not_shorter (suc j) log n' log' round round' same lt =
      let before = same_logs (suc j) log n' log' round round' same j (omega arith) (omega arith) in
      let back = one (log j) (log 0) (log' (suc j)) (round.close j refl)
      (subst (λ k. waits k (log' (suc j))) (sym before) (round'.step j lt)) in
      let above = round'.lowest (suc j) (omega arith) lt in
      omega (arith, back, above, same)

  pub one_round : (start : ℕ) (path : List ℕ) (n : ℕ) (log : ℕ → ℕ) (path' : List ℕ) (n' : ℕ) (log' : ℕ → ℕ) →
      Round waits n log → Round waits n' log'
      → Leads waits start path (log 0) → Leads waits start path' (log' 0) → (n ≡ n') ×
      ((j : ℕ) → j < n → log j ≡ log' j)
  one_round start path n log path' n' log' round round' led led' =
      let same : log 0 ≡ log' 0 = (elim (goes_on start path (log 0) path' (log' 0) led led') [
        | inl on ↦ same_lowest n log n' log' round round' on.0 on.1
        | inr on ↦ sym (same_lowest n' log' n log round' round on.0 on.1)
      ]) in
      let len : n ≡ n' = (elim (cases_lt n n') [
        | inl lt ↦ absurd (not_shorter n log n' log' round round' same lt)
        | inr le ↦ (elim (cases_lt n' n) [
          | inl lt ↦ absurd (not_shorter n' log' n log round' round (sym same) lt)
          | inr le' ↦ omega arith
        ])
      ]) in
      (len, λ j lt. same_logs n log n' log' round round' same j lt (omega (arith, len, lt)))

-- ---- the waits where nothing more can go

same_entry : {x y : ℕ × ℕ} → ◌≡◌ {A = Option (ℕ × ℕ)} (Some x) (Some y) → x ≡ y
same_entry e = cc

-- Each log waits for one log.
one_wait : (gone : List (ℕ × ℕ)) (left : List (List (ℕ × ℕ))) → NothingGoes gone left →
    AtMostOnce left (next_number gone) → (log a b : ℕ) → WaitsFor gone left log a → WaitsFor gone left log b → a ≡ b
one_wait gone left nothing once log a b w w' = elim (cases_eq a b) [
  | inl same ↦ same
  | inr apart ↦
      let bank = w.waiting.0 in
      let k = next_number gone bank in
      let same : w'.waiting ≡ w.waiting = same_entry (sym w'.first ∙ w.first) in
      let holds' : entry_at (log_at left b) w'.place ≡ Some (bank, k) =
      w'.holds ∙ ap (λ (e : ℕ × ℕ). Some (e.0, next_number gone e.0)) same in
      let test : is_next bank k (bank, k) ≡ true = and_from (bank == bank) (k == k) (eq-eqb bank bank refl)
      (eq-eqb k k refl) in
      let some_left = one_in_joined (of_its_bank bank) left a w.place (bank, k) w.holds (eq-eqb bank bank refl) in
      let two = two_apart (is_next bank k) left a b w.place w'.place (bank, k) (bank, k) apart w.holds holds' test
      test in
      absurd (omega (arith, two, once bank k (nothing log w.waiting w.first).0 (omega (arith, some_left))))
]

-- the same waits, where the same is left and the same numbers go next
other_wait : (gone gone' : List (ℕ × ℕ)) (left left' : List (List (ℕ × ℕ))) → left ≡ left' →
    next_number gone ≡ next_number gone' → (log other : ℕ)
    → WaitsFor gone' left' log other → WaitsFor gone left log other
other_wait gone gone' left left' same_left same_next log other w = record {
  waiting = w.waiting;
  first = subst (λ ls. entry_at (log_at ls log) 0 ≡ Some w.waiting) (sym same_left) w.first;
  place = w.place;
  holds = subst (λ ls. entry_at (log_at ls other) w.place ≡ Some (w.waiting.0, next_number gone w.waiting.0))
      (sym same_left)
      (subst (λ (f : ℕ → ℕ). entry_at (log_at left' other) w.place ≡ Some (w.waiting.0, f w.waiting.0))
      (sym same_next) w.holds);
}

leads_by : (waits waits' : ℕ → ℕ → Type 0) → ((log other : ℕ) → waits log other → waits' log other) →
    (log : ℕ) (path : List ℕ) (last : ℕ) → Leads waits log path last → Leads waits' log path last
leads_by waits waits' by log [] last led = led
leads_by waits waits' by log (next ∷ path) last led = (by log next led.0, leads_by waits waits' by next path last led.1)

round_of_ring : (waits : ℕ → ℕ → Type 0) (ring : List Knot) → 0 < length ring →
    ((j : ℕ) → j < length ring → waits (knot_at ring j).log (knot_at ring ((j + 1) % length ring)).log)
    → ((j : ℕ) → 0 < j → j < length ring → (knot_at ring 0).log < (knot_at ring j).log) →
    Round waits (length ring) (λ j. (knot_at ring j).log)
round_of_ring waits ring some_knot each lowest = record {
  some_log = some_knot;
  step = λ j lt.
      let lt' : j + 1 < length ring = omega arith in
      let next : (j + 1) % length ring ≡ suc j = mod-eq_of_lt lt' ∙ one_up j in
      subst (λ k. waits (knot_at ring j).log (knot_at ring k).log) next (each j (omega arith));
  close = λ j last.
      let whole : j + 1 ≡ length ring = omega arith in
      let next : (j + 1) % length ring ≡ 0 = ap (λ k. k % length ring) whole ∙ mod_self (length ring) in
      subst (λ k. waits (knot_at ring j).log (knot_at ring k).log) next (each j (omega arith));
  lowest = lowest;
}
  where
    one_up : (n : ℕ) → n + 1 ≡ suc n
    one_up n = omega arith

same_knot : (k k' : Knot) → k.log ≡ k'.log → k.at ≡ k'.at → k ≡ k'
same_knot k k' log at = λ i. record { log = log i; at = at i }

pub stuck_rings_are_one : StuckRingsAreOne
stuck_rings_are_one skeletons ring other whole s t =
    let runs = gone_runs skeletons s.gone s.left s.has_gone in
    let runs' = gone_runs skeletons t.gone t.left t.has_gone in
    let once = once_at_start skeletons whole in
    let end =
    one_end skeletons (λ _. 0) runs.0 s.left (next_number s.gone) runs'.0 t.left (next_number t.gone) once runs.1
    (stuck_at s.gone s.left s.nothing_goes) runs'.1 (stuck_at t.gone t.left t.nothing_goes) in
    let waits = WaitsFor s.gone s.left in
    let waits' = WaitsFor t.gone t.left in
    let by : (log to : ℕ) → waits' log to → waits log to = other_wait s.gone t.gone s.left t.left end.0 end.1 in
    let one = one_wait s.gone s.left s.nothing_goes (once_at_end skeletons s.left (λ _. 0) (next_number s.gone) runs.0
    runs.1 once) in
    let start : s.start ≡ t.start = same_start s.left t.left end.0 s.start t.start s.some_left t.some_left
    s.none_below t.none_below in
    let round = round_of_ring waits ring s.some_knot s.waits s.lowest in
    let round' = round_of_ring waits other t.some_knot (λ j lt. by (knot_at other j).log
    (knot_at other ((j + 1) % length other)).log (t.waits j lt)) t.lowest in
    let led' : Leads waits s.start t.path (knot_at other 0).log =
    subst (λ k. Leads waits k t.path (knot_at other 0).log) (sym start)
    (leads_by waits' waits by t.start t.path (knot_at other 0).log t.led) in
    let same = one_round waits one s.start s.path (length ring) (λ j. (knot_at ring j).log) t.path (length other)
    (λ j. (knot_at other j).log) round round' s.led led' in
    ext_get_or no_knot ring other same.0 (λ j lt. same_knot (knot_at ring j) (knot_at other j) (same.1 j lt)
    (same_place (knot_at ring j) (knot_at other j) s.left t.left end.0 (same.1 j lt) (s.places j lt)
    (t.places j (omega (arith, same.0, lt)))))
  where
    same_start : (left left' : List (List (ℕ × ℕ))) → left ≡ left' → (a b : ℕ) → log_at left a ≢ [] →
        log_at left' b ≢ []
        → ((log : ℕ) → log < a → log_at left log ≡ []) → ((log : ℕ) → log < b → log_at left' log ≡ []) → a ≡ b
    same_start left left' same a b some_a some_b none_a none_b = elim (cases_lt a b) [
      | inl lt ↦ absurd (some_a (ap (λ ls. log_at ls a) same ∙ none_b a lt))
      | inr le ↦ (elim (cases_lt b a) [
        | inl lt ↦ absurd (some_b (sym (ap (λ ls. log_at ls b) same) ∙ none_a b lt))
        | inr le' ↦ omega arith
      ])
    ]

    same_place : (k k' : Knot) (left left' : List (List (ℕ × ℕ))) → left ≡ left' → k.log ≡ k'.log →
        k.at + length (log_at left k.log) ≡ length (log_at skeletons k.log)
        → k'.at + length (log_at left' k'.log) ≡ length (log_at skeletons k'.log) → k.at ≡ k'.at
    same_place k k' left left' same log is is' =
        let l : length (log_at left k.log) ≡ length (log_at left' k'.log) =
        ap₂ (λ (ls : List (List (ℕ × ℕ))) (n : ℕ). length (log_at ls n)) same log in
        let w : length (log_at skeletons k.log) ≡ length (log_at skeletons k'.log) =
        ap (λ n. length (log_at skeletons n)) log in
        omega (arith, is, is', l, w)

pub stuck_rings_admit_none : StuckRingsAdmitNone
stuck_rings_admit_none skeletons ring s order is =
    let runs = gone_runs skeletons s.gone s.left s.has_gone in
    none_from skeletons s.left (λ _. 0) (next_number s.gone) runs.0 runs.1
    (none_where_stuck s.left (next_number s.gone) (stuck_at s.gone s.left s.nothing_goes) s.start s.some_left)
    order (runs_from_order skeletons order is)

-- ---- the least order

same_order : (a b : List ℕ) → IsNotAbove a b → IsNotAbove b a → a ≡ b
same_order [] [] low high = refl
same_order [] (y ∷ b) low high = absurd high
same_order (x ∷ a) [] low high = absurd low
same_order (x ∷ a) (y ∷ b) (inl lt) (inl lt') = absurd (omega arith)
same_order (x ∷ a) (y ∷ b) (inl lt) (inr e) = absurd (omega (arith, e.0))
same_order (x ∷ a) (y ∷ b) (inr e) (inl lt') = absurd (omega (arith, e.0))
same_order (x ∷ a) (y ∷ b) (inr e) (inr e') = ap₂ (λ (n : ℕ) (ns : List ℕ). n ∷ ns) e.0 (same_order a b e.1 e'.1)

pub least_orders_are_one : LeastOrdersAreOne
least_orders_are_one skeletons order other is is' = same_order order other (is.least other is'.is_order)
    (is'.least order is.is_order)
