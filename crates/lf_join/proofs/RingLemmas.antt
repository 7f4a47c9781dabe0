-- The ring that the code finds is the ring of the definition.
use Rattle.std.proofs.Common.{◌≡◌, ℕ, suc, ◌+◌, ◌-◌, ◌%◌, ◌<◌, Bool, true, false, inl, inr, List, [], ◌∷◌, ◌++◌, map}
use Rattle.std.proofs.Common.{length, slice_index, Option, Some, None, refl, sym, ap, ◌∙◌, subst, arith}
use Rattle.std.proofs.lemmas.Bool.{cases_lt}
use Rattle.std.proofs.lemmas.List.{length-map, length-drop, get_or-map, get_or_append_left, get_or_push}
use Rattle.std.proofs.Math.Nat.{mod-eq_of_lt, mod_self}
use Rattle.std.specs.Option.{IsSome}
use Rattle.lf_rules.specs.declared.ring.Knot.{Knot}
use Rattle.lf_rules.specs.Order.{log_at}
use Rattle.lf_rules.specs.Ring.{entry_at, knot_at, no_knot, IsWait, IsRing}
use Rattle.lf_join.specs.Join.{BanksAreWhole, WaitsFor, Leads, NothingGoes, IsStuckRing}
use Rattle.lf_join.specs.Heads.{next_entry, can_go, IsAt, HeadsWait, IsRound, knot_of}
use Rattle.lf_join.proofs.Merge.{left_first, none_left, carries_can_go}
use Rattle.lf_join.proofs.Rounds.{chain_at}
use Rattle.lf_join.proofs.Waits.{within_log}
use Rattle.lf_join.proofs.Stuck.{entry_at-drop, names_bank, above}

turn : (logs : List ℕ) (j : ℕ) → j < length logs → slice_index (logs ++ slice_index logs 0 ∷ []) (suc j)
    ≡ slice_index logs ((j + 1) % length logs)
turn logs j lt = elim (cases_lt (suc j) (length logs)) [
  | inl within ↦
      let one : suc j ≡ j + 1 = omega arith in
      let within' : j + 1 < length logs = omega arith in
      get_or_append_left logs (slice_index logs 0 ∷ []) 0 (suc j) within
      ∙ ap (λ k. slice_index logs k) (one ∙ sym (mod-eq_of_lt within'))
  | inr past ↦
      let last : length logs ≡ suc j = omega arith in
      let last' : j + 1 ≡ length logs = omega arith in
      get_or_push logs (slice_index logs 0) 0 (suc j) last ∙ ap (λ k. slice_index logs k)
      (sym (ap (λ k. k % length logs) last' ∙ mod_self (length logs)))
]

leads_by : (waits waits' : ℕ → ℕ → Type 0) → ((log other : ℕ) → waits log other → waits' log other) →
    (log : ℕ) (path : List ℕ) (last : ℕ) → Leads waits log path last → Leads waits' log path last
leads_by waits waits' by log [] last led = led
leads_by waits waits' by log (next ∷ path) last led = (by log next led.0, leads_by waits waits' by next path last led.1)

-- at each place of the ring, and at the next one
around : (waits : ℕ → ℕ → Type 0) (places logs : List ℕ) (P : Knot → Knot → Type 0)
    → ((log other : ℕ) → waits log other → P (knot_of places log) (knot_of places other)) → (start : ℕ) →
    IsRound waits start logs
    → (j : ℕ) → j < length (map (knot_of places) logs) → P (knot_at (map (knot_of places) logs) j)
    (knot_at (map (knot_of places) logs) ((j + 1) % length (map (knot_of places) logs)))
around waits places logs P by start round j lt =
    let ring = map (knot_of places) logs in
    let len : length ring ≡ length logs = length-map logs (knot_of places) in
    let some_log = round.some_log in
    let lt' : j < length logs = omega (arith, len, lt) in
    let next = (j + 1) % length logs in
    let next_lt : next < length logs = omega (arith, some_log) in
    let here : knot_at ring j ≡ knot_of places (slice_index logs j) =
    get_or-map (knot_of places) logs j 0 no_knot lt' in
    let there : knot_at ring ((j + 1) % length ring) ≡ knot_of places (slice_index logs next) =
    ap (λ n. knot_at ring ((j + 1) % n)) len ∙ get_or-map (knot_of places) logs next 0 no_knot next_lt in
    let wait : waits (slice_index logs j) (slice_index logs next) =
    subst (λ k. waits (slice_index logs j) k) (turn logs j lt')
    (chain_at waits logs (slice_index logs 0) j round.chain lt') in
    subst (λ k. P k (knot_at ring ((j + 1) % length ring))) (sym here)
    (subst (λ k. P (knot_of places (slice_index logs j)) k) (sym there)
    (by (slice_index logs j) (slice_index logs next) wait))

module _ (skeletons : List (List (ℕ × ℕ))) (order places next : List ℕ) (at : IsAt skeletons order places next)
    (whole : BanksAreWhole skeletons)
    (nothing : (log : ℕ) → can_go skeletons places next log ≡ false) where
  false_true : (b : Bool) → b ≡ false → b ≡ true → ⊥
  false_true b f t = cc

  none_some : (o : Option (ℕ × ℕ)) → o ≡ None → IsSome o → ⊥
  none_some o none is = cc

  waits_for : (log other : ℕ) → HeadsWait skeletons places next log other → WaitsFor at.gone at.left log other
  waits_for log other w =
      let not_gone = w.not_gone in
      let same : slice_index places other + (w.place - slice_index places other) ≡ w.place = omega arith in
      record {
        waiting = w.waiting;
        first = ap (λ (xs : List (ℕ × ℕ)). entry_at xs 0) (left_first skeletons order places next at log w.waiting
            w.first);
        place = w.place - slice_index places other;
        holds = ap (λ (xs : List (ℕ × ℕ)). entry_at xs (w.place - slice_index places other)) (at.placed other)
            ∙ entry_at-drop (slice_index places other) (log_at skeletons other) (w.place - slice_index places other)
            ∙ ap (λ n. entry_at (log_at skeletons other) n) same ∙ w.holds
            ∙ ap (λ n. Some (w.waiting.0, n)) (at.counted w.waiting.0
            (names_bank skeletons order places next at whole nothing log w.waiting w.first));
      }

  is_wait : (log other : ℕ) → HeadsWait skeletons places next log other →
      IsWait skeletons (knot_of places log) (knot_of places other)
  is_wait log other w = record {
    waiting = w.waiting;
    named = w.first;
    is_bank = names_bank skeletons order places next at whole nothing log w.waiting w.first;
    place = w.place;
    behind = (elim (cases_lt (slice_index places other) w.place) [
      | inl lt ↦ lt
      | inr past ↦
          let not_gone = w.not_gone in
          let same : w.place ≡ slice_index places other = omega arith in
          let head : next_entry skeletons places other ≡ Some (w.waiting.0, slice_index next w.waiting.0) =
          ap (λ n. entry_at (log_at skeletons other) n) (sym same) ∙ w.holds in
          absurd (false_true (can_go skeletons places next other) (nothing other)
          (carries_can_go next (next_entry skeletons places other) (w.waiting.0, slice_index next w.waiting.0) head
          (λ _. refl)))
    ]);
    earlier = (w.waiting.0, slice_index next w.waiting.0);
    there = w.holds;
    same_bank = refl;
    smaller = above skeletons order places next at whole nothing log w.waiting w.first;
  }

  pub is_ring : (start : ℕ) (logs : List ℕ) → IsRound (HeadsWait skeletons places next) start logs →
      IsRing skeletons (map (knot_of places) logs)
  is_ring start logs round = record {
    some_knot = let len = length-map logs (knot_of places) in let some_log = round.some_log in omega arith;
    waits = around (HeadsWait skeletons places next) places logs (IsWait skeletons) is_wait start round;
  }

  -- the next entry, as what is left begins
  next_is : (log : ℕ) → next_entry skeletons places log ≡ entry_at (log_at at.left log) 0
  next_is log =
      let none : slice_index places log ≡ slice_index places log + 0 = omega arith in
      ap (λ n. entry_at (log_at skeletons log) n) none ∙ sym
      (entry_at-drop (slice_index places log) (log_at skeletons log) 0)
      ∙ ap (λ (xs : List (ℕ × ℕ)). entry_at xs 0) (sym (at.placed log))

  nothing_goes : NothingGoes at.gone at.left
  nothing_goes log entry first =
      let is : next_entry skeletons places log ≡ Some entry = next_is log ∙ first in (
        names_bank skeletons order places next at whole nothing log entry is,
        λ carries. false_true (can_go skeletons places next log) (nothing log)
            (carries_can_go next (next_entry skeletons places log) entry
            is (λ lt. carries ∙ sym (at.counted entry.0 lt))),
      )

  pub is_stuck_ring : (start : ℕ) (logs : List ℕ) → IsRound (HeadsWait skeletons places next) start logs →
      IsSome (next_entry skeletons places start)
      → ((log : ℕ) → log < start → next_entry skeletons places log ≡ None) →
      IsStuckRing skeletons (map (knot_of places) logs)
  is_stuck_ring start logs round some_left none_below =
      let ring = map (knot_of places) logs in
      let len : length ring ≡ length logs = length-map logs (knot_of places) in
      let some_log = round.some_log in
      let knot_is : (j : ℕ) → j < length ring → knot_at ring j ≡ knot_of places (slice_index logs j) =
      λ j lt. get_or-map (knot_of places) logs j 0 no_knot (omega (arith, len, lt)) in
      let some_knot : 0 < length ring = omega (arith, len, some_log) in
      record {
        gone = at.gone;
        left = at.left;
        has_gone = record { order = order; taken = at.taken; kept = at.kept };
        nothing_goes = nothing_goes;
        start = start;
        some_left = λ nil. none_some (next_entry skeletons places start)
            (next_is start ∙ ap (λ (xs : List (ℕ × ℕ)). entry_at xs 0) nil) some_left;
        none_below = λ log lt. at.placed log ∙ none_left (log_at skeletons log) (slice_index places log)
            (none_below log lt);
        path = round.path;
        led = subst (λ k. Leads (WaitsFor at.gone at.left) start round.path k)
            (sym (ap (λ (k : Knot). k.log) (knot_is 0 some_knot)))
            (leads_by (HeadsWait skeletons places next) (WaitsFor at.gone at.left) waits_for start round.path
            (slice_index logs 0) round.led);
        some_knot = some_knot;
        waits = around (HeadsWait skeletons places next) places logs (λ k k'. WaitsFor at.gone at.left k.log k'.log)
            waits_for start round;
        lowest = λ j positive lt.
            subst (λ k. (knot_at ring 0).log < k) (sym (ap (λ (k : Knot). k.log) (knot_is j lt)))
            (subst (λ k. k < slice_index logs j) (sym (ap (λ (k : Knot). k.log) (knot_is 0 some_knot)))
            (round.lowest j positive (omega (arith, len, lt))));
        places = λ j lt.
            subst (λ (k : Knot). k.at + length (log_at at.left k.log) ≡ length (log_at skeletons k.log))
            (sym (knot_is j lt))
            (placed (slice_index logs j)
            (within_log skeletons places next (slice_index logs j)
            (slice_index (logs ++ slice_index logs 0 ∷ []) (suc j))
            (chain_at (HeadsWait skeletons places next) logs (slice_index logs 0) j round.chain
            (omega (arith, len, lt)))));
      }
    where
      placed : (log : ℕ) → slice_index places log < length (log_at skeletons log) →
          slice_index places log + length (log_at at.left log) ≡ length (log_at skeletons log)
      placed log lt = omega (
        arith,
        ap length (at.placed log)
            ∙ length-drop (slice_index places log) (log_at skeletons log),
        lt,
      )
