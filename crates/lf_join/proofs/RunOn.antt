-- What is left of the logs goes on.
use Rattle.std.proofs.Common.{◌≡◌, ℕ, zero, suc, ◌+◌, ◌-◌, ◌<◌, ◌≤◌, ◌^◌, true, false, inl, inr, List, [], ◌∷◌, ◌++◌}
use Rattle.std.proofs.Common.{map, length, replicate, set, slice_index, Option, Some, None, refl, sym, ap, ◌∙◌}
use Rattle.std.proofs.Common.{subst, arith}
use Rattle.std.specs.Global.{Vec}
use Rattle.std.specs.List.{All}
use Rattle.std.specs.Option.{IsSome}
use Rattle.lf_rules.specs.declared.ring.Knot.{Knot}
use Rattle.lf_rules.specs.Order.{log_at}
use Rattle.lf_rules.specs.Ring.{entry_at}
use Rattle.lf_join.specs.Join.{skeleton_lists, Leads}
use Rattle.lf_join.specs.Heads.{next_entry, can_go, carries_next, Advances, IsAt, HeadsWait, AllWait, Chain, IsRound}
use Rattle.lf_join.specs.Heads.{first_or, knot_of}
use Rattle.lf_join.specs.Progress.{Reached, HasReached, AreLogs}
use Rattle.lf_join.specs.RunOn.{added, ahead_of, knot_behind, RunsOn}
use Rattle.lf_join.specs.Standings.{IsItsOwn}
use Rattle.std.proofs.lemmas.Bool.{cases_lt}
use Rattle.std.proofs.lemmas.List.{get_or-map, get_or_default, get_or_past, length-map, length-set}
use Rattle.lf_rules.specs.Order.{IsOrder}
use Rattle.lf_rules.specs.Ring.{IsRing}
use Rattle.lf_join.specs.Join.{IsStuckRing}
use Rattle.lf_join.proofs.Entries.{log_at-past}
use Rattle.lf_join.proofs.Merge.{at_more, none_left}
use Rattle.lf_join.proofs.OwnEntries.{its_own}
use Rattle.lf_join.proofs.Reached.{left_behind, is_at, left_len, all_gone_order}
use Rattle.lf_join.proofs.RingLemmas.{is_ring, is_stuck_ring}
use Rattle.lf_join.proofs.Rounds.{chain_at}
use Rattle.lf_join.proofs.Stuck.{entry_at-drop, all_wait}
use Rattle.lf_join.proofs.Waits.{within_log}

-- ---- places in the whole logs

pub added_at : (ps qs : List ℕ) (k : ℕ) → length ps ≡ length qs → slice_index (added ps qs) k
    ≡ slice_index ps k + slice_index qs k
added_at [] [] k same = refl
added_at [] (q ∷ qs) k same = absurd (omega (arith, same))
added_at (p ∷ ps) [] k same = absurd (omega (arith, same))
added_at (p ∷ ps) (q ∷ qs) zero same = refl
added_at (p ∷ ps) (q ∷ qs) (suc k) same = added_at ps qs k (omega (arith, same))

pub added_zeros : (ps : List ℕ) (n : ℕ) → length ps ≡ n → added ps (replicate n 0) ≡ ps
added_zeros [] n len = refl
added_zeros (p ∷ ps) zero len = absurd (omega (arith, len))
added_zeros (p ∷ ps) (suc n) len = let e : p + 0 ≡ p = omega arith in
    ap (λ k. k ∷ added ps (replicate n 0)) e ∙ ap (λ (ks : List ℕ). p ∷ ks) (added_zeros ps n (omega (arith, len)))

pub length-added : (ps qs : List ℕ) → length ps ≡ length qs → length (added ps qs) ≡ length ps
length-added [] qs same = refl
length-added (p ∷ ps) [] same = absurd (omega (arith, same))
length-added (p ∷ ps) (q ∷ qs) same = ap suc (length-added ps qs (omega (arith, same)))

-- one place moves on
pub added_more : (ps qs : List ℕ) (k : ℕ) → length ps ≡ length qs → added ps (set qs k (slice_index qs k + 1))
    ≡ set (added ps qs) k (slice_index (added ps qs) k + 1)
added_more [] qs k same = refl
added_more (p ∷ ps) [] k same = absurd (omega (arith, same))
added_more (p ∷ ps) (q ∷ qs) zero same = let e : p + (q + 1) ≡ (p + q) + 1 = omega arith in
    ap (λ n. n ∷ added ps qs) e
added_more (p ∷ ps) (q ∷ qs) (suc k) same = ap (λ (ks : List ℕ). (p + q) ∷ ks) (added_more ps qs k
    (omega (arith, same)))

-- ---- what is left, and the whole logs

entry_within : (xs : List (ℕ × ℕ)) (n : ℕ) (x : ℕ × ℕ) → entry_at xs n ≡ Some x → n < length xs
entry_within [] n x is = cc
entry_within (y ∷ xs) zero x is = omega arith
entry_within (y ∷ xs) (suc n) x is = let rest = entry_within xs n x is in omega (arith, rest)

none_some : {x : ℕ × ℕ} → ◌≡◌ {A = Option (ℕ × ℕ)} None (Some x) → ⊥
none_some e = cc

pub fewer_ahead : (logs : List (List (ℕ × ℕ))) (ps : List ℕ) (log : ℕ) (x : ℕ × ℕ) → log < length ps →
    entry_at (log_at logs log) (slice_index ps log) ≡ Some x
    → ahead_of logs (set ps log (slice_index ps log + 1)) < ahead_of logs ps
fewer_ahead [] ps log x within is = absurd (none_some is)
fewer_ahead (xs ∷ logs) [] log x within is = absurd (omega (arith, within))
fewer_ahead (xs ∷ logs) (p ∷ ps) zero x within is = let here = entry_within xs p x is in omega (arith, here)
fewer_ahead (xs ∷ logs) (p ∷ ps) (suc log) x within is =
    let rest = fewer_ahead logs ps log x (omega (arith, within)) is in omega (arith, rest)

module _ (skeletons : List (List (ℕ × ℕ))) (reached : Reached) (left : List (List (ℕ × ℕ)))
    (h : HasReached skeletons reached left) (places next : List ℕ) (same : length reached.places ≡ length places) where
  abbrev whole : List ℕ
  whole = added reached.places places

  -- an entry of what is left, in the whole logs
  entry_behind : (log k : ℕ) → entry_at (log_at left log) k ≡ entry_at (log_at skeletons log)
      (slice_index reached.places log + k)
  entry_behind log k = ap (λ (xs : List (ℕ × ℕ)). entry_at xs k) (left_behind skeletons reached left h log)
      ∙ entry_at-drop (slice_index reached.places log) (log_at skeletons log) k

  pub next_behind : (log : ℕ) → next_entry left places log ≡ next_entry skeletons whole log
  next_behind log = entry_behind log (slice_index places log)
      ∙ ap (λ n. entry_at (log_at skeletons log) n) (sym (added_at reached.places places log same))

  pub goes_behind : (log : ℕ) → can_go left places next log ≡ can_go skeletons whole next log
  goes_behind log = ap (carries_next next) (next_behind log)

  pub own_behind : (log : ℕ) → IsItsOwn skeletons whole log → IsItsOwn left places log
  own_behind log own other entry apart lt is is' =
      own other entry apart lt (sym (next_behind log) ∙ is) (sym (next_behind other) ∙ is')

  pub advances_behind : (log : ℕ) (new_places new_next : List ℕ) → Advances left places next log new_places new_next →
      Advances skeletons whole next log (added reached.places new_places) new_next
  advances_behind log new_places new_next a = record {
    entry = a.entry;
    there = sym (next_behind log) ∙ a.there;
    is_bank = a.is_bank;
    moved = ap (added reached.places) a.moved ∙ added_more reached.places places log same;
    counted = a.counted;
  }

  -- ---- the waits

  wait_in_whole : (log other : ℕ) → HeadsWait left places next log other → HeadsWait skeletons whole next log other
  wait_in_whole log other w = record {
    waiting = w.waiting;
    first = sym (next_behind log) ∙ w.first;
    place = slice_index reached.places other + w.place;
    not_gone = let at = added_at reached.places places other same in let not_gone = w.not_gone in
        omega (arith, at, not_gone);
    holds = sym (entry_behind other w.place) ∙ w.holds;
  }

  wait_in_left : (log other : ℕ) → HeadsWait skeletons whole next log other → HeadsWait left places next log other
  wait_in_left log other w =
      let at = added_at reached.places places other same in
      let not_gone = w.not_gone in
      let behind : slice_index reached.places other + (w.place - slice_index reached.places other) ≡ w.place =
      omega (arith, at, not_gone) in
      record {
        waiting = w.waiting;
        first = next_behind log ∙ w.first;
        place = w.place - slice_index reached.places other;
        not_gone = omega (arith, at, not_gone);
        holds = entry_behind other (w.place - slice_index reached.places other)
            ∙ ap (λ n. entry_at (log_at skeletons other) n) behind ∙ w.holds;
      }

  pub all_wait_in_left : AllWait skeletons whole next → AllWait left places next
  all_wait_in_left all log waiting is = let found = all log waiting (sym (next_behind log) ∙ is) in
      (found.0, wait_in_left log found.0 found.1)

  chain_in_whole : (logs : List ℕ) (last : ℕ) → Chain (HeadsWait left places next) logs last →
      Chain (HeadsWait skeletons whole next) logs last
  chain_in_whole [] last chain = tt
  chain_in_whole (log ∷ logs) last chain = (
    wait_in_whole log (first_or logs last) chain.0,
    chain_in_whole logs last chain.1,
  )

  leads_in_whole : (log : ℕ) (path : List ℕ) (last : ℕ) → Leads (HeadsWait left places next) log path last →
      Leads (HeadsWait skeletons whole next) log path last
  leads_in_whole log [] last led = led
  leads_in_whole log (other ∷ path) last led = (wait_in_whole log other led.0, leads_in_whole other path last led.1)

  pub round_in_whole : (start : ℕ) (logs : List ℕ) → IsRound (HeadsWait left places next) start logs →
      IsRound (HeadsWait skeletons whole next) start logs
  round_in_whole start logs round = record {
    some_log = round.some_log;
    chain = chain_in_whole logs (slice_index logs 0) round.chain;
    lowest = round.lowest;
    path = round.path;
    led = leads_in_whole start round.path (slice_index logs 0) round.led;
  }

  -- the knots of what is left, in the whole logs
  pub knots_in_whole : (logs : List ℕ) → map (knot_behind reached.places) (map (knot_of places) logs)
      ≡ map (knot_of whole) logs
  knots_in_whole [] = refl
  knots_in_whole (log ∷ logs) =
      ap (λ n. record { log = log; at = n } ∷ map (knot_behind reached.places) (map (knot_of places) logs))
      (sym (added_at reached.places places log same))
      ∙ ap (λ (ks : List Knot). knot_of whole log ∷ ks) (knots_in_whole logs)

-- ---- the loop

pub runs_at_start : (reached : Reached) (left : List (List (ℕ × ℕ))) → length reached.places ≡ 32 →
    length reached.next ≡ 256 → RunsOn reached left (replicate 32 0) reached.next
runs_at_start reached left places_len next_len = record {
  reached_len = places_len;
  places_len = refl;
  next_len = next_len;
  run = λ skeletons logs h. (
    h.has_gone.order,
    subst (λ (ps : List ℕ). IsAt skeletons h.has_gone.order ps reached.next)
        (sym (added_zeros reached.places 32 places_len)) (is_at skeletons reached left h),
  );
}

module _ (reached : Reached) (left : List (List (ℕ × ℕ))) (places next : List ℕ)
    (on : RunsOn reached left places next) where
  same_len : length reached.places ≡ length places
  same_len = on.reached_len ∙ sym on.places_len

  abbrev whole_places : List ℕ
  whole_places = added reached.places places

  pub runs_more : (log : ℕ) (new_places new_next : List ℕ) → log < 32 → can_go left places next log ≡ true →
      Advances left places next log new_places new_next → RunsOn reached left new_places new_next
  runs_more log new_places new_next within can a = record {
    reached_len = on.reached_len;
    places_len = ap length a.moved ∙ length-set places log (slice_index places log + 1) ∙ on.places_len;
    next_len = ap length a.counted ∙ length-set next a.entry.0 (a.entry.1 + 1) ∙ on.next_len;
    run = λ skeletons logs h. let at = on.run skeletons logs h in (
      at.0 ++ log ∷ [],
      at_more skeletons at.0 whole_places next at.1 (length-added reached.places places same_len ∙ on.reached_len)
          on.next_len log (added reached.places new_places) new_next within
          (sym (goes_behind skeletons reached left h places next same_len log) ∙ can)
          (advances_behind skeletons reached left h places next same_len log new_places new_next a),
    );
  }

  pub own_left : (skeletons : List (List (ℕ × ℕ))) → AreLogs skeletons → HasReached skeletons reached left → (log : ℕ) →
      can_go left places next log ≡ true → IsItsOwn left places log
  own_left skeletons logs h log can = let at = on.run skeletons logs h in
      own_behind skeletons reached left h places next same_len log
      (its_own skeletons at.0 whole_places next log at.1 logs.whole
      (sym (goes_behind skeletons reached left h places next same_len log) ∙ can))

-- ---- where nothing more can go

pub left_short : (skeletons : List (List (ℕ × ℕ))) (reached : Reached) (left : List (List (ℕ × ℕ))) →
    AreLogs skeletons → HasReached skeletons reached left → All (λ entries. length entries ≤ 2 ^ 24) left
left_short skeletons reached left logs h k d lt =
    let same = ap length (get_or_default left k d [] lt) in
    let count = left_len skeletons reached left h in
    let short = logs.short k [] (omega (arith, count, lt)) in
    omega (arith, same, short, h.counted k)

module _ (reached : Reached) (left : List (List (ℕ × ℕ))) (places next : List ℕ)
    (on : RunsOn reached left places next) (stuck : (log : ℕ) → can_go left places next log ≡ false)
    (skeletons : List (List (ℕ × ℕ))) (logs : AreLogs skeletons) (h : HasReached skeletons reached left) where
  abbrev at : (order : List ℕ) × IsAt skeletons order (added reached.places places) next
  at = on.run skeletons logs h

  same : length reached.places ≡ length places
  same = same_len reached left places next on

  nothing : (log : ℕ) → can_go skeletons (added reached.places places) next log ≡ false
  nothing log = sym (goes_behind skeletons reached left h places next same log) ∙ stuck log

  pub left_waits : AllWait left places next
  left_waits = all_wait_in_left skeletons reached left h places next same
      (all_wait skeletons at.0 (added reached.places places) next at.1 logs.whole nothing)

  pub order_of_all : ((log : ℕ) → next_entry left places log ≡ None) → (order : List ℕ) × IsOrder skeletons order
  order_of_all none = (
    at.0,
    all_gone_order skeletons at.0 (added reached.places places) next at.1
        (λ log. at.1.placed log ∙ none_left (log_at skeletons log) (slice_index (added reached.places places) log)
        (sym (next_behind skeletons reached left h places next same log) ∙ none log)),
  )

  module _ (start : ℕ) (round : List ℕ) (is : IsRound (HeadsWait left places next) start round) where
    abbrev ring : List Knot
    ring = map (knot_of (added reached.places places)) round

    in_whole : IsRound (HeadsWait skeletons (added reached.places places) next) start round
    in_whole = round_in_whole skeletons reached left h places next same start round is

    pub whole_is : map (knot_behind reached.places) (map (knot_of places) round) ≡ ring
    whole_is = knots_in_whole skeletons reached left h places next same round

    pub whole_is_ring : IsRing skeletons ring
    whole_is_ring = is_ring skeletons at.0 (added reached.places places) next at.1 logs.whole nothing start round
        in_whole

    pub whole_is_stuck : IsSome (next_entry left places start) →
        ((log : ℕ) → log < start → next_entry left places log ≡ None) → IsStuckRing skeletons ring
    whole_is_stuck some_left none_below =
        is_stuck_ring skeletons at.0 (added reached.places places) next at.1 logs.whole nothing start round in_whole
        (subst IsSome (next_behind skeletons reached left h places next same start) some_left)
        (λ log lt. sym (next_behind skeletons reached left h places next same log) ∙ none_below log lt)

    -- each knot has a place of the whole logs
    pub knots_fit : length left ≤ 32 → All (λ knot. (knot.log < 32) ×
        (slice_index reached.places knot.log + knot.at < 2 ^ 32)) (map (knot_of places) round)
    knots_fit few k d lt =
        let inside : k < length round = let len = length-map round (knot_of places) in omega (arith, len, lt) in
        subst (λ (knot : Knot). (knot.log < 32) × (slice_index reached.places knot.log + knot.at < 2 ^ 32))
        (sym (get_or-map (knot_of places) round k 0 d inside))
        (knot_fits (slice_index round k) (within_log left places next (slice_index round k)
        (slice_index (round ++ slice_index round 0 ∷ []) (suc k))
        (chain_at (HeadsWait left places next) round (slice_index round 0) k is.chain inside)))
      where
        knot_fits : (log : ℕ) → slice_index places log < length (log_at left log) →
            (log < 32) × (slice_index reached.places log + slice_index places log < 2 ^ 32)
        knot_fits log within = elim (cases_lt log (length left)) [
          | inl lt ↦
              let count = left_len skeletons reached left h in
              let short = logs.short log [] (omega (arith, count, lt)) in
              (omega (arith, lt, few), omega (arith, within, h.counted log, short))
          | inr past ↦ absurd (let none = ap length (get_or_past left log [] past) in omega (arith, none, within))
        ]

-- a log that is not there has nothing left
pub none_at_all : (skeletons : List (Vec (ℕ × ℕ))) (places : List ℕ) →
    ((log : ℕ) → log < length skeletons → next_entry (skeleton_lists skeletons) places log ≡ None)
    → (log : ℕ) → next_entry (skeleton_lists skeletons) places log ≡ None
none_at_all skeletons places none log = elim (cases_lt log (length skeletons)) [
  | inl lt ↦ none log lt
  | inr past ↦ ap (λ (xs : List (ℕ × ℕ)). entry_at xs (slice_index places log)) (log_at-past skeletons log past)
]
