-- The roster of a merge, step by step.
use Rattle.std.proofs.Common.{◌≡◌, ◌≢◌, ℕ, zero, suc, ◌+◌, ◌%◌, ◌<◌, ◌≤◌, Bool, true, false, cond, not, ltb, ◌==◌}
use Rattle.std.proofs.Common.{◌&&◌, ◌||◌, inl, inr, List, []}
use Rattle.std.proofs.Common.{length, replicate, get_or, set, Option, Some, None, slice_index, refl, sym, ap, ◌∙◌}
use Rattle.std.proofs.Common.{subst, eqb-true, eq-eqb, arith}
use Rattle.std.proofs.lemmas.Bool.{cases_Bool, cases_eq, cases_lt, cond-true, cond-false, ne_eqb}
use Rattle.std.proofs.lemmas.List.{get_or-set_same, get_or-set_other, length-replicate}
use Rattle.lf_rules.specs.Address.{no_bank}
use Rattle.lf_rules.specs.Order.{log_at}
use Rattle.lf_rules.specs.Ring.{entry_at}
use Rattle.lf_join.specs.declared.log_set.LogSet.{LogSet}
use Rattle.lf_join.specs.declared.roster.Roster.{Roster}
use Rattle.lf_join.specs.LogSets.{has, IsEmpty, IsLowest, Changes}
use Rattle.lf_join.specs.Heads.{next_entry, carries_next, is_due, can_go, Advances}
use Rattle.lf_join.proofs.Due.{of_bank, of_none, due_carries}
use Rattle.lf_join.specs.Standings.{Standing, Nowhere, Goes, Waits, standing_of, is_going, is_waiting, IsKeptNumber}
use Rattle.lf_join.specs.Standings.{Stands, OthersStay, once_called, IsCalled, AllStand, IsItsOwn}

abbrev none : LogSet
none = record { 0 = 0 }

-- ---- the logs of a set are called one by one

-- Of the logs of the set, these have not been called yet.
pub record IsCalling (old roster : Roster) (bank number : ℕ) (rest : LogSet) : Type 0 where
  pub waits : (log : ℕ) (standing : Standing) → log < 32 → Stands old log standing → has rest log ≡ true →
      is_waiting standing bank (number % 32) ≡ true
  pub stands : (log : ℕ) (standing : Standing) → log < 32 → Stands old log standing →
      Stands roster log (cond (has rest log) standing (once_called standing bank number))

both_true : (p q : Bool) → (p && q) ≡ true → (p ≡ true) × (q ≡ true)
both_true true q is = (refl, is)
both_true false q is = cc

-- a log that waits for another number, or elsewhere, is not woken
sleeps_on : (standing : Standing) (bank number : ℕ) → ((n : ℕ) → standing ≡ Waits bank n → n ≢ number) →
    once_called standing bank number ≡ standing
sleeps_on Nowhere bank number apart = refl
sleeps_on Goes bank number apart = refl
sleeps_on (Waits at n) bank number apart = elim (cases_Bool ((at == bank) && (n == number))) [
  | inr not_called ↦ cond-false ((at == bank) && (n == number)) Goes (Waits at n) not_called
  | inl called ↦
      let is = both_true (at == bank) (n == number) called in
      absurd (apart n (ap (λ k. Waits k n) (eqb-true at bank is.0)) (eqb-true n number is.1))
]

wakes : (bank number : ℕ) → once_called (Waits bank number) bank number ≡ Goes
wakes bank number = cond-true ((bank == bank) && (number == number)) Goes (Waits bank number)
    (both (bank == bank) (number == number) (eq-eqb bank bank refl) (eq-eqb number number refl))
  where
    both : (p q : Bool) → p ≡ true → q ≡ true → (p && q) ≡ true
    both true q is is' = is'
    both false q is is' = is

-- a log in the set waits at the bank for the number that is kept
waits_for_kept : (standing : Standing) (bank set kept : ℕ) → is_waiting standing bank set ≡ true →
    IsKeptNumber standing kept → standing ≡ Waits bank kept
waits_for_kept Nowhere bank set kept here is = cc
waits_for_kept Goes bank set kept here is = cc
waits_for_kept (Waits at n) bank set kept here is =
    ap (λ k. Waits k n) (eqb-true at bank ((both_true (at == bank) (n % 32 == set) here).0)) ∙ ap (Waits bank) (sym is)

module _ (old roster : Roster) (bank number : ℕ) (called rest : LogSet) (log : ℕ)
    (before : IsCalling old roster bank number called) (lowest : IsLowest called log)
    (change : Changes called rest log false) where
  stood : (standing : Standing) → Stands old log standing → Stands roster log standing
  stood standing stands =
      subst (Stands roster log) (cond-true (has called log) standing (once_called standing bank number) lowest.member)
      (before.stands log standing lowest.is_log stands)

  waited : (standing : Standing) → Stands old log standing → standing ≡ Waits bank (slice_index roster.numbers log)
  waited standing stands =
      waits_for_kept standing bank (number % 32) (slice_index roster.numbers log)
      (before.waits log standing lowest.is_log stands lowest.member) ((stood standing stands).kept)

  one_called : (new : Roster) → OthersStay roster new log →
      ((standing : Standing) → Stands old log standing → Stands new log (once_called standing bank number)) →
      IsCalling old new bank number rest
  one_called new stay this = record {
    waits = λ k standing lt stands here. elim (cases_eq k log) [
      | inl same ↦ absurd (not_both (has rest log) (subst (λ m. has rest m ≡ true) same here) change.this)
      | inr apart ↦ before.waits k standing lt stands (sym (change.others k lt apart) ∙ here)
    ];
    stands = λ k standing lt stands. elim (cases_eq k log) [
      | inl same ↦
          subst (λ m. Stands new m (cond (has rest m) standing (once_called standing bank number))) (sym same)
          (subst (Stands new log) (sym (cond-false (has rest log) standing (once_called standing bank number)
          change.this)) (this standing (subst (λ m. Stands old m standing) same stands)))
      | inr apart ↦
          subst (λ b. Stands new k (cond b standing (once_called standing bank number)))
          (sym (change.others k lt apart))
          (stay k (cond (has called k) standing (once_called standing bank number)) lt apart
          (before.stands k standing lt stands))
    ];
  }
    where
      not_both : (b : Bool) → b ≡ true → b ≡ false → ⊥
      not_both b t f = cc

  -- its number was called
  pub one_woken : (new : Roster) → slice_index roster.numbers log ≡ number →
      (Stands roster log (Waits bank number) → Stands new log Goes)
      → OthersStay roster new log → IsCalling old new bank number rest
  one_woken new is woken stay = one_called new stay (λ standing stands.
      let waits = waited standing stands ∙ ap (Waits bank) is in
      subst (Stands new log) (sym (ap (λ (st : Standing). once_called st bank number) waits ∙ wakes bank number))
      (woken (subst (Stands roster log) waits (stood standing stands))))

-- ---- at first

get_replicate : {T : Type 0} (n k : ℕ) (x d : T) → k < n → get_or (replicate n x) k d ≡ x
get_replicate zero k x d lt = absurd (omega arith)
get_replicate (suc n) zero x d lt = refl
get_replicate (suc n) (suc k) x d lt = get_replicate n k x d (omega arith)

pub nobody : (banks sets logs : ℕ) (ready v : LogSet) → banks ≡ 256 → sets ≡ 32 → logs ≡ 32 → IsEmpty ready →
    IsEmpty v → (log : ℕ) → log < 32
    → Stands (record { ready = ready; waiting = replicate banks (replicate sets v); numbers = replicate logs 0 }) log
    Nowhere
nobody banks sets logs ready v banks_are sets_are logs_are none_ready none_waits log lt = record {
  sized = record {
    banks = length-replicate {A = List LogSet} banks (replicate sets v) ∙ banks_are;
    sets = λ bank within. ap length (row bank within) ∙ length-replicate {A = LogSet} sets v ∙ sets_are;
    numbers = length-replicate {A = ℕ} logs 0 ∙ logs_are;
  };
  going = none_ready log lt;
  waiting = λ bank s within within'. ap (λ (w : LogSet). has w log)
      (ap (λ (ws : List LogSet). get_or ws s none) (row bank within) ∙ get_replicate sets s v none (omega arith))
      ∙ none_waits log lt;
  kept = tt;
}
  where
    row : (bank : ℕ) → bank < 256 → get_or (replicate banks (replicate sets v)) bank [] ≡ replicate sets v
    row bank within = get_replicate banks bank (replicate sets v) [] (omega arith)

-- ---- an entry goes

pub going_carries : (next : List ℕ) (o : Option (ℕ × ℕ)) → is_going (standing_of next o) ≡ carries_next next o
going_carries next None = refl
going_carries next (Some x) = go (is_due next x)
  where
    go : (b : Bool) → is_going (cond b Goes (Waits x.0 x.1)) ≡ b
    go true = refl
    go false = refl

-- Where an entry that did not go stands, once the bank called its next number.
called_standing : (next : List ℕ) (bank number : ℕ) (o : Option (ℕ × ℕ)) → bank < length next →
    (bank < no_bank → (number ≡ slice_index next bank) × (o ≢ Some (bank, number)))
    → once_called (standing_of next o) bank (number + 1) ≡ standing_of (set next bank (number + 1)) o
called_standing next bank number None within own = refl
called_standing next bank number (Some x) within own = elim (cases_eq x.0 bank) [
  | inr other ↦
      sleeps_on (standing_of next (Some x)) bank (number + 1) (λ n is. absurd (elsewhere (is_due next x) n other is))
      ∙ ap (λ n. cond (not (ltb x.0 no_bank) || (x.1 == n)) Goes (Waits x.0 x.1))
      (sym (get_or-set_other next bank x.0 (number + 1) 0 other))
  | inl same ↦ (elim (cases_lt x.0 no_bank) [
    | inr free ↦
        ap (λ (st : Standing). once_called st bank (number + 1))
        (cond-true (is_due next x) Goes (Waits x.0 x.1) (of_none next x free))
        ∙ sym (cond-true (is_due (set next bank (number + 1)) x) Goes (Waits x.0 x.1)
        (of_none (set next bank (number + 1)) x free))
    | inl is_bank ↦
        let mine = own (subst (λ k. k < no_bank) same is_bank) in
        let not_gone : x.1 ≢ slice_index next x.0 = λ e. mine.1
        (ap Some (pair_is x.0 x.1 bank number same (e ∙ ap (slice_index next) same ∙ sym mine.0))) in
        let before : standing_of next (Some x) ≡ Waits x.0 x.1 =
        cond-false (is_due next x) Goes (Waits x.0 x.1)
        (of_bank next x is_bank ∙ ne_eqb x.1 (slice_index next x.0) not_gone) in
        let is_next : slice_index (set next bank (number + 1)) x.0 ≡ number + 1 =
        subst (λ k. slice_index (set next bank (number + 1)) k ≡ number + 1) (sym same)
        (get_or-set_same next bank (number + 1) 0 within) in
        ap (λ (st : Standing). once_called st bank (number + 1)) before
        ∙ ap (λ (b : Bool). cond b Goes (Waits x.0 x.1)) (first (x.0 == bank) (x.1 == number + 1)
        (eq-eqb x.0 bank same))
        ∙ ap (λ n. cond (x.1 == n) Goes (Waits x.0 x.1)) (sym is_next)
        ∙ ap (λ (b : Bool). cond b Goes (Waits x.0 x.1)) (sym (of_bank (set next bank (number + 1)) x is_bank))
  ])
]
  where
    pair_is : (a b c d : ℕ) → a ≡ c → b ≡ d → ◌≡◌ {A = ℕ × ℕ} (a, b) (c, d)
    pair_is a b c d e e' = λ i. (e i, e' i)

    first : (p q : Bool) → p ≡ true → (p && q) ≡ q
    first true q is = refl
    first false q is = cc

    same_bank : {a b m n : ℕ} → Waits a m ≡ Waits b n → a ≡ b
    same_bank e = cc

    elsewhere : (b : Bool) (n : ℕ) → x.0 ≢ bank → cond b Goes (Waits x.0 x.1) ≡ Waits bank n → ⊥
    elsewhere true n other is = cc
    elsewhere false n other is = other (same_bank is)

pub stands_after : (L : List (List (ℕ × ℕ))) (places next : List ℕ) (log : ℕ) (before after : Roster) →
    OthersStay before after log → AllStand L places next before
    → (other : ℕ) → other < 32 → other ≢ log → Stands after other (standing_of next (next_entry L places other))
stands_after L places next log before after stay all other lt apart =
    stay other (standing_of next (next_entry L places other)) lt apart (all other lt)

module _ (L : List (List (ℕ × ℕ))) (places next new_places new_next : List ℕ) (log bank number : ℕ)
    (goes : can_go L places next log ≡ true)
    (is : next_entry L places log ≡ Some (bank, number)) (gone : Advances L places next log new_places new_next)
    (sized : length next ≡ 256) (own : IsItsOwn L places log) where
  same_pair : {x y : ℕ × ℕ} → ◌≡◌ {A = Option (ℕ × ℕ)} (Some x) (Some y) → x ≡ y
  same_pair e = cc

  number_is : bank < no_bank → number ≡ slice_index next bank
  number_is = due_carries next (bank, number) (subst (λ (o : Option (ℕ × ℕ)). carries_next next o ≡ true) is goes)

  entry_is : gone.entry ≡ (bank, number)
  entry_is = same_pair (sym gone.there ∙ is)

  bank_within : bank < 256
  bank_within = subst (λ (x : ℕ × ℕ). x.0 < 256) entry_is gone.is_bank

  next_is : new_next ≡ set next bank (number + 1)
  next_is = gone.counted ∙ ap (λ (x : ℕ × ℕ). set next x.0 (x.1 + 1)) entry_is

  other_entry : (other : ℕ) → other ≢ log → next_entry L new_places other ≡ next_entry L places other
  other_entry other apart = ap (λ (k : ℕ). entry_at (log_at L other) k)
      (ap (λ (ps : List ℕ). slice_index ps other) gone.moved
      ∙ get_or-set_other places log other (slice_index places log + 1) 0 apart)

  -- each other log, once the bank called its next number
  pub others_called : (left called_from : Roster) →
      ((other : ℕ) → other < 32 → other ≢ log → Stands left other (standing_of next (next_entry L places other)))
      → IsCalled left called_from bank (number + 1)
      → (other : ℕ) → other < 32 → other ≢ log →
      Stands called_from other (standing_of new_next (next_entry L new_places other))
  others_called left called_from others are_called k lt apart =
      let now : once_called (standing_of next (next_entry L places k)) bank (number + 1)
      ≡ standing_of new_next (next_entry L new_places k) =
      called_standing next bank number (next_entry L places k) (let w = bank_within in omega arith)
      (λ lt. (number_is lt, own k (bank, number) apart lt is))
      ∙ ap (λ (o : Option (ℕ × ℕ)). standing_of (set next bank (number + 1)) o) (sym (other_entry k apart))
      ∙ ap (λ (ns : List ℕ). standing_of ns (next_entry L new_places k)) (sym next_is) in
      subst (Stands called_from k) now (are_called k (standing_of next (next_entry L places k)) lt
      (others k lt apart))

  pub all_settled : (left called_from settled : Roster) → log < 32 →
      ((other : ℕ) → other < 32 → other ≢ log → Stands left other (standing_of next (next_entry L places other)))
      → IsCalled left called_from bank (number + 1) → Stands settled log
      (standing_of new_next (next_entry L new_places log))
      → OthersStay called_from settled log → AllStand L new_places new_next settled
  all_settled left called_from settled within others are_called here stay k lt = elim (cases_eq k log) [
    | inl same ↦ subst (λ m. Stands settled m (standing_of new_next (next_entry L new_places m))) (sym same) here
    | inr apart ↦ stay k (standing_of new_next (next_entry L new_places k)) lt apart
        (others_called left called_from others are_called k lt apart)
  ]

-- Before anything has gone, one more log has settled.
pub one_placed : (old new : Roster) (log : ℕ) (target : ℕ → Standing) → log < 32 →
    ((k : ℕ) → k < log → Stands old k (target k)) × ((k : ℕ) → k < 32 → log ≤ k → Stands old k Nowhere)
    → Stands new log (target log) → OthersStay old new log → ((k : ℕ) → k < log + 1 → Stands new k (target k)) ×
    ((k : ℕ) → k < 32 → log + 1 ≤ k → Stands new k Nowhere)
one_placed old new log target within before here stay = (
  λ k lt. elim (cases_eq k log) [
    | inl same ↦ subst (λ m. Stands new m (target m)) (sym same) here
    | inr apart ↦ stay k (target k) (omega arith) apart (before.0 k (omega arith))
  ],
  λ k lt above. stay k Nowhere lt (λ e. omega (arith, e, above)) (before.1 k lt (omega arith)),
)
