-- One more record in the tallies, and what tallies tell of the numbers.
use Rattle.std.proofs.Common.{◌≡◌, ℕ, ◌+◌, ◌<◌, ◌≤◌, eqb, List, [], ◌∷◌, ◌++◌, length, get_or, set, take, ◌^◌, Some}
use Rattle.std.proofs.Common.{sym, ap, ◌∙◌, subst, ⊎_elim, arith}
use Rattle.std.specs.List.{All, slice_get}
use Rattle.std.proofs.lemmas.Option.{slice_get_within, get_or_from_slice_get}
use Rattle.std.proofs.lemmas.List.{append-nil, length-append, map_push, length-map, length-set, get_or-set_same}
use Rattle.std.proofs.lemmas.List.{get_or-set_other}
use Rattle.std.proofs.lemmas.List.{get_or_default, take_more, take_all, append_assoc}
use Rattle.std.proofs.lemmas.List.Elements.{filter-append}
use Rattle.std.proofs.lemmas.List.Sums.{sum_by_push, count_by-le-length}
use Rattle.std.proofs.lemmas.Bool.{cases_eq, eq-eqb, ne_eqb, cond-true, cond-false}
use Rattle.lf_rules.specs.declared.event.Record.{Record}
use Rattle.lf_rules.specs.Run.{of_bank, names}
use Rattle.lf_rules.specs.Numbers.{all_records, numbers_of, bank_numbers, times, IsWhole}
use Rattle.lf_logs.specs.declared.order.Place.{Place}
use Rattle.lf_logs.specs.declared.order.Tally.{Tally}
use Rattle.lf_logs.specs.declared.order.NumberFault.{NumberFault}
use Rattle.lf_logs.specs.declared.order.NumberFault.TheVariants.{Missing, Double, NoMemory}
use Rattle.lf_logs.specs.Places.{record_at, IsNumberFault}
use Rattle.lf_logs.specs.Tallies.{IsTally, AreTallies, AreOnceBelow, IsFirstFault}
use Rattle.lf_logs.proofs.Counting.{counts, missing_at, fine_below}

-- ---- one more record

of_bank_push_own : (bank : ℕ) (seen : List Record) (r : Record) → r.bank ≡ bank →
    of_bank bank (seen ++ r ∷ []) ≡ of_bank bank seen ++ r ∷ []
of_bank_push_own bank seen r e =
    filter-append (names bank) seen (r ∷ [])
    ∙ ap (λ xs. of_bank bank seen ++ xs) (cond-true (eqb r.bank bank) (r ∷ []) [] (eq-eqb r.bank bank e))

of_bank_push_other : (bank : ℕ) (seen : List Record) (r : Record) → (r.bank ≡ bank → ⊥) →
    of_bank bank (seen ++ r ∷ []) ≡ of_bank bank seen
of_bank_push_other bank seen r n =
    filter-append (names bank) seen (r ∷ [])
    ∙ ap (λ xs. of_bank bank seen ++ xs) (cond-false (eqb r.bank bank) (r ∷ []) [] (ne_eqb r.bank bank n))
    ∙ append-nil (of_bank bank seen)

pub times_push : (k : ℕ) (rs : List Record) (r : Record) → times k (numbers_of (rs ++ r ∷ []))
    ≡ times k (numbers_of rs) + counts (eqb r.number k)
times_push k rs r = ap (times k) (map_push (λ r. r.number) rs r)
    ∙ sum_by_push (λ n. counts (eqb n k)) (numbers_of rs) r.number

-- a record of another bank or number is not counted
times_kept : (bank k : ℕ) (seen : List Record) (r : Record) → (r.bank ≡ bank → r.number ≡ k → ⊥) →
    times k (numbers_of (of_bank bank (seen ++ r ∷ []))) ≡ times k (numbers_of (of_bank bank seen))
times_kept bank k seen r other = ⊎_elim
    (λ (own : r.bank ≡ bank).
    let none : counts (eqb r.number k) ≡ 0 = cond-false {A = ℕ} (eqb r.number k) 1 0 (ne_eqb r.number k (other own)) in
    let more = times_push k (of_bank bank seen) r in
    ap (λ xs. times k (numbers_of xs)) (of_bank_push_own bank seen r own) ∙ omega (arith, none, more))
    (λ (n : r.bank ≡ bank → ⊥). ap (λ xs. times k (numbers_of xs)) (of_bank_push_other bank seen r n))
    (cases_eq r.bank bank)

times_more : (bank k : ℕ) (seen : List Record) (r : Record) → r.bank ≡ bank → r.number ≡ k →
    times k (numbers_of (of_bank bank (seen ++ r ∷ []))) ≡ times k (numbers_of (of_bank bank seen)) + 1
times_more bank k seen r own this =
    let one : counts (eqb r.number k) ≡ 1 = cond-true {A = ℕ} (eqb r.number k) 1 0 (eq-eqb r.number k this) in
    let more = times_push k (of_bank bank seen) r in
    ap (λ xs. times k (numbers_of xs)) (of_bank_push_own bank seen r own) ∙ omega (arith, one, more)

IsTally-kept : (logs : List (List Record)) (bank : ℕ) (seen : List Record) (k : ℕ) (tally : Tally) (r : Record) →
    (r.bank ≡ bank → r.number ≡ k → ⊥) → IsTally logs bank seen k tally → IsTally logs bank (seen ++ r ∷ []) k tally
IsTally-kept logs bank seen k tally r other was = record {
  counted = was.counted ∙ sym (times_kept bank k seen r other);
  placed = was.placed;
}

pub AreTallies-kept : (logs : List (List Record)) (bank : ℕ) (seen : List Record) (tallies : List Tally) (r : Record) →
    (r.bank ≡ bank → length tallies ≤ r.number) → AreTallies logs bank seen tallies →
    AreTallies logs bank (seen ++ r ∷ []) tallies
AreTallies-kept logs bank seen tallies r other was k d h =
    IsTally-kept logs bank seen k (get_or tallies k d) r (λ own this. omega (arith, other own)) (was k d h)

pub AreTallies-set : (logs : List (List Record)) (bank : ℕ) (seen : List Record) (tallies : List Tally) (r : Record)
    (place : Place) (old new : Tally) →
    r.bank ≡ bank → r.number < length tallies → old ≡ get_or tallies r.number old → new.times ≡ old.times + 1 →
    new.last ≡ place → record_at logs place ≡ Some r →
    AreTallies logs bank seen tallies → AreTallies logs bank (seen ++ r ∷ []) (set tallies r.number new)
AreTallies-set logs bank seen tallies r place old new own inside read one_more at there was k d h =
    let within : k < length tallies = omega (arith, length-set tallies r.number new) in
    ⊎_elim
    (λ (this : r.number ≡ k).
    let here : get_or (set tallies r.number new) k d ≡ new =
    ap (λ n. get_or (set tallies r.number new) n d) (sym this) ∙ get_or-set_same tallies r.number new d inside in
    let before : old.times ≡ times r.number (numbers_of (of_bank bank seen)) =
    ap (λ (t : Tally). t.times) read ∙ (was r.number old inside).counted in
    let now : new.times ≡ times k (numbers_of (of_bank bank (seen ++ r ∷ []))) =
    one_more ∙ ap (λ n. n + 1) (before ∙ ap (λ n. times n (numbers_of (of_bank bank seen))) this)
    ∙ sym (times_more bank k seen r own this) in
    subst (IsTally logs bank (seen ++ r ∷ []) k) (sym here)
    (record {
      counted = now;
      placed = λ _. record { item = r; there = ap (record_at logs) at ∙ there; of_bank = own; numbered = this };
    }))
    (λ (other : r.number ≡ k → ⊥).
    let same : get_or (set tallies r.number new) k d ≡ get_or tallies k d =
    get_or-set_other tallies r.number k new d (λ e. other (sym e)) in
    subst (IsTally logs bank (seen ++ r ∷ []) k) (sym same)
    (IsTally-kept logs bank seen k (get_or tallies k d) r (λ _ this. other this) (was k d within)))
    (cases_eq r.number k)

-- ---- the records of a log, one after another

-- where the count of one log stands: `now` are the tallies after its records before place `at`
pub record Counted (bank log : ℕ) (rs : List Record) (start now : List Tally) (at : ℕ) : Type 0 where
  pub small : All (λ tally. tally.times ≤ 2 ^ 29 + at) now
  pub counted : (logs : List (List Record)) (seen : List Record) → get_or logs log [] ≡ rs →
      AreTallies logs bank seen start → AreTallies logs bank (seen ++ take at rs) now

pub Counted-start : (bank log : ℕ) (rs : List Record) (start : List Tally) →
    All (λ tally. tally.times ≤ 2 ^ 29) start → Counted bank log rs start start 0
Counted-start bank log rs start low = record {
  small = λ k d h. omega (arith, low k d h);
  counted = λ logs seen is was. subst (λ xs. AreTallies logs bank xs start) (sym (append-nil seen)) was;
}

pub Counted-all : (bank log : ℕ) (rs : List Record) (start now : List Tally) (at : ℕ) →
    Counted bank log rs start now at → length rs ≤ at →
    (logs : List (List Record)) (seen : List Record) → get_or logs log [] ≡ rs → AreTallies logs bank seen start →
    AreTallies logs bank (seen ++ rs) now
Counted-all bank log rs start now at done all logs seen is was =
    subst (λ xs. AreTallies logs bank xs now) (ap (λ xs. seen ++ xs) (take_all at rs all))
    (done.counted logs seen is was)

front_more : (seen rs : List Record) (at : ℕ) (r : Record) → at < length rs → r ≡ get_or rs at r →
    seen ++ take (at + 1) rs ≡ (seen ++ take at rs) ++ r ∷ []
front_more seen rs at r inside read =
    ap (λ xs. seen ++ xs) (take_more rs at r inside ∙ ap (λ x. take at rs ++ x ∷ []) (sym read))
    ∙ sym (append_assoc seen (take at rs) (r ∷ []))

module _ (bank log : ℕ) (rs : List Record) (start now next : List Tally) (at : ℕ) (r : Record)
    (is : slice_get rs at ≡ Some r) (before : Counted bank log rs start now at) where
  inside : at < length rs
  inside = slice_get_within rs at r is

  read : r ≡ get_or rs at r
  read = sym (get_or_from_slice_get rs at r r is)

  -- the record at `at` is left out
  pub Counted-kept : (r.bank ≡ bank → length now ≤ r.number) → next ≡ now → Counted bank log rs start next (at + 1)
  Counted-kept other same = record {
    small = λ k d h.
        let within : k < length now = omega (arith, ap length same) in
        let tally : get_or next k d ≡ get_or now k d = ap (λ ts. get_or ts k d) same in
        omega (arith, ap (λ (t : Tally). t.times) tally, before.small k d within);
    counted = λ logs seen log_is was.
        subst (λ ts. AreTallies logs bank (seen ++ take (at + 1) rs) ts) (sym same)
        (subst (λ xs. AreTallies logs bank xs now) (sym (front_more seen rs at r inside read))
        (AreTallies-kept logs bank (seen ++ take at rs) now r other (before.counted logs seen log_is was)));
  }

  -- it is counted
  pub Counted-set : (d : Tally) (new : Tally) → r.bank ≡ bank → r.number < length now →
      new.times ≡ (get_or now r.number d).times + 1 → new.last.log ≡ log → new.last.at ≡ at →
      next ≡ set now r.number new → Counted bank log rs start next (at + 1)
  Counted-set d new own fits one_more its_log its_at changed = record {
    small = λ k e h.
        let long : length next ≡ length now = ap length changed ∙ length-set now r.number new in
        let within : k < length now = omega arith in
        let tally : get_or next k e ≡ get_or (set now r.number new) k e = ap (λ ts. get_or ts k e) changed in
        let time : (get_or next k e).times ≡ (get_or (set now r.number new) k e).times =
        ap (λ (t : Tally). t.times) tally in
        ⊎_elim
        (λ (this : k ≡ r.number).
        let here : (get_or (set now r.number new) k e).times ≡ new.times =
        ap (λ (t : Tally). t.times) (ap (λ n. get_or (set now r.number new) n e) this
        ∙ get_or-set_same now r.number new e fits) in
        omega (arith, time, here, one_more, before.small r.number d fits))
        (λ (other : k ≡ r.number → ⊥).
        let there : (get_or (set now r.number new) k e).times ≡ (get_or now k e).times =
        ap (λ (t : Tally). t.times) (get_or-set_other now r.number k new e other) in
        omega (arith, time, there, before.small k e within))
        (cases_eq k r.number);
    counted = λ logs seen log_is was.
        let place : Place = record { log = log; at = at } in
        let same : new.last ≡ place = λ i. record { log = its_log i; at = its_at i } in
        let found : record_at logs place ≡ Some r = ap (λ xs. slice_get xs at) log_is ∙ is in
        let old = get_or now r.number d in
        subst (λ ts. AreTallies logs bank (seen ++ take (at + 1) rs) ts) (sym changed)
        (subst (λ xs. AreTallies logs bank xs (set now r.number new)) (sym (front_more seen rs at r inside read))
        (AreTallies-set logs bank (seen ++ take at rs) now r place old new own fits
        (get_or_default now r.number d old fits) one_more same found (before.counted logs seen log_is was)));
  }

  -- the same under the number that was read
  pub Counted-set_at : (d : Tally) (new : Tally) (number : ℕ) → r.number ≡ number → r.bank ≡ bank →
      number < length now → new.times ≡ (get_or now number d).times + 1 → new.last.log ≡ log → new.last.at ≡ at →
      next ≡ set now number new → Counted bank log rs start next (at + 1)
  Counted-set_at d new number numbered own fits one_more its_log its_at changed =
      Counted-set d new own (omega (arith, numbered, fits))
      (one_more ∙ ap (λ n. (get_or now n d).times + 1) (sym numbered)) its_log its_at
      (changed ∙ ap (λ n. set now n new) (sym numbered))

-- ---- how many records of a log name a bank

module _ (bank : ℕ) (rs : List Record) (at : ℕ) (r : Record) (is : slice_get rs at ≡ Some r) where
  front_at : take (at + 1) rs ≡ take at rs ++ r ∷ []
  front_at = take_more rs at r (slice_get_within rs at r is)
      ∙ ap (λ x. take at rs ++ x ∷ []) (get_or_from_slice_get rs at r r is)

  pub one_more_own : r.bank ≡ bank →
      length (of_bank bank (take (at + 1) rs)) ≡ length (of_bank bank (take at rs)) + 1
  one_more_own own = ap (λ xs. length (of_bank bank xs)) front_at
      ∙ ap length (of_bank_push_own bank (take at rs) r own) ∙ length-append (of_bank bank (take at rs)) (r ∷ [])

  pub one_more_other : (r.bank ≡ bank → ⊥) →
      length (of_bank bank (take (at + 1) rs)) ≡ length (of_bank bank (take at rs))
  one_more_other other = ap (λ xs. length (of_bank bank xs)) front_at
      ∙ ap length (of_bank_push_other bank (take at rs) r other)

-- a number occurs in a bank at most as often as the bank has records
pub times-le : (k bank : ℕ) (rs : List Record) → times k (numbers_of (of_bank bank rs)) ≤ length (of_bank bank rs)
times-le k bank rs = omega (
  arith,
  count_by-le-length (λ n. eqb n k) (numbers_of (of_bank bank rs)),
  length-map
      (of_bank bank rs) (λ r. r.number),
)

-- ---- what they tell

module _ (logs : List (List Record)) (bank : ℕ) (tallies : List Tally)
    (long : length tallies ≡ length (of_bank bank (all_records logs)))
    (are : AreTallies logs bank (all_records logs) tallies) where
  as_many : length tallies ≡ length (bank_numbers logs bank)
  as_many = long ∙ sym (length-map (of_bank bank (all_records logs)) (λ r. r.number))

  nothing : Tally
  nothing = record { times = 0; last = record { log = 0; at = 0 } }

  once_from : (n : ℕ) → n ≤ length tallies → AreOnceBelow n tallies → (k : ℕ) → k < n →
      times k (bank_numbers logs bank) ≡ 1
  once_from n fits once k h = sym (are k nothing (omega arith)).counted ∙ once k nothing h

  pub whole_from : AreOnceBelow (length tallies) tallies → IsWhole (bank_numbers logs bank)
  whole_from once k h = once_from (length tallies) (omega arith) once k (omega (arith, as_many))

  pub fault_from : (fault : NumberFault) → IsFirstFault tallies fault → IsNumberFault (bank_numbers logs bank) fault
  fault_from (Missing k) h =
      let once = once_from k (omega (arith, h.0)) h.2 in (
        missing_at (bank_numbers logs bank) k (omega (arith, as_many, h.0)) once
            (sym (are k nothing h.0).counted ∙ h.1 nothing),
        fine_below (bank_numbers logs bank) k once,
      )
  fault_from (Double k) h =
      let once = once_from k (omega (arith, h.0)) h.2 in
      (omega (arith, (are k nothing h.0).counted, h.1 nothing), fine_below (bank_numbers logs bank) k once)
  fault_from NoMemory h = absurd h

  pub no_fault_from : IsWhole (bank_numbers logs bank) → (fault : NumberFault) → IsFirstFault tallies fault → ⊥
  no_fault_from whole (Missing k) h = omega (
    arith,
    whole k (omega (arith, as_many, h.0)),
    (are k nothing h.0).counted,
    h.1 nothing,
  )
  no_fault_from whole (Double k) h = omega (
    arith,
    whole k (omega (arith, as_many, h.0)),
    (are k nothing h.0).counted,
    h.1 nothing,
  )
  no_fault_from whole NoMemory h = h
