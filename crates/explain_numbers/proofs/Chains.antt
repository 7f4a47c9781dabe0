-- The records that wait in a ring come after one another.
use Rattle.std.proofs.Common.{◌≡◌, ℕ, zero, suc, ◌+◌, ◌-◌, ◌%◌, ◌<◌, ◌≤◌, Bool, true, false, cond, if◌then◌else◌}
use Rattle.std.proofs.Common.{◌==◌, ◌&&◌, List, [], ◌∷◌, length, map, filter, drop}
use Rattle.std.proofs.Common.{Option, Some, refl, sym, ap, ◌∙◌, subst, inl, inr, arith, eq-eqb}
use Rattle.std.specs.Prelude.{slice_get, slice_index_or}
use Rattle.std.proofs.Math.ListN.{get_or-eq_default}
use Rattle.std.proofs.lemmas.Bool.{and_parts, eqb-true, cases_lt}
use Rattle.std.proofs.lemmas.List.{get_or-map, length-map}
use Rattle.std.proofs.lemmas.List.FromFn.{length-map-range_with_len, get_or-map-range_with_len}
use Rattle.std.proofs.lemmas.Option.{none-some, same_Some, slice_get_within, get_or_from_slice_get, slice_get-get_or}
use Rattle.lf_rules.specs.declared.event.Record.{Record}
use Rattle.lf_rules.specs.declared.ring.Knot.{Knot}
use Rattle.lf_rules.specs.Run.{of_log}
use Rattle.lf_rules.specs.Ring.{entry_of, entry_at, skeletons_of, knot_at, IsRing}
use Rattle.lf_logs.specs.Lists.{logs_of}
use Rattle.explain_history.specs.Places.{places_from, places_of_log}
use Rattle.explain_numbers.specs.declared.cycle.Wait.{Wait}
use Rattle.explain_numbers.specs.Numbered.{IsLeast}
use Rattle.explain_numbers.specs.Cycle.{place_of_knot, stands_in, numbers_in, has_number_in, IsLeastFrom, IsLeastBehind}
use Rattle.explain_numbers.specs.Cycle.{IsWaitedFor, AreWaits}
use Rattle.explain_numbers.specs.Cycle.{wait_at, IsLink, IsChain}

-- ---- what stands at places

-- The record stands at this place, where the first of the records stands at the base, and the test holds for it.
record IsFoundAt (holds : Record → Bool) (base : ℕ) (rs : List Record) (place : ℕ) : Type 0 where
  at : ℕ
  item : Record
  is_place : place ≡ base + at
  here : slice_get rs at ≡ Some item
  holding : holds item ≡ true

found_step : (holds : Record → Bool) (base : ℕ) (x : Record) (rs : List Record) (i place : ℕ) (b : Bool) → holds x ≡ b
    → ((k : ℕ) → slice_get (places_from holds (suc base) rs) k ≡ Some place → IsFoundAt holds (suc base) rs place)
    → slice_get (if b then base ∷ places_from holds (suc base) rs else places_from holds (suc base) rs) i ≡ Some place
    → IsFoundAt holds base (x ∷ rs) place
found_step holds base x rs zero place true is later e =
    record { at = 0; item = x; is_place = sym (same_Some base place e) ∙ omega arith; here = refl; holding = is }
found_step holds base x rs (suc i) place true is later e =
    let found = later i e in
    record {
      at = suc found.at;
      item = found.item;
      is_place = found.is_place ∙ omega arith;
      here =
          found.here;
      holding = found.holding;
    }
found_step holds base x rs i place false is later e =
    let found = later i e in
    record {
      at = suc found.at;
      item = found.item;
      is_place = found.is_place ∙ omega arith;
      here =
          found.here;
      holding = found.holding;
    }

found_at : (holds : Record → Bool) (base : ℕ) (rs : List Record) (i place : ℕ) →
    slice_get (places_from holds base rs) i ≡ Some place
    → IsFoundAt holds base rs place
found_at holds base [] i place e = absurd (none-some place e)
found_at holds base (x ∷ rs) i place e = found_step holds base x rs i place (holds x) refl
    (λ k h. found_at holds (suc base) rs k place h) e

-- Places rise.
rises_step : (holds : Record → Bool) (base : ℕ) (rs : List Record) (i j p q : ℕ) (b : Bool)
    → ((i j p q : ℕ) → slice_get (places_from holds (suc base) rs) i ≡ Some p →
    slice_get (places_from holds (suc base) rs) j ≡ Some q → i < j → p < q)
    → slice_get (if b then base ∷ places_from holds (suc base) rs else places_from holds (suc base) rs) i ≡ Some p
    → slice_get (if b then base ∷ places_from holds (suc base) rs else places_from holds (suc base) rs) j ≡ Some q →
    i < j → p < q
rises_step holds base rs i zero p q true later e f lt = absurd (omega arith)
rises_step holds base rs zero (suc j) p q true later e f lt =
    let found = found_at holds (suc base) rs j q f in
    omega (arith, same_Some base p e, found.is_place)
rises_step holds base rs (suc i) (suc j) p q true later e f lt = later i j p q e f (omega arith)
rises_step holds base rs i j p q false later e f lt = later i j p q e f lt

rises : (holds : Record → Bool) (base : ℕ) (rs : List Record) (i j p q : ℕ) →
    slice_get (places_from holds base rs) i ≡ Some p
    → slice_get (places_from holds base rs) j ≡ Some q → i < j → p < q
rises holds base [] i j p q e f lt = absurd (none-some p e)
rises holds base (x ∷ rs) i j p q e f lt = rises_step holds base rs i j p q (holds x) (rises holds (suc base) rs) e f lt

-- The test holds for the record at this place of the list, and it is the i-th such.
record IsKept {Y : Type 0} (f : Record → Y) (holds : Record → Bool) (base : ℕ) (rs : List Record) (i : ℕ) (y : Y) :
    Type 0 where
  at : ℕ
  item : Record
  is_place : slice_get (places_from holds base rs) i ≡ Some (base + at)
  here : slice_get rs at ≡ Some item
  holding : holds item ≡ true
  is_value : f item ≡ y

kept_step : {Y : Type 0} (f : Record → Y) (holds : Record → Bool) (base : ℕ) (x : Record) (rs : List Record) (i : ℕ)
    (y : Y) (b : Bool) → holds x ≡ b
    → ((k : ℕ) → slice_get (map f (filter holds rs)) k ≡ Some y → IsKept f holds (suc base) rs k y)
    → slice_get (map f (cond b (x ∷ filter holds rs) (filter holds rs))) i ≡ Some y → IsKept f holds base (x ∷ rs) i y
kept_step f holds base x rs zero y true is later e =
    let first : base ≡ base + 0 = omega arith in
    record {
      at = 0;
      item = x;
      is_place = ap (λ (c : Bool). slice_get (if c then base
          ∷ places_from holds (suc base) rs else places_from holds (suc base) rs) 0) is
          ∙ ap (λ (n : ℕ). Some n) first;
      here = refl;
      holding = is;
      is_value = same_Some (f x) y e;
    }
kept_step f holds base x rs (suc i) y true is later e =
    let kept = later i e in
    let same : suc base + kept.at ≡ base + suc kept.at = omega arith in
    record {
      at = suc kept.at;
      item = kept.item;
      is_place = ap (λ (c : Bool). slice_get (if c then base
          ∷ places_from holds (suc base) rs else places_from holds (suc base) rs) (suc i)) is
          ∙ kept.is_place ∙ ap (λ (n : ℕ). Some n) same;
      here = kept.here;
      holding = kept.holding;
      is_value = kept.is_value;
    }
kept_step f holds base x rs i y false is later e =
    let kept = later i e in
    let same : suc base + kept.at ≡ base + suc kept.at = omega arith in
    record {
      at = suc kept.at;
      item = kept.item;
      is_place = ap (λ (c : Bool). slice_get (if c then base
          ∷ places_from holds (suc base) rs else places_from holds (suc base) rs) i) is
          ∙ kept.is_place ∙ ap (λ (n : ℕ). Some n) same;
      here = kept.here;
      holding = kept.holding;
      is_value = kept.is_value;
    }

kept_at : {Y : Type 0} (f : Record → Y) (holds : Record → Bool) (base : ℕ) (rs : List Record) (i : ℕ) (y : Y)
    → slice_get (map f (filter holds rs)) i ≡ Some y → IsKept f holds base rs i y
kept_at f holds base [] i y e = absurd (none-some y e)
kept_at f holds base (x ∷ rs) i y e = kept_step f holds base x rs i y (holds x) refl
    (λ k h. kept_at f holds (suc base) rs k y h) e

-- A record for which the test holds is among those that are kept, and there is a first.
listed_step : {Y : Type 0} (f : Record → Y) (holds : Record → Bool) (x : Record) (rs : List Record) (n : ℕ)
    (r : Record) (b : Bool) → holds x ≡ b
    → slice_get (x ∷ rs) n ≡ Some r → holds r ≡ true
    → ((m : ℕ) → slice_get rs m ≡ Some r → (k : ℕ) × (slice_get (map f (filter holds rs)) k ≡ Some (f r)))
    → (k : ℕ) × (slice_get (map f (cond b (x ∷ filter holds rs) (filter holds rs))) k ≡ Some (f r))
listed_step f holds x rs zero r true is e h later = (0, ap (λ (z : Record). Some (f z)) (same_Some x r e))
listed_step f holds x rs (suc n) r true is e h later = let found = later n e in (suc found.0, found.1)
listed_step f holds x rs zero r false is e h later =
    let no : false ≡ true = sym is ∙ ap holds (same_Some x r e) ∙ h in
    let never : ⊥ = cc in
    absurd never
listed_step f holds x rs (suc n) r false is e h later = later n e

listed : {Y : Type 0} (f : Record → Y) (holds : Record → Bool) (rs : List Record) (n : ℕ) (r : Record) →
    slice_get rs n ≡ Some r → holds r ≡ true
    → (k : ℕ) × (slice_get (map f (filter holds rs)) k ≡ Some (f r))
listed f holds [] n r e h = absurd (none-some r e)
listed f holds (x ∷ rs) n r e h = listed_step f holds x rs n r (holds x) refl e h (λ m d. listed f holds rs m r d h)

first_step : (holds : Record → Bool) (base : ℕ) (x : Record) (rs : List Record) (n : ℕ) (r : Record) (b : Bool) →
    holds x ≡ b
    → slice_get (x ∷ rs) n ≡ Some r → holds r ≡ true
    → ((m : ℕ) → slice_get rs m ≡ Some r → (p : ℕ) × (slice_get (places_from holds (suc base) rs) 0 ≡ Some p))
    → (p : ℕ) × (slice_get (if b then base ∷ places_from holds (suc base) rs else places_from holds (suc base) rs) 0
    ≡ Some p)
first_step holds base x rs n r true is e h later = (base, refl)
first_step holds base x rs zero r false is e h later =
    let no : false ≡ true = sym is ∙ ap holds (same_Some x r e) ∙ h in
    let never : ⊥ = cc in
    absurd never
first_step holds base x rs (suc n) r false is e h later = later n e

first_there : (holds : Record → Bool) (base : ℕ) (rs : List Record) (n : ℕ) (r : Record) → slice_get rs n ≡ Some r →
    holds r ≡ true
    → (p : ℕ) × (slice_get (places_from holds base rs) 0 ≡ Some p)
first_there holds base [] n r e h = absurd (none-some r e)
first_there holds base (x ∷ rs) n r e h = first_step holds base x rs n r (holds x) refl e h
    (λ m d. first_there holds (suc base) rs m r d h)

get_drop : (from k : ℕ) (rs : List Record) → slice_get (drop from rs) k ≡ slice_get rs (from + k)
get_drop zero k rs = let same : k ≡ 0 + k = omega arith in ap (slice_get rs) same
get_drop (suc from) k [] = refl
get_drop (suc from) k (x ∷ rs) =
    let same : suc (from + k) ≡ suc from + k = omega arith in
    get_drop from k rs ∙ ap (slice_get (x ∷ rs)) same

and_both : (a b : Bool) → a ≡ true → b ≡ true → (a && b) ≡ true
and_both a b p q = ap (λ (c : Bool). c && b) p ∙ q

-- ---- the records of knots

-- The record at this place of the trace is that at a place of the log, and has the entry.
record IsEntry (rs : List Record) (log at : ℕ) (entry : ℕ × ℕ) : Type 0 where
  place : ℕ
  item : Record
  is_place : slice_get (places_of_log log rs) at ≡ Some place
  there : slice_get rs place ≡ Some item
  in_log : item.log ≡ log
  is_entry : entry_of item ≡ entry

entry_is_get : (entries : List (ℕ × ℕ)) (n : ℕ) → entry_at entries n ≡ slice_get entries n
entry_is_get [] n = refl
entry_is_get (entry ∷ entries) zero = refl
entry_is_get (entry ∷ entries) (suc n) = entry_is_get entries n

entry_kept : (rs : List Record) (log at : ℕ) (entry : ℕ × ℕ) →
    IsKept entry_of (λ (r : Record). r.log == log) 0 rs at entry → IsEntry rs log at entry
entry_kept rs log at entry kept =
    let same : 0 + kept.at ≡ kept.at = omega arith in
    record {
      place = kept.at;
      item = kept.item;
      is_place = kept.is_place ∙ ap (λ (n : ℕ). Some n) same;
      there = kept.here;
      in_log = eqb-true kept.item.log log kept.holding;
      is_entry = kept.is_value;
    }

logs_len : (count : ℕ) (rs : List Record) → length (skeletons_of (logs_of count rs)) ≡ count
logs_len count rs = length-map (logs_of count rs) (map entry_of)
    ∙ length-map-range_with_len (λ (l : ℕ). of_log l rs) 0 count

log_entries : (count log : ℕ) (rs : List Record) → log < count →
    slice_index_or (skeletons_of (logs_of count rs)) log [] ≡ map entry_of (of_log log rs)
log_entries count log rs lt =
    get_or-map (map entry_of) (logs_of count rs) log [] [] (omega
    (arith, length-map-range_with_len (λ (l : ℕ). of_log l rs) 0 count))
    ∙ ap (map entry_of) (get_or-map-range_with_len (λ (l : ℕ). of_log l rs) 0 count log log [] lt (omega arith))

knot_entry : (count log : ℕ) (rs : List Record) (at : ℕ) (entry : ℕ × ℕ) →
    entry_at (slice_index_or (skeletons_of (logs_of count rs)) log []) at ≡ Some entry
    → IsEntry rs log at entry
knot_entry count log rs at entry e =
    elim (cases_lt log count) as (λ _. IsEntry rs log at entry) [
      | inl lt ↦ entry_kept rs log at entry (kept_at entry_of (λ (r : Record). r.log == log) 0 rs at entry
          (sym (entry_is_get (map entry_of (of_log log rs)) at)
          ∙ ap (λ (es : List (ℕ × ℕ)). entry_at es at) (sym (log_entries count log rs lt)) ∙ e))
      | inr le ↦
          let past : slice_index_or (skeletons_of (logs_of count rs)) log [] ≡ [] =
          get_or-eq_default (skeletons_of (logs_of count rs)) [] {n = log} (omega (arith, logs_len count rs)) in
          absurd (none-some entry (sym (ap (λ (es : List (ℕ × ℕ)). entry_at es at) past) ∙ e))
    ]

-- ---- the record that is waited for

-- The record with the least number is there, and its number is not above that of this record.
record IsLeastFound (rs : List Record) (log bank from : ℕ) (item : Record) (earlier : Option ℕ) : Type 0 where
  place : ℕ
  found : Record
  is : earlier ≡ Some place
  behind : from ≤ place
  there : slice_get rs place ≡ Some found
  in_log : found.log ≡ log
  of_bank : found.bank ≡ bank
  smallest : found.number ≤ item.number

least_below : (numbers : List ℕ) (least k m : ℕ) → IsLeast least numbers → slice_get numbers k ≡ Some m → least ≤ m
least_below numbers least k m is e = omega (
  arith,
  is.bound k 0 (slice_get_within numbers k m e),
  get_or_from_slice_get numbers k m 0 e,
)

least_chosen : (rs : List Record) (log bank from k : ℕ) (item : Record) (earlier : Option ℕ) (least : ℕ) →
    slice_get (drop from rs) k ≡ Some item
    → stands_in log bank item ≡ true → IsLeast least (numbers_in log bank (drop from rs))
    → earlier ≡ slice_get (places_from (has_number_in log bank least) from (drop from rs)) 0 →
    IsLeastFound rs log bank from item earlier
least_chosen rs log bank from k item earlier least e stands is_least chosen =
    let rest = drop from rs in
    let numbers = numbers_in log bank rest in
    let (j, lt, same) = is_least.there in
    let here : slice_get numbers j ≡ Some least = slice_get-get_or numbers j least lt ∙ ap (λ (n : ℕ). Some n) same in
    let kept = kept_at {Y = ℕ} (λ (r : Record). r.number) (stands_in log bank) 0 rest j least here in
    let has : has_number_in log bank least kept.item ≡ true =
    and_both (stands_in log bank kept.item) (kept.item.number == least) kept.holding
    (eq-eqb kept.item.number least kept.is_value) in
    let first = first_there (has_number_in log bank least) from rest kept.at kept.item kept.here has in
    let found = found_at (has_number_in log bank least) from rest 0 first.0 first.1 in
    let parts = and_parts (stands_in log bank found.item) (found.item.number == least) found.holding in
    let places = and_parts (found.item.log == log) (found.item.bank == bank) parts.0 in
    let of_item = listed {Y = ℕ} (λ (r : Record). r.number) (stands_in log bank) rest k item e stands in
    let most : least ≤ item.number = least_below numbers least of_item.0 item.number is_least of_item.1 in
    let number : found.item.number ≡ least = eqb-true found.item.number least parts.1 in
    record {
      place = first.0;
      found = found.item;
      is = chosen ∙ first.1;
      behind = omega (arith, found.is_place);
      there = ap (slice_get rs) found.is_place ∙ sym (get_drop from found.at rs) ∙ found.here;
      in_log = eqb-true found.item.log log places.0;
      of_bank = eqb-true found.item.bank bank places.1;
      smallest = omega (arith, most, number);
    }

least_found : (rs : List Record) (log bank from k : ℕ) (item : Record) (earlier : Option ℕ) →
    slice_get (drop from rs) k ≡ Some item
    → stands_in log bank item ≡ true → IsLeastFrom rs log bank from earlier → IsLeastFound rs log bank from item earlier
least_found rs log bank from k item earlier e stands (inl (none, gone)) =
    let of_item = listed {Y = ℕ} (λ (r : Record). r.number) (stands_in log bank) (drop from rs) k item e stands in
    absurd (none-some item.number (sym (ap (λ (ns : List ℕ). slice_get ns of_item.0) none) ∙ of_item.1))
least_found rs log bank from k item earlier e stands (inr (least, is_least, chosen)) =
    least_chosen rs log bank from k item earlier least e stands is_least chosen

-- ---- the chain

waited : (rs : List Record) (a b : Option ℕ) (waiting next : ℕ) (one other : Record) (earlier : Option ℕ) →
    a ≡ Some waiting → b ≡ Some next
    → slice_get rs waiting ≡ Some one → slice_get rs next ≡ Some other → IsWaitedFor rs a b earlier
    → IsLeastFrom rs other.log one.bank (next + 1) earlier
waited rs a b waiting next one other earlier is_a is_b there_a there_b w =
    subst (λ (o : Option Record). IsLeastBehind rs (Some one) (Some next) o earlier) there_b
    (subst (λ (o : Option Record). IsLeastBehind rs o (Some next) (slice_get rs next) earlier) there_a
    (subst (λ (o : Option ℕ). IsWaitedFor rs (Some waiting) o earlier) is_b
    (subst (λ (o : Option ℕ). IsWaitedFor rs o b earlier) is_a w)))

link_of : (rs : List Record) (log at : ℕ) (wait next : Wait) (waiting later earlier : ℕ × ℕ) (one_log one_at place : ℕ)
    → IsEntry rs one_log one_at waiting → IsEntry rs log at later → IsEntry rs log place earlier → at < place
    → waiting.0 < 255 → earlier.0 ≡ waiting.0 → earlier.1 < waiting.1
    → wait.waiting ≡ slice_get (places_of_log one_log rs) one_at → next.waiting ≡ slice_get (places_of_log log rs) at
    → IsWaitedFor rs (slice_get (places_of_log one_log rs) one_at) (slice_get (places_of_log log rs) at) wait.earlier
    → IsLink rs wait next
link_of rs log at wait next waiting later earlier one_log one_at place one other held behind is_bank same_bank smaller
    is_waiting is_next w =
    let from = other.place + 1 in
    let k = held.place - from in
    let rise : other.place < held.place = rises (λ (r : Record). r.log == log) 0 rs at place other.place held.place
    other.is_place held.is_place behind in
    let back : from + k ≡ held.place = omega arith in
    let bank : held.item.bank ≡ one.item.bank =
    ap (λ (e : ℕ × ℕ). e.0) held.is_entry ∙ same_bank ∙ sym (ap (λ (e : ℕ × ℕ). e.0) one.is_entry) in
    let stands : stands_in other.item.log one.item.bank held.item ≡ true =
    and_both (held.item.log == other.item.log) (held.item.bank == one.item.bank)
    (eq-eqb held.item.log other.item.log (held.in_log ∙ sym other.in_log))
    (eq-eqb held.item.bank one.item.bank bank) in
    let least = least_found rs other.item.log one.item.bank from k held.item wait.earlier
    (get_drop from k rs ∙ ap (slice_get rs) back ∙ held.there) stands
    (waited rs (slice_get (places_of_log one_log rs) one_at) (slice_get (places_of_log log rs) at) one.place
    other.place one.item other.item wait.earlier
    one.is_place other.is_place one.there other.there w) in
    let held_number : held.item.number ≡ earlier.1 = ap (λ (e : ℕ × ℕ). e.1) held.is_entry in
    let one_number : one.item.number ≡ waiting.1 = ap (λ (e : ℕ × ℕ). e.1) one.is_entry in
    let one_bank : one.item.bank ≡ waiting.0 = ap (λ (e : ℕ × ℕ). e.0) one.is_entry in
    record {
      waiting = one.place;
      earlier = least.place;
      following = other.place;
      waiting_is = is_waiting ∙ one.is_place;
      earlier_is = least.is;
      following_is = is_next ∙ other.is_place;
      by_number = record {
        one = one.item;
        other = least.found;
        later_is = one.there;
        earlier_is = least.there;
        is_bank = omega (arith, one_bank, is_bank);
        same_bank = least.of_bank;
        smaller = omega (arith, least.smallest, held_number, one_number, smaller);
      };
      by_log = record {
        one = least.found;
        other = other.item;
        later_is = least.there;
        earlier_is = other.there;
        same_log = sym least.in_log;
        before = omega (arith, least.behind);
      };
    }

pub waits_chain : (count : ℕ) (rs : List Record) (ring : List Knot) (waits : List Wait) →
    IsRing (skeletons_of (logs_of count rs)) ring → AreWaits rs ring waits
    → IsChain rs waits
waits_chain count rs ring waits around are = record {
  some_wait = omega (arith, are.len, around.some_knot);
  links = λ j lt.
      let within : j < length ring = omega (arith, are.len) in
      let j' = (j + 1) % length ring in
      let some = around.some_knot in
      let next_within : (j + 1) % length ring < length ring = omega arith in
      let one = around.waits j within in
      let other = around.waits j' next_within in
      let knot = knot_at ring j in
      let next = knot_at ring j' in
      let is_next : (wait_at waits ((j + 1) % length waits)).waiting ≡ place_of_knot rs next =
      ap (λ (n : ℕ). (wait_at waits ((j + 1) % n)).waiting) are.len ∙ are.waiting j' next_within in
      link_of rs next.log next.at (wait_at waits j) (wait_at waits ((j + 1) % length waits)) one.waiting other.waiting
      one.earlier knot.log knot.at one.place
      (knot_entry count knot.log rs knot.at one.waiting one.named)
      (knot_entry count next.log rs next.at other.waiting other.named)
      (knot_entry count next.log rs one.place one.earlier one.there) one.behind one.is_bank one.same_bank one.smaller
      (are.waiting j within) is_next
      (are.earlier j within);
}
