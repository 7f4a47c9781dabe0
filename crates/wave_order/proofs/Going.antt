-- The order, while one record after another comes.
use Rattle.std.proofs.Common.{◌≡◌, ℕ, zero, suc, ◌+◌, ◌-◌, ◌^◌, ◌<◌, true, false, ◌==◌, List, [], ◌∷◌, ◌++◌, length}
use Rattle.std.proofs.Common.{filter, map, min, drop, set, get_or, slice_index, slice_set, replicate, refl, sym, ap, ◌∙◌}
use Rattle.std.proofs.Common.{subst, eqb-true, inl, inr, arith, Bool, if◌then◌else◌, add-zero, Option}
use Rattle.std.proofs.lemmas.Bool.{cases_Bool, cond-true, cond-false, eqb-false}
use Rattle.std.proofs.lemmas.List.{get_or-set_same, get_or-set_other, append-nil, append_assoc, length-append}
use Rattle.std.proofs.lemmas.List.{length-set}
use Rattle.std.proofs.lemmas.List.Elements.{filter-append}
use Rattle.lf_rules.specs.declared.event.Record.{Record}
use Rattle.lf_rules.specs.Address.{no_bank}
use Rattle.lf_rules.specs.Order.{log_at}
use Rattle.lf_rules.specs.Ring.{entry_of as pair_of}
use Rattle.lf_rules.specs.Run.{of_log, of_bank, KeepsNumbers}
use Rattle.wave_order.specs.declared.left.Left.{Left}
use Rattle.wave_order.specs.declared.sought.Entry.{Entry}
use Rattle.wave_order.specs.declared.sought.Sought.{Sought}
use Rattle.explain_lines.specs.declared.times.Times.{Times}
use Rattle.wave_order.specs.Left.{queued, begins_due, HasLeft, ComesFirst, IsEarliest}
use Rattle.wave_order.specs.OrderTo.{entry_of, is_due, counts_entry, is_counted, is_entry_sought, NoneMayCome}
use Rattle.wave_order.specs.OrderTo.{IsFirst, NamesFirst, IsOrderTo}
use Rattle.wave_order.specs.Times.{came_of, one_more_of}
use Rattle.wave_order.specs.Ordered.{without_next, in_order, left_by}
use Rattle.wave_order.proofs.Ordered.{either, stops, begins, leaves}
use Rattle.wave_order.proofs.Coming.{Counts, begins_alike, some_begins, of_it, of_another, due_number, keeps_more}
use Rattle.wave_order.proofs.Earliest.{came_more, earliest_first}
use Rattle.wave_order.proofs.Entries.{AreOf, Queue, queue_at, goes}

-- ---- the numbers that come next

module _ (next : List ℕ) (gone : List Record) (counts : Counts next gone) (sized : length next ≡ 256) where
  pub counts_more : (r : Record) → is_due gone r ≡ true → r.bank < 256 →
      Counts (slice_set next r.bank (r.number + 1)) (gone ++ r ∷ [])
  counts_more r due is_bank bank lt =
      elim (cases_Bool (r.bank == bank)) [
        | inl is ↦
            let same : r.bank ≡ bank = eqb-true r.bank bank is in
            let more : length (of_bank bank (gone ++ r ∷ [])) ≡ length (of_bank bank gone) + 1 =
            ap length (of_it bank gone r (sym same)) ∙ length-append (of_bank bank gone) (r ∷ []) in
            let number : r.number ≡ length (of_bank bank gone) =
            due_number gone r due (subst (λ (k : ℕ). k < no_bank) (sym same) lt)
            ∙ ap (λ (k : ℕ). length (of_bank k gone)) same in
            subst (λ (k : ℕ). slice_index (slice_set next k (r.number + 1)) bank
            ≡ length (of_bank bank (gone ++ r ∷ []))) (sym same)
            (get_or-set_same next bank (r.number + 1) 0 (omega (arith, sized, same, is_bank))
            ∙ ap (λ (k : ℕ). k + 1) number ∙ sym more)
        | inr isnt ↦
            get_or-set_other next r.bank bank (r.number + 1) 0 (λ same. eqb-false r.bank bank isnt (sym same))
            ∙ counts bank lt ∙ ap length (sym (of_another bank gone r isnt))
      ]

pub zeros : (n k : ℕ) → slice_index (replicate n 0) k ≡ 0
zeros zero k = refl
zeros (suc n) zero = refl
zeros (suc n) (suc k) = zeros n k

-- ---- a record that comes

entries_alike : (log bank number : ℕ) (r : Record) → r.log ≡ log → r.bank ≡ bank → r.number ≡ number →
    record { log = log; bank = bank; number = number } ≡ entry_of r
entries_alike log bank number r a b c = cc

-- the first record of a log is of the log
first_of_log : (log : ℕ) (records : List Record) (r : Record) (rest : List Record) → of_log log records ≡ r ∷ rest →
    r.log ≡ log
first_of_log log [] r rest some = cc
first_of_log log (x ∷ records) r rest some =
    elim (cases_Bool (x.log == log)) [
      | inl is ↦
          let first : x ∷ of_log log records ≡ r ∷ rest =
          sym (cond-true (x.log == log) (x ∷ of_log log records) (of_log log records) is) ∙ some in
          let same : x ≡ r = cc in
          ap (λ (r : Record). r.log) (sym same) ∙ eqb-true x.log log is
      | inr isnt ↦
          first_of_log log records r rest
          (sym (cond-false (x.log == log) (x ∷ of_log log records) (of_log log records) isnt) ∙ some)
    ]

module _ (left : Left) (gone records : List Record) (has : HasLeft left gone records) where
  -- where none can, none may come
  pub none_may_come : ((log : ℕ) → begins_due left.next (log_at (queued left) log) ≡ false) → NoneMayCome gone records
  none_may_come none log r rest some =
      sym (begins_alike left.next gone has.next (queued left) records has.each log r rest some) ∙ none log

  module _ (at log bank number : ℕ) (same : log ≡ at) (within : at < length left.logs.items)
      (begins : begins_due left.next (log_at (queued left) at) ≡ true)
      (times : Option Times) (earliest : IsEarliest times left at)
      (old queue : Queue) (is : old ≡ get_or left.logs.items at old) (first : old.items ≡ (bank, number) ∷ queue.items)
      (rest : queue.items ≡ drop 1 old.items) (fits : bank < 256) where
    begun : (r : Record) × (rest : List Record) × (of_log at records ≡ r ∷ rest)
    begun = some_begins left.next gone has.next (queued left) records has.each at begins

    item : Record
    item = begun.0

    abbrev named : ℕ × ℕ
    named = (bank, number)

    its_entry : pair_of item ≡ named
    unfolding item begun
    its_entry =
        let entries : pair_of item ∷ map pair_of begun.1 ≡ named ∷ queue.items =
        sym (ap (map pair_of) begun.2) ∙ sym (has.each at) ∙ queue_at left.logs.items at old is within ∙ first in cc

    pub comes_first : (new : Left) → new.logs.items ≡ set left.logs.items at queue →
        new.next ≡ slice_set left.next bank (number + 1) → new.came.0 ≡ one_more_of left.came.0 log →
        ComesFirst times gone records new (record { log = log; bank = bank; number = number })
    unfolding item begun
    comes_first new logs next came =
        let its_bank : item.bank ≡ bank = ap (λ (e : ℕ × ℕ). e.0) its_entry in
        let its_number : item.number ≡ number = ap (λ (e : ℕ × ℕ). e.1) its_entry in
        let due : is_due gone item ≡ true =
        sym (begins_alike left.next gone has.next (queued left) records has.each at item begun.1 begun.2) ∙ begins in
        let its_log : item.log ≡ log = first_of_log at records item begun.1 begun.2 ∙ sym same in
        record {
          item = item;
          rest = begun.1;
          first = ap (λ (k : ℕ). of_log k records) same ∙ begun.2;
          is = entries_alike log bank number item its_log its_bank its_number;
          due = due;
          earliest = subst (IsFirst times gone records) (sym same)
              (earliest_first times left gone records has at within earliest);
          left = record {
            counted = ap length came ∙ length-set left.came.0 log (min (came_of left.came.0 log + 1) (2 ^ 64 - 1))
                ∙ has.counted;
            came = λ k lt.
                ap (λ (counts : List ℕ). came_of counts k) came
                ∙ ap (λ (l : ℕ). came_of (one_more_of left.came.0 l) k) (sym its_log)
                ∙ came_more left.came.0 gone item has.counted has.came k lt;
            few = omega (arith, has.few, ap length logs, length-set left.logs.items at queue);
            sized = ap length next ∙ length-set left.next bank (number + 1) ∙ has.sized;
            each = subst (λ (k : ℕ). AreOf (queued new) (without_next k records)) (sym same)
                (subst (λ (qs : List Queue). AreOf (map (λ q. q.items) qs) (without_next at records)) (sym logs)
                (goes left.logs.items at records old queue is within has.each rest));
            next = subst (λ (ns : List ℕ). Counts ns (gone ++ item ∷ [])) (sym next)
                (subst (λ (b : ℕ). Counts (slice_set left.next b (number + 1)) (gone ++ item ∷ [])) its_bank
                (subst (λ (n : ℕ). Counts (slice_set left.next item.bank (n + 1)) (gone ++ item ∷ [])) its_number
                (counts_more left.next gone has.next has.sized item due
                (subst (λ (b : ℕ). b < 256) (sym its_bank) fits))));
          };
        }

-- ---- the order with one place more

pub taken_more : (order : List ℕ) (records : List Record) (log : ℕ) (r : Record) (rest : List Record) →
    length (in_order order records) ≡ length order → of_log log (left_by order records) ≡ r ∷ rest →
    (in_order (order ++ log ∷ []) records ≡ in_order order records ++ r ∷ [])
    × (left_by (order ++ log ∷ []) records ≡ without_next log (left_by order records))
taken_more [] records log r rest places some =
    (begins log [] records r rest some, leaves log [] records r rest some)
taken_more (first ∷ order) records log r rest places some =
    elim (either (of_log first records)) [
      | inl none ↦
          let short : length (in_order (first ∷ order) records) ≡ 0 = ap length (stops first order records none) in
          absurd (omega (arith, short, places))
      | inr has ↦
          let others = without_next first records in
          let now : in_order (first ∷ order) records ≡ has.0 ∷ in_order order others =
          begins first order records has.0 has.1 has.2 in
          let left : left_by (first ∷ order) records ≡ left_by order others =
          leaves first order records has.0 has.1 has.2 in
          let later = taken_more order others log r rest (omega (arith, places, ap length now))
          (ap (of_log log) (sym left) ∙ some) in (
            begins first (order ++ log ∷ []) records has.0 has.1 has.2
                ∙ ap (λ (l : List Record). has.0 ∷ l) later.0
                ∙ ap (λ (l : List Record). l ++ r ∷ []) (sym now),
            leaves first (order ++ log ∷ []) records has.0 has.1 has.2
                ∙ later.1
                ∙ ap (without_next log) (sym left),
          )
    ]

pub names_more : (times : Option Times) (order : List ℕ) (gone others : List Record) (log : ℕ) →
    length (in_order order others) ≡ length order → NamesFirst times gone others order →
    IsFirst times (gone ++ in_order order others) (left_by order others) log →
    NamesFirst times gone others (order ++ log ∷ [])
names_more times [] gone others log places names none =
    (subst (λ (rs : List Record). IsFirst times rs others log) (append-nil gone) none, tt)
names_more times (first ∷ order) gone others log places names none =
    elim (either (of_log first others)) [
      | inl empty ↦
          let short : length (in_order (first ∷ order) others) ≡ 0 = ap length (stops first order others empty) in
          absurd (omega (arith, short, places))
      | inr has ↦
          let later = without_next first others in
          let now : in_order (first ∷ order) others ≡ has.0 ∷ in_order order later =
          begins first order others has.0 has.1 has.2 in
          let one : in_order (first ∷ []) others ≡ has.0 ∷ [] = begins first [] others has.0 has.1 has.2 in
          let all : gone ++ in_order (first ∷ order) others ≡ (gone ++ in_order (first ∷ []) others)
          ++ in_order order later =
          ap (λ (l : List Record). gone ++ l) (now ∙ ap (λ (l : List Record). l ++ in_order order later) (sym one))
          ∙ sym (append_assoc gone (in_order (first ∷ []) others) (in_order order later)) in (
            names.0,
            names_more times order (gone ++ in_order (first ∷ []) others) later log
                (omega (arith, places, ap length now)) names.1
                (subst (λ (rs : List Record). IsFirst times rs (left_by order later) log) all
                (subst (λ (rs : List Record). IsFirst times (gone ++ in_order (first ∷ order) others) rs log)
                (leaves first order others has.0 has.1 has.2) none)),
          )
    ]

-- ---- the loop

-- Of these records the order took some, and so many of them are of the log in which one is sought.
pub record Going (times : Option Times) (sought : Sought) (now : Left) (order : List ℕ) (count : ℕ)
    (records : List Record) : Type 0 where
  pub places : length (in_order order records) ≡ length order
  pub numbers : KeepsNumbers (in_order order records)
  pub firsts : NamesFirst times [] records order
  pub left : HasLeft now (in_order order records) (left_by order records)
  pub before : count ≡ length (filter (is_counted sought) (in_order order records))

pub going_at_first : (times : Option Times) (sought : Sought) (left : Left) (records : List Record) →
    HasLeft left [] records → Going times sought left [] 0 records
going_at_first times sought left records has = record {
  places = refl;
  numbers = λ bank lt. refl;
  firsts = tt;
  left = has;
  before = refl;
}

module _ (times : Option Times) (sought : Sought) (left new : Left) (order : List ℕ) (before : ℕ)
    (records : List Record) (going : Going times sought left order before records) (e : Entry)
    (comes : ComesFirst times (in_order order records) (left_by order records) new e) where
  abbrev more : List ℕ
  more = order ++ e.log ∷ []

  abbrev drawn : List Record
  drawn = in_order order records

  taken : (in_order more records ≡ drawn ++ comes.item ∷ [])
      × (left_by more records ≡ without_next e.log (left_by order records))
  taken = taken_more order records e.log comes.item comes.rest going.places comes.first

  places_more : length (in_order more records) ≡ length more
  places_more = ap length taken.0 ∙ length-append drawn (comes.item ∷ [])
      ∙ ap (λ (k : ℕ). k + 1) going.places ∙ sym (length-append order (e.log ∷ []))

  numbers_more : KeepsNumbers (in_order more records)
  numbers_more = subst KeepsNumbers (sym taken.0) (keeps_more drawn comes.item comes.due going.numbers)

  firsts_more : NamesFirst times [] records more
  firsts_more = names_more times order [] records e.log going.places going.firsts comes.earliest

  -- the record that came is the one that is sought
  pub ends_here : is_entry_sought sought before e ≡ true → IsOrderTo times sought records more true
  ends_here is = record {
    all_places = places_more;
    numbers = numbers_more;
    firsts = firsts_more;
    ends = record {
      before = drawn;
      last = comes.item;
      all = taken.0;
      is_sought = subst (λ (k : ℕ). is_entry_sought sought k (entry_of comes.item) ≡ true) going.before
          (ap (is_entry_sought sought before) (sym comes.is) ∙ is);
    };
  }

  counted_more : (bool : Bool) → is_counted sought comes.item ≡ bool →
      length (filter (is_counted sought) (drawn ++ comes.item ∷ [])) ≡ before + (if bool then 1 else 0)
  counted_more true is =
      ap length (filter-append (is_counted sought) drawn (comes.item ∷ [])
      ∙ ap (λ (l : List Record). filter (is_counted sought) drawn ++ l)
      (cond-true (is_counted sought comes.item) (comes.item ∷ []) [] is))
      ∙ length-append (filter (is_counted sought) drawn) (comes.item ∷ [])
      ∙ ap (λ (k : ℕ). k + 1) (sym going.before)
  counted_more false is =
      ap length (filter-append (is_counted sought) drawn (comes.item ∷ [])
      ∙ ap (λ (l : List Record). filter (is_counted sought) drawn ++ l)
      (cond-false (is_counted sought comes.item) (comes.item ∷ []) [] is))
      ∙ length-append (filter (is_counted sought) drawn) []
      ∙ ap (λ (k : ℕ). k + 0) (sym going.before)

  -- the order goes on
  goes_on : (now : ℕ) → now ≡ before + (if is_counted sought comes.item then 1 else 0) →
      Going times sought new more now records
  goes_on now is = record {
    places = places_more;
    numbers = numbers_more;
    firsts = firsts_more;
    left = subst (λ (rs : List Record). HasLeft new rs (left_by more records)) (sym taken.0)
        (subst (HasLeft new (drawn ++ comes.item ∷ [])) (sym taken.1) comes.left);
    before = is ∙ sym (counted_more (is_counted sought comes.item) refl)
        ∙ ap (λ (rs : List Record). length (filter (is_counted sought) rs)) (sym taken.0);
  }

  its_count : counts_entry sought e ≡ is_counted sought comes.item
  its_count = ap (counts_entry sought) comes.is

  pub goes_on_in_log : counts_entry sought e ≡ true → Going times sought new more (before + 1) records
  goes_on_in_log is =
      goes_on (before + 1) (ap (λ (b : Bool). before + (if b then 1 else 0)) (sym is ∙ its_count))

  pub goes_on_elsewhere : counts_entry sought e ≡ false → Going times sought new more before records
  goes_on_elsewhere isnt =
      goes_on before (sym (add-zero before)
      ∙ ap (λ (b : Bool). before + (if b then 1 else 0)) (sym isnt ∙ its_count))
