-- What broke first is one, and stays so whatever bytes follow.
use Rattle.std.proofs.Common.{◌≡◌, ◌⊎◌, ℕ, ◌+◌, ◌≤◌, List, [], ◌∷◌, ◌++◌, length, Option, Some, None, Bool}
use Rattle.std.proofs.Common.{true, false, refl, sym, ap, ◌∙◌, subst, append_assoc, inl, inr, ⊎_elim, arith}
use Rattle.std.proofs.Common.{if◌then◌else◌}
use Rattle.std.specs.Prelude.{◌==◌, cond}
use Rattle.std.proofs.lemmas.List.{map-append}
use Rattle.std.proofs.lemmas.List.Elements.{filter-append}
use Rattle.std.proofs.lemmas.List.Sums.{sum_by-append}
use Rattle.lf_rules.specs.declared.shape.Shape.{Shape}
use Rattle.lf_rules.specs.declared.event.Record.{Record}
use Rattle.lf_rules.specs.Address.{FlatMemory, flat_memory}
use Rattle.lf_rules.specs.Fits.{Bytes}
use Rattle.lf_rules.specs.Numbers.{numbers_of, times, IsDouble}
use Rattle.lf_rules.specs.Outcomes.{first_local}
use Rattle.lf_rules.specs.Run.{of_log, of_bank, names, BreaksAt}
use Rattle.lf_rules.specs.Table.{OfPort}
use Rattle.lf_logs.specs.Reordering.{first_with}
use Rattle.lf_codec.specs.declared.header.Header.{Header}
use Rattle.lf_codec.specs.Laws.{HeaderIsOfItsBytes, FaultsStand, WhatIsReadFits, AreBytes}
use Rattle.lf_codec.specs.Reading.{Reading, reading_of, read_on}
use Rattle.lf_codec.proofs.Pieces.{has_read_on}
use Rattle.lf_verdict.specs.declared.answer.HeaderField.{HeaderField}
use Rattle.lf_verdict.specs.declared.session.breaking.Broken.{Broken}
use Rattle.lf_verdict.specs.declared.session.breaking.Broken.TheVariants as broken
use Rattle.lf_verdict.specs.declared.session.breaking.PartFault.{PartFault}
use Rattle.lf_verdict.specs.declared.session.breaking.PartFault.TheVariants.{Double, Port, Bank}
use Rattle.lf_verdict.specs.declared.session.breaking.Upon.{Upon}
use Rattle.lf_verdict.specs.Breaking.{first_offset, AreFirst, IsFaultOfPart, IsNamedFault, NoneBroke, IsPlaceOf}
use Rattle.lf_verdict.specs.Breaking.{IsFirstBreak}
use Rattle.lf_verdict.specs.Final.{IsFirstOf, IsEarliest, OneIsEarliest, NoneBreaksBehind}
use Rattle.lf_verdict.specs.Named.{NoneBrokeSoFar}
use Rattle.lf_verdict.specs.Outcome.{Differs}
use Rattle.lf_verdict.proofs.Breaks.{breaks_more, get_below}
use Rattle.lf_verdict.proofs.Finals.{agrees_or_differs, one_field, few_more, nothing, has}
use Rattle.lf_verdict.proofs.Named.{same_header, one_named}
use Rattle.lf_verdict.proofs.Sessions.{header_stays}

-- ---- a fault of a part stands whatever records follow

times_more : (k : ℕ) (rs more : List Record) → times k (numbers_of rs) ≤ times k (numbers_of (rs ++ more))
times_more k rs more =
    let joined : times k (numbers_of (rs ++ more)) ≡ times k (numbers_of rs) + times k (numbers_of more) =
    ap (times k) (map-append (λ (r : Record). r.number) rs more)
    ∙ sum_by-append (λ n. cond (n == k) 1 0) (numbers_of rs) (numbers_of more) in
    omega (arith, joined)

first_step : (b : Bool) (x : Record) (one two : Option Record) (r : Record) → (one ≡ Some r → two ≡ Some r)
    → (if b then Some x else one) ≡ Some r → (if b then Some x else two) ≡ Some r
first_step true x one two r more is = is
first_step false x one two r more is = more is

first_more : (k : ℕ) (rs more : List Record) (r : Record) → first_with k rs ≡ Some r
    → first_with k (rs ++ more) ≡ Some r
first_more k [] more r is = absurd (cc)
first_more k (x ∷ rs) more r is =
    first_step (x.number == k) x (first_with k rs) (first_with k (rs ++ more)) r (first_more k rs more r) is

are_first_more : (came more gave : List Record) → AreFirst came gave → AreFirst (came ++ more) gave
are_first_more came more gave first k lt =
    let at = get_below gave k lt in
    at.1 ∙ sym (first_more k came more at.0 (sym (first k lt) ∙ at.1))

module _ (shape : Shape) (memory : FlatMemory) (rs more : List Record) where
  fault_more : (fault : PartFault) → IsFaultOfPart shape memory rs fault → IsFaultOfPart shape memory (rs ++ more) fault
  fault_more (Double bank k) is = (
    is.0,
    subst (λ (xs : List Record). IsDouble (numbers_of xs) k) (sym (filter-append (names bank) rs more))
        (omega (arith, is.1, times_more k (of_bank bank rs) (of_bank bank more))),
  )
  fault_more (Port port at rule) is = (
    is.0,
    subst (λ (xs : List Record). BreaksAt OfPort shape (first_local memory) xs at rule)
        (sym (filter-append (λ r. r.log == port) rs more))
        (breaks_more OfPort shape (first_local memory) (of_log port rs) (of_log port more) at rule is.1),
  )
  fault_more (Bank bank number rule) is = record {
    is_bank = is.is_bank;
    gave = is.gave;
    first = subst (λ (xs : List Record). AreFirst xs is.gave) (sym (filter-append (names bank) rs more))
        (are_first_more (of_bank bank rs) (of_bank bank more) is.gave is.first);
    breaks = is.breaks;
  }

-- ---- where something broke first, something broke

pub earliest_broke : (shape : Shape) (bytes : List ℕ) (found : Broken) → IsEarliest shape bytes found →
    NoneBrokeSoFar shape bytes → ⊥
earliest_broke shape bytes (broken.Header field) is none =
    agrees_or_differs shape is.header field (none.header is.header is.read) is.differs
earliest_broke shape bytes (broken.Part fault None) is none = is
earliest_broke shape bytes (broken.Part fault (Some upon)) is none =
    let begins = is.begins in
    let first = is.first in
    let upto = first.before ++ first.item ∷ [] in
    let behind = first.after ++ begins.rest in
    let all : (reading_of bytes).records ≡ upto ++ behind =
    begins.records_are ∙ ap (λ (rs : List Record). rs ++ begins.rest)
    (first.are ∙ sym (append_assoc first.before (first.item ∷ []) first.after))
    ∙ append_assoc upto first.after begins.rest in
    let stands : IsFaultOfPart shape (flat_memory is.memory) (upto ++ behind) fault =
    fault_more shape (flat_memory is.memory) upto behind fault first.broke.is in
    none.parts (record {
      header = begins.header;
      read = begins.read;
      agrees = begins.agrees;
      whole = ap length begins.memory_is ∙ begins.whole;
    }) fault
    (subst (λ (rs : List Record). IsFaultOfPart shape (flat_memory (reading_of bytes).memory) rs fault) (sym all)
    (subst (λ (m : List (ℕ × Bytes)). IsFaultOfPart shape (flat_memory m) (upto ++ behind) fault)
    (sym begins.memory_is) stands))

-- ---- the first record upon which a part broke is one

-- Where two lists begin one list, each with an element behind it, they are the same, or one and its element begin the
-- other.
abbrev BeginsIn : List Record → Record → List Record → Type 0
BeginsIn xs x ys = (zs : List Record) × (ys ≡ (xs ++ x ∷ []) ++ zs)

behind_one : (r : Record) (xs : List Record) (x : Record) (ys : List Record) → BeginsIn xs x ys →
    BeginsIn (r ∷ xs) x (r ∷ ys)
behind_one r xs x ys is = (is.0, ap (λ (rs : List Record). r ∷ rs) is.1)

same_front : (x y : Record) (us vs : List Record) → x ∷ us ≡ y ∷ vs → (x ≡ y) × (us ≡ vs)
same_front x y us vs e = (ap first e, ap rest e)
  where
    first : List Record → Record
    first [] = x
    first (r ∷ rs) = r

    rest : List Record → List Record
    rest [] = us
    rest (r ∷ rs) = rs

compared : (xs ys : List Record) (x y : Record) (us vs : List Record) → xs ++ x ∷ us ≡ ys ++ y ∷ vs →
    ((xs ≡ ys) × (x ≡ y)) ⊎ (BeginsIn xs x ys ⊎ BeginsIn ys y xs)
compared [] [] x y us vs e = inl (refl, (same_front x y us vs e).0)
compared [] (r ∷ ys) x y us vs e =
    inr (inl (ys, ap (λ (q : Record). q ∷ ys) (sym (same_front x r us (ys ++ y ∷ vs) e).0)))
compared (r ∷ xs) [] x y us vs e =
    inr (inr (xs, ap (λ (q : Record). q ∷ xs) (same_front r y (xs ++ x ∷ us) vs e).0))
compared (r ∷ xs) (q ∷ ys) x y us vs e =
    let front = same_front r q (xs ++ x ∷ us) (ys ++ y ∷ vs) e in
    ⊎_elim
    (λ (same : (xs ≡ ys) × (x ≡ y)).
    inl (ap (λ (rs : List Record). r ∷ rs) same.0 ∙ ap (λ (p : Record). p ∷ ys) front.0, same.1))
    (λ (other : BeginsIn xs x ys ⊎ BeginsIn ys y xs). ⊎_elim
    (λ (longer : BeginsIn xs x ys).
    inr (inl (subst (λ (p : Record). BeginsIn (r ∷ xs) x (p ∷ ys)) front.0 (behind_one r xs x ys longer))))
    (λ (shorter : BeginsIn ys y xs).
    inr (inr (subst (λ (p : Record). BeginsIn (q ∷ ys) y (p ∷ xs)) (sym front.0) (behind_one q ys y xs shorter))))
    other)
    (compared xs ys x y us vs front.1)

module _ (start : ℕ) (shape : Shape) (memory : FlatMemory) where
  one_place : (before : List Record) (item : Record) (upon other : Upon) → IsPlaceOf start before item upon →
      IsPlaceOf start before item other → upon ≡ other
  one_place before item upon other a b =
      let log : upon.log ≡ other.log = a.log ∙ sym b.log in
      let at : upon.at ≡ other.at = a.at ∙ sym b.at in
      let offset : upon.offset ≡ other.offset = a.offset ∙ sym b.offset in
      λ i. record { log = log i; at = at i; offset = offset i }

  -- a part that broke is at fault in each longer list
  not_whole : (before : List Record) (item : Record) (fault : PartFault) (more : List Record) →
      IsNamedFault shape memory (before ++ item ∷ []) fault → BeginsIn before item more → NoneBroke shape memory more →
      ⊥
  not_whole before item fault more named longer whole =
      whole fault (subst (λ (rs : List Record). IsFaultOfPart shape memory rs fault) (sym longer.1)
      (fault_more shape memory (before ++ item ∷ []) longer.0 fault named.is))

  module _ (rs rs' rest rest' : List Record) (all : rs ++ rest ≡ rs' ++ rest') (fault fault' : PartFault)
      (upon upon' : Upon) (a : IsFirstBreak start shape memory rs fault upon)
      (b : IsFirstBreak start shape memory rs' fault' upon') where
    joined : (a.before ++ a.item ∷ (a.after ++ rest)) ≡ (b.before ++ b.item ∷ (b.after ++ rest'))
    joined = sym (ap (λ (xs : List Record). xs ++ rest) a.are ∙ append_assoc a.before (a.item ∷ a.after) rest)
        ∙ all ∙ ap (λ (xs : List Record). xs ++ rest') b.are ∙ append_assoc b.before (b.item ∷ b.after) rest'

    same_record : (a.before ≡ b.before) × (a.item ≡ b.item)
    same_record = ⊎_elim (λ (same : (a.before ≡ b.before) × (a.item ≡ b.item)). same)
        (λ (other : BeginsIn a.before a.item b.before ⊎ BeginsIn b.before b.item a.before). ⊎_elim
        (λ (longer : BeginsIn a.before a.item b.before).
        absurd (not_whole a.before a.item fault b.before a.broke longer b.whole))
        (λ (longer : BeginsIn b.before b.item a.before).
        absurd (not_whole b.before b.item fault' a.before b.broke longer a.whole)) other)
        (compared a.before b.before a.item b.item (a.after ++ rest) (b.after ++ rest') joined)

    one_fault : fault ≡ fault'
    one_fault = one_named shape memory (a.before ++ a.item ∷ []) fault fault' a.broke
        (subst (λ (r : Record). IsNamedFault shape memory (a.before ++ r ∷ []) fault') (sym same_record.1)
        (subst (λ (xs : List Record). IsNamedFault shape memory (xs ++ b.item ∷ []) fault') (sym same_record.0)
        b.broke))

    one_upon : upon ≡ upon'
    one_upon = one_place a.before a.item upon upon' a.place
        (subst (λ (r : Record). IsPlaceOf start a.before r upon') (sym same_record.1)
        (subst (λ (xs : List Record). IsPlaceOf start xs b.item upon') (sym same_record.0) b.place))

one_first : (shape : Shape) (bytes : List ℕ) (fault fault' : PartFault) (upon upon' : Upon) →
    IsFirstOf shape bytes fault upon → IsFirstOf shape bytes fault' upon' → (fault ≡ fault') × (upon ≡ upon')
one_first shape bytes fault fault' upon upon' a b =
    let memory : b.memory ≡ a.memory = sym b.begins.memory_is ∙ a.begins.memory_is in
    let header : b.begins.header ≡ a.begins.header =
    same_header bytes b.begins.header a.begins.header b.begins.read a.begins.read in
    let all : a.records ++ a.begins.rest ≡ b.records ++ b.begins.rest =
    sym a.begins.records_are ∙ b.begins.records_are in
    let start = first_offset a.begins.header a.memory in
    let other : IsFirstBreak start shape (flat_memory a.memory) b.records fault' upon' =
    subst (λ (m : List (ℕ × Bytes)). IsFirstBreak (first_offset a.begins.header m) shape (flat_memory m) b.records
    fault' upon') memory
    (subst (λ (h : Header). IsFirstBreak (first_offset h b.memory) shape (flat_memory b.memory) b.records fault' upon')
    header b.first) in (
      one_fault start shape (flat_memory a.memory) a.records b.records a.begins.rest b.begins.rest all fault fault'
          upon upon' a.first other,
      one_upon start shape (flat_memory a.memory) a.records b.records a.begins.rest b.begins.rest all fault fault'
          upon upon' a.first other,
    )

begun_or_other : (shape : Shape) (bytes : List ℕ) (fault : PartFault) (upon : Upon) (field : HeaderField) →
    IsFirstOf shape bytes fault upon → IsEarliest shape bytes (broken.Header field) → ⊥
begun_or_other shape bytes fault upon field first other =
    agrees_or_differs shape first.begins.header field first.begins.agrees
    (subst (λ (h : Header). Differs shape h field)
    (same_header bytes other.header first.begins.header other.read first.begins.read) other.differs)

one_earliest : (shape : Shape) (bytes : List ℕ) (found other : Broken) → IsEarliest shape bytes found →
    IsEarliest shape bytes other → found ≡ other
one_earliest shape bytes (broken.Header field) (broken.Header field') a b =
    let same : field' ≡ field = one_field shape b.header field field' (subst (λ (h : Header). Differs shape h field)
    (same_header bytes a.header b.header a.read b.read) a.differs) b.differs in
    ap (λ (f : HeaderField). broken.Header f) (sym same)
one_earliest shape bytes (broken.Header field) (broken.Part fault None) a b = absurd b
one_earliest shape bytes (broken.Header field) (broken.Part fault (Some upon)) a b =
    absurd (begun_or_other shape bytes fault upon field b a)
one_earliest shape bytes (broken.Part fault None) other a b = absurd a
one_earliest shape bytes (broken.Part fault (Some upon)) (broken.Header field) a b =
    absurd (begun_or_other shape bytes fault upon field a b)
one_earliest shape bytes (broken.Part fault (Some upon)) (broken.Part fault' None) a b = absurd b
one_earliest shape bytes (broken.Part fault (Some upon)) (broken.Part fault' (Some upon')) a b =
    let same = one_first shape bytes fault fault' upon upon' a b in
    ap (λ (f : PartFault). broken.Part f (Some upon)) same.0
    ∙ ap (λ (u : Upon). broken.Part fault' (Some u)) same.1

pub one_is_earliest : OneIsEarliest
one_is_earliest shape bytes None None a b = refl
one_is_earliest shape bytes (Some found) None a b = absurd (earliest_broke shape bytes found a.earliest b.none)
one_is_earliest shape bytes None (Some other) a b = absurd (earliest_broke shape bytes other b.earliest a.none)
one_is_earliest shape bytes (Some found) (Some other) a b =
    ap Some (one_earliest shape bytes found other a.earliest b.earliest)

-- ---- it stays

module _ (fits : WhatIsReadFits) (law : HeaderIsOfItsBytes) (shape : Shape) (bytes more : List ℕ)
    (are : AreBytes bytes) (are_more : AreBytes more) where
  pub earliest_stays : (found : Broken) → IsEarliest shape bytes found → IsEarliest shape (bytes ++ more) found
  earliest_stays (broken.Header field) is = record {
    header = is.header;
    read = header_stays law bytes more is.header is.read;
    differs = is.differs;
  }
  earliest_stays (broken.Part fault None) is = is
  earliest_stays (broken.Part fault (Some upon)) is =
      let begins = is.begins in
      let now = reading_of bytes in
      let after = has_read_on (nothing bytes) bytes more now.memory now.records are_more (has bytes are) in
      let later = read_on (nothing bytes) more in
      let read = header_stays law bytes more begins.header begins.read in
      let memory : (reading_of (bytes ++ more)).memory ≡ now.memory ++ later.memory =
      ap (λ (q : Reading). q.memory) after.same in
      let few = (fits (bytes ++ more) begins.header after.are_bytes read).few in
      let none : now.memory ++ later.memory ≡ now.memory = few_more now.memory later.memory
      (omega (arith, ap length memory, few, begins.whole, ap length begins.memory_is)) in
      record {
        memory = is.memory;
        records = is.records;
        begins = record {
          header = begins.header;
          read = read;
          agrees = begins.agrees;
          whole = begins.whole;
          memory_is = memory ∙ none ∙ begins.memory_is;
          rest = begins.rest ++ later.records;
          records_are = ap (λ (q : Reading). q.records) after.same
              ∙ ap (λ (rs : List Record). rs ++ later.records) begins.records_are
              ∙ append_assoc is.records begins.rest later.records;
        };
        first = is.first;
      }

pub none_behind : FaultsStand → NoneBreaksBehind
none_behind law shape bytes more fault e none =
    let same = (law bytes more fault e).same in
    record {
      header = λ header read. none.header header (sym same.header ∙ read);
      parts = λ begun. subst (λ (rs : List Record). NoneBroke shape
          (flat_memory (reading_of (bytes ++ more)).memory) rs) (sym same.records)
          (subst (λ (m : List (ℕ × Bytes)). NoneBroke shape (flat_memory m) (reading_of bytes).records)
          (sym same.memory) (none.parts (record {
            header = begun.header;
            read = sym same.header ∙ begun.read;
            agrees = begun.agrees;
            whole = sym (ap (λ (m : List (ℕ × Bytes)). length m) same.memory) ∙ begun.whole;
          })));
    }
