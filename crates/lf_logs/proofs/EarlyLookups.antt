-- The records that came before their turn, looked up by their numbers.
use Rattle.std.proofs.Common.{◌≡◌, ℕ, ◌+◌, ◌≤◌, Bool, true, false, ◌||◌, cond, List, [], ◌∷◌, ◌++◌, length}
use Rattle.std.proofs.Common.{◌==◌, Result, Ok, Err}
use Rattle.std.specs.Prelude.{OnErr}
use Rattle.std.proofs.Common.{drop, Option, Some, None, is_some, option_map, refl, sym, ap, ◌∙◌, subst, ⊎_elim, arith}
use Rattle.std.specs.Map.{lookup}
use Rattle.std.specs.BTreeMap.{is_at}
use Rattle.std.specs.Ordering.{nat_cmp}
use Rattle.std.specs.Global.{Box}
use Rattle.std.proofs.lemmas.Bool.{cases_eq}
use Rattle.std.proofs.lemmas.Bool.Decides.{nat_tests}
use Rattle.std.proofs.lemmas.List.{length-append, length-map, append-nil}
use Rattle.std.proofs.lemmas.Map.Made.{lookup-map_values}
use Rattle.lf_rules.specs.Fits.{FitsRecord}
use Rattle.lf_rules.specs.declared.event.Record.{Record}
use Rattle.trace_early.specs.Table.{numbered_as}
use Rattle.lf_codec.specs.declared.header.Header.{Header}
use Rattle.lf_codec.specs.declared.stage.Head.{Head}
use Rattle.lf_codec.specs.Checks.{fixed_checks}
use Rattle.lf_codec.specs.Layout.{record_bytes, head_bytes, fixed_bytes, data_of, kind_of}
use Rattle.lf_codec.specs.Lent.{BeginWith, IsSpelling, record_in}
use Rattle.lf_codec.specs.Sound.{IsInRange}
use Rattle.lf_codec.proofs.Again.{front_head, front_again}
use Rattle.lf_codec.proofs.EachKind.{length-fixed_bytes, data_len_again, fixed_passes}
use Rattle.lf_codec.proofs.Judged.{judged_passed}
use Rattle.lf_codec.proofs.Numbers.{length-u32_bytes}
use Rattle.lf_codec.proofs.Soundness.{block_at_most_64, data_limit, fixed_len-le, most_data-le}
use Rattle.lf_logs.specs.EarlyRecords.{AreSpellings, AreSpelled, read_again, spelled_by, kept_whole}
use Rattle.lf_logs.specs.Reordering.{CanKeep}
use Rattle.lf_logs.proofs.Reordered.{none_or_some}

abbrev pub Items : Type 0
Items = List (ℕ × List ℕ)

abbrev pub Whole : Type 0
Whole = List (ℕ × Box Record)

abbrev pub at : {X : Type 0} → ℕ → List (ℕ × X) → Option X
at n es = lookup (is_at (nat_cmp n)) es

abbrev pub or_else : Option Record → Option Record → Option Record
or_else (Some r) other = Some r
or_else None other = other

-- a list behind another is looked at where the first has nothing
pub at_both : (n : ℕ) (es fs : List (ℕ × Record)) → at n (es ++ fs) ≡ or_else (at n es) (at n fs)
at_both n [] fs = refl
at_both n (e ∷ es) fs = go (is_at (nat_cmp n) e.0) (at_both n es fs)
  where
    go : (b : Bool) → at n (es ++ fs) ≡ or_else (at n es) (at n fs) →
        cond b (Some e.1) (at n (es ++ fs)) ≡ or_else (cond b (Some e.1) (at n es)) (at n fs)
    go true rest = refl
    go false rest = rest

own_at : (k : ℕ) → is_at (nat_cmp k) k ≡ true
own_at k = grind (arith, nat_tests)

-- where no number has anything, there is nothing
all_none : (items : Items) → ((k : ℕ) → numbered_as k items ≡ None) → items ≡ []
all_none [] none = refl
all_none (e ∷ items) none =
    let some : numbered_as e.0 (e ∷ items) ≡ Some e.1 =
    ap (λ (b : Bool). cond b (Some e.1) (numbered_as e.0 items)) (own_at e.0) in
    let no : Some e.1 ≡ None = sym some ∙ none e.0 in
    absurd (cc)

-- ---- one record

pub begins : (h : Header) (bytes : List ℕ) (x : Record) → FitsRecord h.ports h.banks h.block h.factor x →
    bytes ≡ record_bytes x → BeginWith h bytes x
begins h bytes x fits is = record { fits = fits; more = []; joined = is ∙ sym (append-nil (record_bytes x)) }

pub spelled_again : (h : Header) (bytes : List ℕ) (x : Record) → IsInRange h → BeginWith h bytes x →
    spelled_by h bytes ≡ x
spelled_again h bytes x range front =
    ap (λ (head : Head). record_in h head (drop 8 bytes)) (front_head h bytes x front)
    ∙ front_again h bytes x range front

-- a record takes few bytes
pub short_spelling : (h : Header) (x : Record) → IsInRange h → FitsRecord h.ports h.banks h.block h.factor x →
    length (record_bytes x) ≤ 300
short_spelling h x range fits =
    let small : h.block ≤ 64 = block_at_most_64 h.block range.block_size in
    let kind = kind_of x.event in
    omega (
      arith,
      length-append (head_bytes x ++ fixed_bytes x.event) (data_of x.event),
      length-append (head_bytes x) (fixed_bytes x.event),
      length-u32_bytes x.number,
      length-fixed_bytes h x.bank x.event fits.event,
      data_len_again h x.bank x.event small fits.event,
      fixed_len-le h kind range,
      most_data-le h kind range,
      data_limit h x.bank kind (fixed_bytes x.event) range
          (judged_passed (fixed_checks h x.bank kind (fixed_bytes x.event))
          (fixed_passes h x.bank x.event small fits.event)),
    )

-- ---- the records that are kept whole

pub at_whole : (whole : Whole) (n : ℕ) → at n (kept_whole whole) ≡ option_map (λ (b : Box Record). b.value) (at n whole)
at_whole whole n = lookup-map_values (λ (b : Box Record). b.value) (is_at (nat_cmp n)) whole

pub whole_same : (whole more : Whole) (n : ℕ) → at n more ≡ at n whole →
    at n (kept_whole more) ≡ at n (kept_whole whole)
whole_same whole more n same = at_whole more n ∙ ap (option_map (λ (b : Box Record). b.value)) same
    ∙ sym (at_whole whole n)

pub is_some_map : {X Y : Type 0} (f : X → Y) (o : Option X) → is_some (option_map f o) ≡ is_some o
is_some_map f None = refl
is_some_map f (Some x) = refl

pub is_some_whole : (whole : Whole) (n : ℕ) → is_some (at n (kept_whole whole)) ≡ is_some (at n whole)
is_some_whole whole n = ap is_some (at_whole whole n) ∙ is_some_map (λ (b : Box Record). b.value) (at n whole)

pub length_whole : (whole : Whole) → length (kept_whole whole) ≡ length whole
length_whole whole = length-map {B = ℕ × Record} whole (λ (e : ℕ × Box Record). (e.0, e.1.value))

-- ---- the records that are kept as their bytes

abbrev pub read_at : Option Header → Option (List ℕ) → Option Record
read_at None bytes = None
read_at (Some h) bytes = option_map (spelled_by h) bytes

pub at_read : (header : Option Header) (spelled : Items) (n : ℕ) →
    at n (read_again header spelled) ≡ read_at header (numbered_as n spelled)
at_read None spelled n = refl
at_read (Some h) spelled n = lookup-map_values (spelled_by h) (is_at (nat_cmp n)) spelled

pub length_read : (header : Option Header) (spelled : Items) → AreSpelled header spelled →
    length (read_again header spelled) ≡ length spelled
length_read None spelled none = sym (ap length none)
length_read (Some h) spelled are = length-map spelled (λ e. (e.0, spelled_by h e.1))

-- there is a record exactly where there are bytes
read_none : (header : Option Header) (spelled : Items) (n : ℕ) → AreSpelled header spelled →
    is_some (read_at header (numbered_as n spelled)) ≡ is_some (numbered_as n spelled)
read_none None spelled n nil = sym (ap (λ (items : Items). is_some (numbered_as n items)) nil)
read_none (Some h) spelled n are = is_some_map (spelled_by h) (numbered_as n spelled)

-- fewer bytes, or the same, still spell records
pub still_spelled : (header : Option Header) (spelled next : Items) → AreSpelled header spelled →
    ((k : ℕ) (bytes : List ℕ) → numbered_as k next ≡ Some bytes → numbered_as k spelled ≡ Some bytes)
    → AreSpelled header next
still_spelled None spelled next nil within = all_none next (λ k. ⊎_elim
    (λ (none : numbered_as k next ≡ None). none)
    (λ (some : (bytes : List ℕ) × (numbered_as k next ≡ Some bytes)).
    let no : Some some.0 ≡ None =
    sym (within k some.0 some.1) ∙ ap (λ (items : Items). numbered_as k items) nil in absurd (cc))
    (none_or_some (numbered_as k next)))
still_spelled (Some h) spelled next are within = record {
  range = are.range;
  each = λ k bytes at. are.each k bytes (within k bytes at);
}

pub without_one : (header : Option Header) (spelled next : Items) (n : ℕ) → AreSpelled header spelled →
    numbered_as n next ≡ None → ((k : ℕ) → (k ≡ n → ⊥) → numbered_as k next ≡ numbered_as k spelled)
    → AreSpelled header next
without_one header spelled next n are gone others = still_spelled header spelled next are (λ k bytes at. ⊎_elim
    (λ (own : k ≡ n).
    let no : Some bytes ≡ None = sym at ∙ ap (λ m. numbered_as m next) own ∙ gone in absurd (cc))
    (λ (other : k ≡ n → ⊥). sym (others k other) ∙ at)
    (cases_eq k n))

-- without a header no bytes are kept
pub none_without : (header : Option Header) (spelled : Items) (n : ℕ) → AreSpelled header spelled → header ≡ None →
    numbered_as n spelled ≡ None
none_without header spelled n are none =
    ap (λ (items : Items). numbered_as n items) (subst (λ (o : Option Header). AreSpelled o spelled) none are)

-- ---- both kinds together

module _ (header : Option Header) (spelled : Items) (rest : List (ℕ × Record)) where
  pub at_parts : (n : ℕ) → at n (read_again header spelled ++ rest)
      ≡ or_else (read_at header (numbered_as n spelled)) (at n rest)
  at_parts n = at_both n (read_again header spelled) rest
      ∙ ap (λ (o : Option Record). or_else o (at n rest)) (at_read header spelled n)

  pub length_parts : AreSpelled header spelled →
      length (read_again header spelled ++ rest) ≡ length spelled + length rest
  length_parts are = omega (arith, length-append (read_again header spelled) rest, length_read header spelled are)

  pub is_some_parts : (n : ℕ) → AreSpelled header spelled → is_some (at n (read_again header spelled ++ rest))
      ≡ is_some (numbered_as n spelled) || is_some (at n rest)
  is_some_parts n are = ap is_some (at_parts n) ∙ go (read_at header (numbered_as n spelled))
      ∙ ap (λ (b : Bool). b || is_some (at n rest)) (read_none header spelled n are)
    where
      go : (o : Option Record) → is_some (or_else o (at n rest)) ≡ is_some o || is_some (at n rest)
      go None = refl
      go (Some r) = refl

  -- where no bytes have the number, the record is kept whole
  pub at_rest : (n : ℕ) → numbered_as n spelled ≡ None → at n (read_again header spelled ++ rest) ≡ at n rest
  at_rest n none = at_parts n
      ∙ ap (λ (o : Option (List ℕ)). or_else (read_at header o) (at n rest)) none ∙ go header
    where
      go : (o : Option Header) → or_else (read_at o None) (at n rest) ≡ at n rest
      go None = refl
      go (Some h) = refl

  -- the parts of a number that none has
  pub none_read : (n : ℕ) → AreSpelled header spelled → at n (read_again header spelled ++ rest) ≡ None →
      numbered_as n spelled ≡ None
  none_read n are none = go (numbered_as n spelled) (sym (is_some_parts n are) ∙ ap is_some none)
    where
      go : (o : Option (List ℕ)) → is_some o || is_some (at n rest) ≡ false → o ≡ None
      go None e = refl
      go (Some bytes) e = absurd (cc)

  -- a record that is kept as its bytes is the one that they spell
  pub at_spelled : (n : ℕ) (h : Header) (bytes : List ℕ) (x : Record) → header ≡ Some h → IsInRange h →
      BeginWith h bytes x → numbered_as n spelled ≡ Some bytes
      → at n (read_again header spelled ++ rest) ≡ Some x
  at_spelled n h bytes x is range front own =
      at_parts n ∙ ap (λ (o : Option Header). or_else (read_at o (numbered_as n spelled)) (at n rest)) is
      ∙ ap (λ (o : Option (List ℕ)). or_else (read_at (Some h) o) (at n rest)) own
      ∙ ap Some (spelled_again h bytes x range front)

-- where the parts of a number are the same, so is its record
pub at_same : (header : Option Header) (spelled next : Items) (rest more : List (ℕ × Record)) (n : ℕ) →
    numbered_as n next ≡ numbered_as n spelled → at n more ≡ at n rest
    → at n (read_again header next ++ more) ≡ at n (read_again header spelled ++ rest)
at_same header spelled next rest more n first second =
    at_parts header next more n
    ∙ ap (λ (o : Option (List ℕ)). or_else (read_at header o) (at n more)) first
    ∙ ap (λ (o : Option Record). or_else (read_at header (numbered_as n spelled)) o) second
    ∙ sym (at_parts header spelled rest n)

-- a record that is lent again is the one that is kept
pub lent_again : (header : Option Header) (spelled : Items) (rest : List (ℕ × Record)) (n : ℕ) (h : Header)
    (bytes : List ℕ) (r : Record) → AreSpelled header spelled → header ≡ Some h → numbered_as n spelled ≡ Some bytes
    → ((x : Record) → BeginWith h bytes x → r ≡ x) → Some r ≡ at n (read_again header spelled ++ rest)
lent_again header spelled rest n h bytes r are is own all =
    let with : AreSpellings h spelled = subst (λ (o : Option Header). AreSpelled o spelled) is are in
    let x = with.each n bytes own in
    ap Some (all x.0 x.1) ∙ sym (at_spelled header spelled rest n h bytes x.0 is with.range x.1 own)

-- ---- a record that is put in by its bytes

module _ (header : Option Header) (spelled next : Items) (bytes : List ℕ) (x : Record)
    (are : AreSpelled header spelled) (fits : CanKeep header x) (some : is_some header ≡ true)
    (is : bytes ≡ record_bytes x) where
  pub few_bytes : length bytes ≤ 65531
  few_bytes = go header are fits some
    where
      go : (o : Option Header) → AreSpelled o spelled → CanKeep o x → is_some o ≡ true → length bytes ≤ 65531
      go None nil any some = absurd (cc)
      go (Some h) with fit any = omega (arith, ap length is, short_spelling h x with.range fit)

  pub one_more : numbered_as x.number next ≡ Some bytes →
      ((k : ℕ) → (k ≡ x.number → ⊥) → numbered_as k next ≡ numbered_as k spelled) → AreSpelled header next
  one_more own others = go header are fits some
    where
      go : (o : Option Header) → AreSpelled o spelled → CanKeep o x → is_some o ≡ true → AreSpelled o next
      go None nil any some = absurd (cc)
      go (Some h) with fit any = record {
        range = with.range;
        each = λ k found at. ⊎_elim
            (λ (same : k ≡ x.number).
            let twice : Some found ≡ Some bytes = sym at ∙ ap (λ m. numbered_as m next) same ∙ own in
            let one : found ≡ bytes = cc in
            (x, begins h found x fit (one ∙ is)))
            (λ (other : k ≡ x.number → ⊥). with.each k found (sym (others k other) ∙ at))
            (cases_eq k x.number);
      }

  pub put_own : (rest : List (ℕ × Record)) → numbered_as x.number next ≡ Some bytes →
      at x.number (read_again header next ++ rest) ≡ Some x
  put_own rest own = go header are fits some
    where
      go : (o : Option Header) → AreSpelled o spelled → CanKeep o x → is_some o ≡ true →
          at x.number (read_again o next ++ rest) ≡ Some x
      go None nil any some = absurd (cc)
      go (Some h) with fit any =
          at_spelled (Some h) next rest x.number h bytes x refl with.range (begins h bytes x fit is) own

-- bytes that are there are those of the record
pub spells : (bytes : List ℕ) (x : Record) → IsSpelling bytes x → (length bytes == 0) ≡ false → bytes ≡ record_bytes x
spells bytes x spelled some = ⊎_elim
    (λ (none : bytes ≡ []).
    let no : true ≡ false = sym (ap (λ (bs : List ℕ). length bs == 0) none) ∙ some in absurd (cc))
    (λ (is : bytes ≡ record_bytes x). is)
    spelled

pub first_of : (b : Bool) → b || false ≡ true → b ≡ true
first_of true e = refl
first_of false e = e

pub none_from : {X : Type 0} (o : Option X) → is_some o ≡ false → o ≡ None
none_from None e = refl
none_from (Some x) e = absurd (cc)

pub when_err : {T E P : Type 0} (r : Result T E) → P → OnErr r P
when_err (Ok x) p = tt
when_err (Err e) p = p
