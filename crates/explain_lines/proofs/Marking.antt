-- What stands beside records that come one after another.
use Rattle.std.proofs.Common.{◌≡◌, ℕ, ◌+◌, ◌<◌, ◌≤◌, Bool, true, false, cond, ◌==◌, List, [], ◌∷◌, ◌++◌, length}
use Rattle.std.proofs.Common.{filter, map}
use Rattle.std.proofs.Common.{get_or, set, take, drop, refl, sym, ap, ◌∙◌, arith, Option, eqb-true}
use Rattle.std.proofs.lemmas.Bool.{eqb-false}
use Rattle.std.proofs.lemmas.List.{append-nil, append_assoc, length-append, get_or-set_same, get_or-set_other}
use Rattle.std.proofs.lemmas.List.{map-append, take-append-drop, take_more, length-take}
use Rattle.std.proofs.lemmas.List.Elements.{filter-append}
use Rattle.std.proofs.lemmas.List.Sums.{length-filter, count_by-le-length}
use Rattle.lf_rules.specs.declared.event.Event.TheVariants as events
use Rattle.lf_rules.specs.declared.event.Record.{Record}
use Rattle.lf_codec.specs.Lengths.{bytes_len}
use Rattle.explain_lines.specs.Marks.{Beside, count_in, besides_in, beside_of, besides_from, besides_of, untold}
use Rattle.explain_lines.specs.Marks.{offsets_of, times_of}

-- ---- offsets

pub bytes_len-append : (xs ys : List Record) → bytes_len (xs ++ ys) ≡ bytes_len xs + bytes_len ys
bytes_len-append [] ys = omega arith
bytes_len-append (x ∷ xs) ys = omega (arith, bytes_len-append xs ys)

-- the first of the records take no more bytes than all
pub first_bytes : (rs : List Record) (n : ℕ) → bytes_len (take n rs) ≤ bytes_len rs
first_bytes rs n = omega (arith, bytes_len-append (take n rs) (drop n rs), ap bytes_len (take-append-drop n rs))

-- ---- counts

count_more : (rs : List Record) (r : Record) (log : ℕ)
    → count_in (rs ++ r ∷ []) log ≡ count_in rs log + length (filter (λ (x : Record). x.log == log) (r ∷ []))
count_more rs r log =
    let own : Record → Bool = λ (x : Record). x.log == log in
    sym (length-filter own (rs ++ r ∷ [])) ∙ ap length (filter-append own rs (r ∷ []))
    ∙ length-append (filter own rs) (filter own (r ∷ []))
    ∙ ap (λ (n : ℕ). n + length (filter own (r ∷ []))) (length-filter own rs)

-- no log has more records than there are
pub count_few : (rs : List Record) (k log : ℕ) → k ≤ length rs → count_in (take k rs) log ≤ k
count_few rs k log le =
    omega (arith, count_by-le-length (λ (x : Record). x.log == log) (take k rs), length-take k rs)

-- one more record of a log
pub counts_more : (rs : List Record) (r : Record) (counts : List ℕ) → length counts ≡ 256 → r.log < 256
    → ((log : ℕ) → log < 256 → get_or counts log 0 ≡ count_in rs log) → (log : ℕ) → log < 256
    → get_or (set counts r.log (get_or counts r.log 0 + 1)) log 0 ≡ count_in (rs ++ r ∷ []) log
counts_more rs r counts len within so_far log lt =
    let others : List ℕ = set counts r.log (get_or counts r.log 0 + 1) in
    elim (r.log == log) as (λ b. (r.log == log) ≡ b → get_or others log 0 ≡ count_in (rs ++ r ∷ []) log) [
      | true ↦ λ e.
          let same : r.log ≡ log = eqb-true r.log log e in
          let one = ap (λ (b : Bool). length (cond b (r ∷ []) [])) e in
          ap (λ (k : ℕ). get_or others k 0) (sym same)
          ∙ get_or-set_same counts r.log (get_or counts r.log 0 + 1) 0 (omega (arith, len, within))
          ∙ ap (λ (k : ℕ). k + 1) (so_far r.log within ∙ ap (count_in rs) same)
          ∙ ap (λ (k : ℕ). count_in rs log + k) (sym one) ∙ sym (count_more rs r log)
      | false ↦ λ e.
          let none = ap (λ (b : Bool). length (cond b (r ∷ []) [])) e in
          get_or-set_other counts r.log log (get_or counts r.log 0 + 1) 0 (λ same. eqb-false r.log log e (sym same))
          ∙ so_far log lt ∙ omega (arith, none, count_more rs r log)
    ] refl

-- ---- what stands beside them

-- one more record
pub besides_more : (told : ℕ → ℕ → Option (List ℕ)) (start : ℕ) (before rs : List Record) (r : Record)
    → besides_from told start before (rs ++ r ∷ [])
    ≡ besides_from told start before rs ++ beside_of told start (before ++ rs) r ∷ []
besides_more told start before [] r =
    ap (λ (bs : List Record). beside_of told start bs r ∷ []) (sym (append-nil before))
besides_more told start before (x ∷ rs) r =
    ap (λ (bs : List Beside). beside_of told start before x ∷ bs)
    (besides_more told start (before ++ x ∷ []) rs r
    ∙ ap (λ (bs : List Record). besides_from told start (before ++ x ∷ []) rs ++ beside_of told start bs r ∷ [])
    (append_assoc before (x ∷ []) rs))

-- one more offset
pub offsets_more : (start : ℕ) (before : List Record) (r : Record)
    → offsets_of start (before ++ r ∷ []) ≡ offsets_of start before ++ (start + bytes_len before) ∷ []
offsets_more start before r =
    let offset : Beside → ℕ = λ beside. beside.offset in
    ap (map offset) (besides_more untold start [] before r)
    ∙ map-append offset (besides_of untold start before) (beside_of untold start before r ∷ [])

-- one more time
pub times_more : (told : ℕ → ℕ → Option (List ℕ)) (before : List Record) (r : Record)
    → times_of told (before ++ r ∷ []) ≡ times_of told before ++ told r.log (count_in before r.log) ∷ []
times_more told before r =
    let time : Beside → Option (List ℕ) = λ beside. beside.time in
    ap (map time) (besides_more told 0 [] before r)
    ∙ map-append time (besides_of told 0 before) (beside_of told 0 before r ∷ [])

joined : (told : ℕ → ℕ → Option (List ℕ)) (start : ℕ) (before rs : List Record)
    → besides_in (map (λ beside. beside.offset) (besides_from untold start before rs))
    (map (λ beside. beside.time) (besides_from told 0 before rs))
    ≡ besides_from told start before rs
joined told start before [] = refl
joined told start before (r ∷ rs) =
    ap (λ (bs : List Beside). beside_of told start before r ∷ bs) (joined told start (before ++ r ∷ []) rs)

-- the offsets, each with its time
pub with_times : (told : ℕ → ℕ → Option (List ℕ)) (start : ℕ) (rs : List Record)
    → besides_in (offsets_of start rs) (times_of told rs) ≡ besides_of told start rs
with_times told start rs = joined told start [] rs

untimed : (start : ℕ) (before rs : List Record)
    → besides_in (map (λ beside. beside.offset) (besides_from untold start before rs)) []
    ≡ besides_from untold start before rs
untimed start before [] = refl
untimed start before (r ∷ rs) =
    ap (λ (bs : List Beside). beside_of untold start before r ∷ bs) (untimed start (before ++ r ∷ []) rs)

-- the offsets, where no time is told
pub without_times : (start : ℕ) (rs : List Record)
    → besides_in (offsets_of start rs) [] ≡ besides_of untold start rs
without_times start rs = untimed start [] rs

-- a record for where there is none
abbrev pub no_record : Record
no_record = record { log = 0; bank = 0; number = 0; event = events.Fence }

-- the first records, and the one behind them
pub first_at : (rs : List Record) (k : ℕ) → k < length rs
    → take (k + 1) rs ≡ take k rs ++ get_or rs k no_record ∷ []
first_at rs k lt = take_more rs k no_record lt

pub first_more : (rs : List Record) (k : ℕ) (r : Record) → k < length rs → r ≡ get_or rs k r
    → take (k + 1) rs ≡ take k rs ++ r ∷ []
first_more rs k r lt is = take_more rs k r lt ∙ ap (λ (x : Record). take k rs ++ x ∷ []) (sym is)
