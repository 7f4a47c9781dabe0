-- What fits, record by record.
use Rattle.std.proofs.Common.{◌≡◌, ℕ, zero, suc, ◌+◌, ◌<◌, ◌≤◌, List, [], ◌∷◌, ◌++◌, length, take, drop, get_or, refl}
use Rattle.std.proofs.Common.{sym, ap, ◌∙◌, arith, inl, inr}
use Rattle.std.specs.List.{AllByRecursion}
use Rattle.std.proofs.lemmas.Bool.{cases_lt}
use Rattle.std.proofs.lemmas.List.{take_more, take-append-drop, take_all}
use Rattle.lf_rules.specs.Fits.{Bytes, IsData}
use Rattle.lf_rules.specs.declared.event.Record.{Record}
use Rattle.lf_codec.specs.declared.header.Header.{Header}
use Rattle.lf_codec.specs.Checks.{log_limit}
use Rattle.lf_codec.specs.Trace.{FitsHeader, FitsMemory, FitsIn, log_len}
use Rattle.lf_codec.proofs.Forward.{log_len-append, log_len_own}
use Rattle.lf_codec.proofs.Backward.{least_after, memory_push, least_after-push, no_log_above}

pub each_at : (P : Record → Type 0) (xs : List Record) (i : ℕ) (d : Record) → i < length xs → AllByRecursion P xs →
    P (get_or xs i d)
each_at P [] i d lt all = absurd (omega arith)
each_at P (x ∷ xs) zero d lt all = all.0
each_at P (x ∷ xs) (suc i) d lt all = each_at P xs i d (omega arith) all.1

-- the memory record at a place
pub record FitsNext (size least : ℕ) (m : ℕ × Bytes) : Type 0 where
  pub low : least ≤ m.0
  pub limit : m.0 < 0x1_0000_0000
  pub carried : IsData size m.1

pub memory_at : (size least : ℕ) (memory : List (ℕ × Bytes)) (i : ℕ) (d : ℕ × Bytes) → i < length memory →
    FitsMemory size least memory
    → FitsNext size (least_after least (take i memory)) (get_or memory i d)
memory_at size least [] i d lt fits = absurd (omega arith)
memory_at size least (m ∷ memory) zero d lt fits = record { low = fits.0; limit = fits.1; carried = fits.2 }
memory_at size least (m ∷ memory) (suc i) d lt fits = memory_at size (m.0 + 1) memory i d (omega arith) fits.3

pub record FitsUpTo (size : ℕ) (memory : List (ℕ × Bytes)) (n above : ℕ) : Type 0 where
  pub fits : FitsMemory size 0 (take n memory)
  pub least : above ≡ least_after 0 (take n memory)

pub memory_more : (size : ℕ) (memory : List (ℕ × Bytes)) (i : ℕ) (m : ℕ × Bytes) → i < length memory →
    m ≡ get_or memory i m → FitsMemory size 0 (take i memory)
    → FitsNext size (least_after 0 (take i memory)) m → FitsUpTo size memory (i + 1) (m.0 + 1)
memory_more size memory i m lt is fits next =
    let more : take (i + 1) memory ≡ take i memory ++ m ∷ [] =
    take_more memory i m lt ∙ ap (λ (x : ℕ × Bytes). take i memory ++ x ∷ []) (sym is) in
    record {
      fits = rw more (memory_push size 0 (take i memory) m fits next.low next.limit next.carried);
      least = rw more (sym (least_after-push 0 (take i memory) m));
    }

-- ---- logs

pub log_len_at : (records : List Record) (i : ℕ) (x : Record) → i < length records → x ≡ get_or records i x →
    log_len x.log (take i records) + 1 ≤ log_len x.log records
log_len_at records i x lt is =
    let more : take (i + 1) records ≡ take i records ++ x ∷ [] =
    take_more records i x lt ∙ ap (λ (y : Record). take i records ++ y ∷ []) (sym is) in
    let whole : (take i records ++ x ∷ []) ++ drop (i + 1) records ≡ records =
    ap (λ (xs : List Record). xs ++ drop (i + 1) records) (sym more) ∙ take-append-drop (i + 1) records in
    omega (
      arith,
      ap (log_len x.log) whole,
      log_len-append x.log (take i records ++ x ∷ []) (drop (i + 1) records),
      log_len-append x.log (take i records) (x ∷ []),
      log_len_own x.log x refl,
    )

pub logs_within : (h : Header) (records : List Record) (counts : List ℕ) (n : ℕ) → FitsHeader h →
    AllByRecursion (FitsIn h) records → length records ≤ n
    → ((log : ℕ) → log < 32 → get_or counts log 0 ≡ log_len log (take n records)) →
    ((log : ℕ) → get_or counts log 0 ≤ log_limit h.version) → (log : ℕ) →
    log_len log records ≤ log_limit h.version
logs_within h records counts n range each all counted limit log =
    elim (cases_lt log 32) [
      | inl lt ↦ let own : get_or counts log 0 ≡ log_len log records =
          counted log lt ∙ ap (log_len log) (take_all n records all) in omega (arith, own, limit log)
      | inr le ↦ omega (arith, no_log_above h records log range each le)
    ]
