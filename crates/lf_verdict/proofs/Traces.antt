-- The logs of a trace: which records they have, and that those fit the shape.
use Rattle.std.proofs.Common.{◌≡◌, ℕ, zero, suc, ◌+◌, ◌<◌, ◌≤◌, Bool, true, false, List, [], ◌∷◌, length, sym, subst}
use Rattle.std.proofs.Common.{refl, inl, inr, eqb-true, arith}
use Rattle.std.specs.Prelude.{◌==◌, cond}
use Rattle.std.specs.List.{AllByRecursion}
use Rattle.std.proofs.lemmas.Bool.{cases_lt}
use Rattle.std.proofs.lemmas.List.FromFn.{get_or-map-range_with_len, length-map-range_with_len}
use Rattle.std.proofs.lemmas.List.{get_or_past}
use Rattle.lf_rules.specs.declared.shape.Shape.{Shape}
use Rattle.lf_rules.specs.declared.event.Record.{Record}
use Rattle.lf_rules.specs.Fits.{Bytes, FitsRecord, Fits, is_factor}
use Rattle.lf_rules.specs.Run.{of_log, NameTheirLogs}
use Rattle.lf_rules.specs.Order.{log_at}
use Rattle.lf_codec.specs.declared.header.Header.{Header}
use Rattle.lf_codec.specs.Trace.{FitsIn, FitsTrace}
use Rattle.lf_logs.specs.Lists.{logs_of}
use Rattle.lf_verdict.specs.Legal.{Agrees, IsTraceFor}

pub log_of_logs : (count log : ℕ) (rs : List Record) → log < count → log_at (logs_of count rs) log ≡ of_log log rs
log_of_logs count log rs lt = get_or-map-range_with_len (λ l. of_log l rs) 0 count log log [] lt (omega arith)

pub no_log : (count log : ℕ) (rs : List Record) → count ≤ log → log_at (logs_of count rs) log ≡ []
no_log count log rs le =
    let few : length (logs_of count rs) ≤ log = omega (arith, length-map-range_with_len (λ l. of_log l rs) 0 count) in
    get_or_past (logs_of count rs) log [] few

-- what holds of each record of a list that names the log holds of the log
of_log_all : (P : Record → Type 0) (log : ℕ) (rs : List Record) → AllByRecursion (λ r. r.log ≡ log → P r) rs →
    AllByRecursion P (of_log log rs)
of_log_all P log [] all = tt
of_log_all P log (r ∷ rs) all = go (r.log == log) refl (of_log_all P log rs all.1)
  where
    go : (b : Bool) → (r.log == log) ≡ b → AllByRecursion P (of_log log rs) →
        AllByRecursion P (cond b (r ∷ of_log log rs) (of_log log rs))
    go true e rest = (all.0 (eqb-true r.log log e), rest)
    go false e rest = rest

all_weaker : (P Q : Record → Type 0) (rs : List Record) → ((r : Record) → P r → Q r) → AllByRecursion P rs →
    AllByRecursion Q rs
all_weaker P Q [] f all = tt
all_weaker P Q (r ∷ rs) f all = (f r all.0, all_weaker P Q rs f all.1)

all_named : (log : ℕ) (rs : List Record) → AllByRecursion (λ r. r.log ≡ log → r.log ≡ log) rs
all_named log [] = tt
all_named log (r ∷ rs) = (λ e. e, all_named log rs)

pub logs_name : (count : ℕ) (rs : List Record) → NameTheirLogs (logs_of count rs)
logs_name count rs log =
    elim (cases_lt log count) [
      | inl lt ↦ subst (AllByRecursion (λ r. r.log ≡ log)) (sym (log_of_logs count log rs lt))
          (of_log_all (λ r. r.log ≡ log) log rs (all_named log rs))
      | inr le ↦ subst (AllByRecursion (λ r. r.log ≡ log)) (sym (no_log count log rs le)) tt
    ]

pub fits_shape : (shape : Shape) (h : Header) (r : Record) → Agrees shape h →
    FitsRecord h.ports h.banks h.block h.factor r → Fits shape r
fits_shape shape h r agrees fits =
    subst (λ n. FitsRecord shape.ports shape.banks shape.block n r) agrees.factor
    (subst (λ n. FitsRecord shape.ports shape.banks n h.factor r) agrees.block
    (subst (λ n. FitsRecord shape.ports n h.block h.factor r) agrees.banks
    (subst (λ n. FitsRecord n h.banks h.block h.factor r) agrees.ports fits)))

-- the records of a trace for the shape fit the shape
pub records_fit : (shape : Shape) (h : Header) (memory : List (ℕ × Bytes)) (rs : List Record) →
    FitsTrace h memory rs → Agrees shape h → AllByRecursion (Fits shape) rs
records_fit shape h memory rs fits agrees =
    all_weaker (FitsIn h) (Fits shape) rs (λ r f. fits_shape shape h r agrees f.fits) fits.each

pub logs_fit : (shape : Shape) (count : ℕ) (rs : List Record) → AllByRecursion (Fits shape) rs → (log : ℕ) →
    AllByRecursion (Fits shape) (log_at (logs_of count rs) log)
logs_fit shape count rs all log =
    elim (cases_lt log count) [
      | inl lt ↦ subst (AllByRecursion (Fits shape)) (sym (log_of_logs count log rs lt))
          (of_log_all (Fits shape) log rs (all_weaker (Fits shape) (λ r. r.log ≡ log → Fits shape r) rs (λ r f e. f)
          all))
      | inr le ↦ subst (AllByRecursion (Fits shape)) (sym (no_log count log rs le)) tt
    ]

-- the logs of a trace hold records that name them
pub trace_names : (shape : Shape) (bytes : List ℕ) (memory : List (ℕ × Bytes)) (logs : List (List Record)) →
    IsTraceFor shape bytes memory logs → NameTheirLogs logs
trace_names shape bytes memory logs t = subst NameTheirLogs (sym t.are_logs)
    (logs_name (shape.ports + shape.banks) t.records)

-- and fit the shape
pub trace_fits : (shape : Shape) (bytes : List ℕ) (memory : List (ℕ × Bytes)) (logs : List (List Record)) →
    IsTraceFor shape bytes memory logs → (log : ℕ)
    → AllByRecursion (Fits shape) (log_at logs log)
trace_fits shape bytes memory logs t log =
    subst (λ (ls : List (List Record)). AllByRecursion (Fits shape) (log_at ls log)) (sym t.are_logs)
    (logs_fit shape (shape.ports + shape.banks) t.records (records_fit shape t.header memory t.records t.trace.fits
    t.agrees) log)

-- the shape of a trace has few banks
pub trace_banks : (shape : Shape) (bytes : List ℕ) (memory : List (ℕ × Bytes)) (logs : List (List Record)) →
    IsTraceFor shape bytes memory logs → shape.banks ≤ 16
trace_banks shape bytes memory logs t = omega (arith, t.agrees.banks, t.trace.fits.header.banks)

some_factor : (n : ℕ) → is_factor n ≡ true → 0 < n
some_factor zero is = cc
some_factor (suc n) is = omega arith

-- and some block of level one in each of level two
pub trace_factor : (shape : Shape) (bytes : List ℕ) (memory : List (ℕ × Bytes)) (logs : List (List Record)) →
    IsTraceFor shape bytes memory logs → 0 < shape.factor
trace_factor shape bytes memory logs t = some_factor shape.factor
    (subst (λ n. is_factor n ≡ true) t.agrees.factor t.trace.fits.header.factor)
