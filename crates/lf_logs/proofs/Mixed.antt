-- The records of logs, log after log, hold the logs; and what holds the logs has them again.
use Rattle.std.proofs.Common.{◌≡◌, ℕ, zero, suc, ◌+◌, ◌<◌, ◌==◌, List, [], ◌∷◌, ◌++◌, length, get_or, refl, sym, ap}
use Rattle.std.proofs.Common.{◌∙◌, subst, arith}
use Rattle.std.specs.List.{AllByRecursion}
use Rattle.std.proofs.lemmas.Bool.{eq-eqb, ne_eqb, cond-true, cond-false}
use Rattle.std.proofs.lemmas.List.{same_lists, append-nil, get_or_default}
use Rattle.std.proofs.lemmas.List.Elements.{filter-append}
use Rattle.lf_rules.specs.declared.event.Record.{Record}
use Rattle.lf_rules.specs.Numbers.{all_records}
use Rattle.lf_rules.specs.Run.{of_log}
use Rattle.lf_logs.specs.Mixtures.{LogAfterLogIsAMixture, MixturesHaveTheirLogs}
use Rattle.lf_logs.proofs.Splitting.{length-parts_of, get_or-parts_of}

-- of records that all name one log, that log has all, and another none
of_own : (log : ℕ) (rs : List Record) → AllByRecursion (λ r. r.log ≡ log) rs → of_log log rs ≡ rs
of_own log [] own = refl
of_own log (r ∷ rs) own = cond-true (r.log == log) (r ∷ of_log log rs) (of_log log rs) (eq-eqb r.log log own.0)
    ∙ ap (λ (xs : List Record). r ∷ xs) (of_own log rs own.1)

of_other : (log other : ℕ) (rs : List Record) → (other ≡ log → ⊥) → AllByRecursion (λ r. r.log ≡ other) rs →
    of_log log rs ≡ []
of_other log other [] apart own = refl
of_other log other (r ∷ rs) apart own = cond-false (r.log == log) (r ∷ of_log log rs) (of_log log rs)
    (ne_eqb r.log log (λ e. apart (sym own.0 ∙ e))) ∙ of_other log other rs apart own.1

-- The first of the logs is that of this number, and each names its own.
abbrev NameFrom : ℕ → List (List Record) → Type 0
NameFrom from logs = (i log : ℕ) → log ≡ from + i → AllByRecursion (λ r. r.log ≡ log) (get_or logs i [])

NameFrom-rest : (from : ℕ) (rs : List Record) (logs : List (List Record)) → NameFrom from (rs ∷ logs) →
    NameFrom (from + 1) logs
NameFrom-rest from rs logs named = λ i log e. named (suc i) log (omega (arith, e))

none_before : (log from : ℕ) (logs : List (List Record)) → NameFrom from logs → log < from →
    of_log log (all_records logs) ≡ []
none_before log from [] named before = refl
none_before log from (rs ∷ logs) named before =
    filter-append (λ r. r.log == log) rs (all_records logs)
    ∙ ap (λ xs. xs ++ of_log log (all_records logs)) (of_other log from rs (λ e. absurd (omega (arith, e, before)))
    (named 0 from (omega arith)))
    ∙ none_before log (from + 1) logs (NameFrom-rest from rs logs named) (omega (arith, before))

own_of : (log from i : ℕ) (logs : List (List Record)) → NameFrom from logs → log ≡ from + i →
    of_log log (all_records logs) ≡ get_or logs i []
own_of log from i [] named e = refl
own_of log from zero (rs ∷ logs) named e =
    filter-append (λ r. r.log == log) rs (all_records logs)
    ∙ ap (λ xs. xs ++ of_log log (all_records logs)) (of_own log rs (named 0 log e))
    ∙ ap (λ xs. rs ++ xs) (none_before log (from + 1) logs (NameFrom-rest from rs logs named) (omega (arith, e)))
    ∙ append-nil rs
own_of log from (suc i) (rs ∷ logs) named e =
    filter-append (λ r. r.log == log) rs (all_records logs)
    ∙ ap (λ xs. xs ++ of_log log (all_records logs)) (of_other log from rs (λ same. absurd (omega (arith, e, same)))
    (named 0 from (omega arith)))
    ∙ own_of log (from + 1) i logs (NameFrom-rest from rs logs named) (omega (arith, e))

pub log_after_log : LogAfterLogIsAMixture
log_after_log logs named =
    let from_first : NameFrom 0 logs = λ i log e. subst (λ j. AllByRecursion (λ (r : Record). r.log ≡ log)
    (get_or logs j [])) (let at : log ≡ i = omega (arith, e) in at) (named log) in
    record { each = λ log. own_of log 0 log logs from_first (omega arith) }

pub same_logs : MixturesHaveTheirLogs
same_logs logs rs is = same_lists _ _
    (length-parts_of (λ r. r.log) (length logs) rs)
    (λ k d below.
    let inside : k < length logs = omega (arith, length-parts_of (λ (r : Record). r.log) (length logs) rs, below) in
    get_or-parts_of (λ r. r.log) (length logs) rs k d inside ∙ is.each k ∙ get_or_default logs k [] d inside)
