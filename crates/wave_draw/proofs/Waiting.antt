-- The logs of records, as one comes, one goes or none is left.
use Rattle.std.proofs.Common.{◌≡◌, ℕ, zero, suc, ◌<◌, ◌≤◌, false, ◌==◌, List, [], ◌∷◌, ◌++◌, length}
use Rattle.std.proofs.Common.{drop, map, set, get_or, Global, refl, sym, ap, ◌∙◌, subst, eq-eqb, eqb-true, inl, inr}
use Rattle.std.proofs.Common.{arith}
use Rattle.std.specs.List.{All}
use Rattle.std.proofs.lemmas.Bool.{cases_Bool, cond-true, cond-false, eqb-false}
use Rattle.std.proofs.lemmas.List.{get_or-set_same, get_or-set_other, get_or_past, append-nil, map-set, get_or-map}
use Rattle.std.proofs.lemmas.List.{length-map}
use Rattle.std.specs.declared.collections.VecDeque.{VecDeque}
use Rattle.lf_rules.specs.declared.event.Record.{Record}
use Rattle.lf_rules.specs.Run.{of_log, Interleaves}
use Rattle.lf_rules.specs.Order.{log_at}
use Rattle.wave_order.specs.Ordered.{without_next}
use Rattle.wave_order.proofs.Ordered.{of_log-append, of_log-without, of_log-without_other, without_none}

same_set : (logs : List (List Record)) (log : ℕ) (queue : List Record) → (log < length logs) →
    log_at (set logs log queue) log ≡ queue
same_set logs log queue within = get_or-set_same logs log queue [] within

other_set : (logs : List (List Record)) (log k : ℕ) (queue : List Record) → (log == k) ≡ false →
    log_at (set logs log queue) k ≡ log_at logs k
other_set logs log k queue apart = get_or-set_other logs log k queue [] (λ same. eqb-false log k apart (sym same))

-- one more record
one_behind : (logs : List (List Record)) (records : List Record) (r : Record) (queue : List Record) →
    r.log < length logs → queue ≡ log_at logs r.log ++ r ∷ [] → Interleaves logs records →
    Interleaves (set logs r.log queue) (records ++ r ∷ [])
one_behind logs records r queue within behind are = record {
  each = λ log.
      of_log-append log records (r ∷ []) ∙
      elim (cases_Bool (r.log == log)) [
        | inl is ↦
            ap (λ (l : List Record). of_log log records ++ l)
            (cond-true (r.log == log) (r ∷ []) [] is)
            ∙ ap (λ (l : List Record). l ++ r ∷ []) (are.each log)
            ∙ subst (λ (k : ℕ). log_at logs k ++ r ∷ [] ≡ log_at (set logs r.log queue) k) (eqb-true r.log log is)
            (sym (same_set logs r.log queue within ∙ behind))
        | inr is ↦
            ap (λ (l : List Record). of_log log records ++ l)
            (cond-false (r.log == log) (r ∷ []) [] is)
            ∙ append-nil (of_log log records)
            ∙ are.each log
            ∙ sym (other_set logs r.log log queue is)
      ];
}

-- one less
pub one_less : (logs : List (List Record)) (records : List Record) (log : ℕ) (queue : List Record) →
    log < length logs → queue ≡ drop 1 (log_at logs log) → Interleaves logs records →
    Interleaves (set logs log queue) (without_next log records)
one_less logs records log queue within rest are = record {
  each = λ k.
      elim (cases_Bool (log == k)) [
        | inl is ↦
            subst (λ (j : ℕ). of_log j (without_next log records) ≡ log_at (set logs log queue) j) (eqb-true log k is)
            (of_log-without log records ∙ ap (drop 1) (are.each log)
            ∙ sym (same_set logs log queue within ∙ rest))
        | inr is ↦ of_log-without_other log k records is ∙ are.each k ∙ sym (other_set logs log k queue is)
      ];
}

-- there is no such log
pub none_of_it : (logs : List (List Record)) (records : List Record) (log : ℕ) → length logs ≤ log →
    Interleaves logs records → of_log log records ≡ []
none_of_it logs records log beyond are = are.each log ∙ get_or_past logs log [] beyond

pub none_less : (logs : List (List Record)) (records : List Record) (log : ℕ) → length logs ≤ log →
    Interleaves logs records → Interleaves logs (without_next log records)
none_less logs records log beyond are =
    subst (Interleaves logs) (sym (without_none log records (none_of_it logs records log beyond are))) are

-- one more log
at_end : (logs : List (List Record)) (log : ℕ) → log_at (logs ++ [] ∷ []) log ≡ log_at logs log
at_end [] zero = refl
at_end [] (suc log) = refl
at_end (queue ∷ logs) zero = refl
at_end (queue ∷ logs) (suc log) = at_end logs log

pub one_log_more : (logs : List (List Record)) (records : List Record) → Interleaves logs records →
    Interleaves (logs ++ [] ∷ []) records
one_log_more logs records are = record { each = λ log. are.each log ∙ sym (at_end logs log) }

-- no record
pub none_left : (logs : List (List Record)) (records : List Record) → ((log : ℕ) → log_at logs log ≡ []) →
    Interleaves logs records → records ≡ []
none_left logs [] empty are = refl
none_left logs (r ∷ records) empty are =
    let bad : r ∷ of_log r.log records ≡ [] =
    sym (cond-true (r.log == r.log) (r ∷ of_log r.log records) (of_log r.log records) (eq-eqb r.log r.log refl))
    ∙ are.each r.log ∙ empty r.log in cc

-- ---- a vector of queues

abbrev pub Queue : Type 0
Queue = VecDeque Record Global

module _ (queues : List Queue) (log i : ℕ) (same : i ≡ log) where
  set_queue : (queue : Queue) →
      map (λ q. q.items) (set queues i queue) ≡ set (map (λ q. q.items) queues) log queue.items
  set_queue queue = map-set (λ q. q.items) queues i queue
      ∙ ap (λ (k : ℕ). set (map (λ q. q.items) queues) k queue.items) same

  queue_at : (queue : Queue) → queue ≡ get_or queues i queue → i < length queues →
      log_at (map (λ q. q.items) queues) log ≡ queue.items
  queue_at queue is within =
      ap (λ (k : ℕ). log_at (map (λ q. q.items) queues) k) (sym same)
      ∙ get_or-map (λ (q : Queue). q.items) queues i queue [] within
      ∙ ap (λ (q : Queue). q.items) (sym is)

  module _ (records : List Record) (old new : Queue) (is : old ≡ get_or queues i old) (within : i < length queues)
      (are : Interleaves (map (λ q. q.items) queues) records) where
    there : log < length (map (λ q. q.items) queues)
    there = omega (arith, length-map queues (λ (q : Queue). q.items), same, within)

    -- the first of them goes
    pub one_goes : new.items ≡ drop 1 old.items →
        Interleaves (map (λ q. q.items) (set queues i new)) (without_next log records)
    one_goes rest =
        subst (λ (logs : List (List Record)). Interleaves logs (without_next log records)) (sym (set_queue new))
        (one_less (map (λ q. q.items) queues) records log new.items there
        (rest ∙ ap (drop 1) (sym (queue_at old is within))) are)

    -- one comes behind them
    pub one_comes : (r : Record) → r.log ≡ log → new.items ≡ old.items ++ r ∷ [] →
        Interleaves (map (λ q. q.items) (set queues i new)) (records ++ r ∷ [])
    one_comes r own behind =
        let logs = map (λ (q : Queue). q.items) queues in
        subst (λ (logs : List (List Record)). Interleaves logs (records ++ r ∷ []))
        (sym (set_queue new ∙ ap (λ (k : ℕ). set logs k new.items) (sym own)))
        (one_behind logs records r new.items (omega (arith, own, there))
        (behind ∙ ap (λ (l : List Record). l ++ r ∷ []) (sym (queue_at old is within))
        ∙ ap (λ (k : ℕ). log_at logs k ++ r ∷ []) (sym own)) are)

pub each_empty : (queues : List Queue) → All (λ q. q.items ≡ []) queues → (log : ℕ) →
    log_at (map (λ q. q.items) queues) log ≡ []
each_empty [] all log = refl
each_empty (queue ∷ queues) all zero = all 0 queue (omega arith)
each_empty (queue ∷ queues) all (suc log) = each_empty queues (λ k d below. all (suc k) d (omega arith)) log

pub none_waits : (queues : List Queue) (records : List Record) → Interleaves (map (λ q. q.items) queues) records →
    All (λ q. q.items ≡ []) queues → records ≡ []
none_waits queues records are all = none_left (map (λ q. q.items) queues) records (each_empty queues all) are

-- and where none waits, each queue is empty
pub all_empty : (queues : List Queue) → Interleaves (map (λ q. q.items) queues) [] → All (λ q. q.items ≡ []) queues
all_empty queues are k d within =
    sym (are.each k ∙ get_or-map (λ (q : Queue). q.items) queues k d [] within)
