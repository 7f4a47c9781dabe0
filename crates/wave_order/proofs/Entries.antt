-- The banks and numbers of each log, as a record is read or comes.
use Rattle.std.proofs.Common.{◌≡◌, ℕ, zero, suc, ◌<◌, true, ◌==◌, List, [], ◌∷◌, ◌++◌, length}
use Rattle.std.proofs.Common.{drop, map, set, get_or, Global, refl, sym, ap, ◌∙◌, subst, eqb-true, inl, inr, arith}
use Rattle.std.proofs.lemmas.Bool.{cases_Bool, cond-true, cond-false, eqb-false}
use Rattle.std.proofs.lemmas.List.{get_or-set_same, get_or-set_other, append-nil, map-append, map-set, get_or-map}
use Rattle.std.proofs.lemmas.List.{length-map}
use Rattle.std.specs.declared.collections.VecDeque.{VecDeque}
use Rattle.lf_rules.specs.declared.event.Record.{Record}
use Rattle.lf_rules.specs.Order.{log_at}
use Rattle.lf_rules.specs.Ring.{entry_of}
use Rattle.lf_rules.specs.Run.{of_log}
use Rattle.wave_order.specs.Left.{count_left}
use Rattle.wave_order.specs.Ordered.{without_next}
use Rattle.wave_order.proofs.Ordered.{of_log-append, of_log-without, of_log-without_other}

-- They are those of the records.
abbrev pub AreOf : List (List (ℕ × ℕ)) → List Record → Type 0
AreOf logs records = (log : ℕ) → log_at logs log ≡ map entry_of (of_log log records)

map-rest : (records : List Record) → map entry_of (drop 1 records) ≡ drop 1 (map entry_of records)
map-rest [] = refl
map-rest (r ∷ records) = refl

-- one more record
pub one_behind : (logs : List (List (ℕ × ℕ))) (records : List Record) (r : Record) → r.log < length logs →
    AreOf logs records → AreOf (set logs r.log (log_at logs r.log ++ entry_of r ∷ [])) (records ++ r ∷ [])
one_behind logs records r within are log =
    let queue = log_at logs r.log ++ entry_of r ∷ [] in
    elim (cases_Bool (r.log == log)) [
      | inl is ↦
          subst (λ (k : ℕ). log_at (set logs r.log queue) k ≡ map entry_of (of_log k (records ++ r ∷ [])))
          (eqb-true r.log log is)
          (get_or-set_same logs r.log queue [] within
          ∙ ap (λ (l : List (ℕ × ℕ)). l ++ entry_of r ∷ []) (are r.log)
          ∙ sym (map-append entry_of (of_log r.log records) (r ∷ []))
          ∙ ap (λ (l : List Record). map entry_of (of_log r.log records ++ l))
          (sym (cond-true (r.log == r.log) (r ∷ []) []
          (subst (λ (k : ℕ). (r.log == k) ≡ true) (sym (eqb-true r.log log is)) is)))
          ∙ ap (map entry_of) (sym (of_log-append r.log records (r ∷ []))))
      | inr isnt ↦
          get_or-set_other logs r.log log queue [] (λ same. eqb-false r.log log isnt (sym same))
          ∙ are log
          ∙ ap (map entry_of) (sym (append-nil (of_log log records)))
          ∙ ap (λ (l : List Record). map entry_of (of_log log records ++ l))
          (sym (cond-false (r.log == log) (r ∷ []) [] isnt))
          ∙ ap (map entry_of) (sym (of_log-append log records (r ∷ [])))
    ]

-- one less
pub one_less : (logs : List (List (ℕ × ℕ))) (records : List Record) (log : ℕ) → log < length logs →
    AreOf logs records → AreOf (set logs log (drop 1 (log_at logs log))) (without_next log records)
one_less logs records log within are k =
    let queue = drop 1 (log_at logs log) in
    elim (cases_Bool (log == k)) [
      | inl is ↦
          subst (λ (j : ℕ). log_at (set logs log queue) j ≡ map entry_of (of_log j (without_next log records)))
          (eqb-true log k is)
          (get_or-set_same logs log queue [] within
          ∙ ap (drop 1) (are log)
          ∙ sym (map-rest (of_log log records))
          ∙ ap (map entry_of) (sym (of_log-without log records)))
      | inr isnt ↦
          get_or-set_other logs log k queue [] (λ same. eqb-false log k isnt (sym same))
          ∙ are k
          ∙ ap (map entry_of) (sym (of_log-without_other log k records isnt))
    ]

-- one more log
at_end : (logs : List (List (ℕ × ℕ))) (log : ℕ) → log_at (logs ++ [] ∷ []) log ≡ log_at logs log
at_end [] zero = refl
at_end [] (suc log) = refl
at_end (queue ∷ logs) zero = refl
at_end (queue ∷ logs) (suc log) = at_end logs log

pub one_log_more : (logs : List (List (ℕ × ℕ))) (records : List Record) → AreOf logs records →
    AreOf (logs ++ [] ∷ []) records
one_log_more logs records are log = at_end logs log ∙ are log

pub none_at_first : AreOf [] []
none_at_first zero = refl
none_at_first (suc log) = refl

-- one less is left
pub fewer : (logs : List (List (ℕ × ℕ))) (log : ℕ) (queue : List (ℕ × ℕ)) → length queue < length (log_at logs log) →
    count_left (set logs log queue) < count_left logs
fewer [] zero queue less = omega (arith, less)
fewer [] (suc log) queue less = omega (arith, less)
fewer (q ∷ logs) zero queue less = omega (arith, less)
fewer (q ∷ logs) (suc log) queue less = omega (arith, fewer logs log queue less)

-- ---- a vector of queues

abbrev pub Queue : Type 0
Queue = VecDeque (ℕ × ℕ) Global

module _ (queues : List Queue) (i : ℕ) where
  pub set_queue : (queue : Queue) →
      map (λ q. q.items) (set queues i queue) ≡ set (map (λ q. q.items) queues) i queue.items
  set_queue queue = map-set (λ q. q.items) queues i queue

  pub queue_at : (queue : Queue) → queue ≡ get_or queues i queue → i < length queues →
      log_at (map (λ q. q.items) queues) i ≡ queue.items
  queue_at queue is within =
      get_or-map (λ (q : Queue). q.items) queues i queue [] within ∙ ap (λ (q : Queue). q.items) (sym is)

  pub as_many : i < length queues → i < length (map (λ (q : Queue). q.items) queues)
  as_many within = omega (arith, length-map queues (λ (q : Queue). q.items), within)

  -- the first of them comes
  pub goes : (records : List Record) (old new : Queue) → old ≡ get_or queues i old → i < length queues →
      AreOf (map (λ q. q.items) queues) records → new.items ≡ drop 1 old.items →
      AreOf (map (λ q. q.items) (set queues i new)) (without_next i records)
  goes records old new is within are rest =
      let logs = map (λ (q : Queue). q.items) queues in
      subst (λ (ls : List (List (ℕ × ℕ))). AreOf ls (without_next i records))
      (sym (set_queue new
      ∙ ap (set logs i) (rest ∙ ap (drop 1) (sym (queue_at old is within)))))
      (one_less logs records i (as_many within) are)

  -- one was read behind them
  pub comes_behind : (records : List Record) (r : Record) (old new : Queue) → i ≡ r.log → old ≡ get_or queues i old →
      i < length queues → AreOf (map (λ q. q.items) queues) records → new.items ≡ old.items ++ entry_of r ∷ [] →
      AreOf (map (λ q. q.items) (set queues i new)) (records ++ r ∷ [])
  comes_behind records r old new same is within are behind =
      let logs = map (λ (q : Queue). q.items) queues in
      subst (λ (ls : List (List (ℕ × ℕ))). AreOf ls (records ++ r ∷ []))
      (sym (set_queue new
      ∙ ap (set logs i) (behind ∙ ap (λ (l : List (ℕ × ℕ)). l ++ entry_of r ∷ []) (sym (queue_at old is within)))
      ∙ ap (λ (k : ℕ). set logs k (log_at logs k ++ entry_of r ∷ [])) same))
      (one_behind logs records r (subst (λ (k : ℕ). k < length logs) same (as_many within)) are)

  -- and one less is left
  pub fewer_queued : (old new : Queue) (e : ℕ × ℕ) → old ≡ get_or queues i old → i < length queues →
      old.items ≡ e ∷ new.items →
      count_left (map (λ q. q.items) (set queues i new)) < count_left (map (λ q. q.items) queues)
  fewer_queued old new e is within first =
      let logs = map (λ (q : Queue). q.items) queues in
      let longer : length (log_at logs i) ≡ length (e ∷ new.items) = ap length (queue_at old is within ∙ first) in
      subst (λ (ls : List (List (ℕ × ℕ))). count_left ls < count_left logs) (sym (set_queue new))
      (fewer logs i new.items (omega (arith, longer)))

pub log_more : (queues : List Queue) (q : Queue) (records : List Record) → q.items ≡ [] →
    AreOf (map (λ q. q.items) queues) records → AreOf (map (λ q. q.items) (queues ++ q ∷ [])) records
log_more queues q records none are =
    let logs = map (λ (q : Queue). q.items) queues in
    subst (λ (ls : List (List (ℕ × ℕ))). AreOf ls records)
    (sym (map-append (λ (q : Queue). q.items) queues (q ∷ []) ∙ ap (λ (l : List (ℕ × ℕ)). logs ++ l ∷ []) none))
    (one_log_more logs records are)

pub no_log : (queues : List Queue) → queues ≡ [] → AreOf (map (λ q. q.items) queues) []
no_log queues none = subst (λ (qs : List Queue). AreOf (map (λ q. q.items) qs) []) (sym none) none_at_first
