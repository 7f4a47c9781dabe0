-- The first request of a port in a list of requests, and the list without it.
use Rattle.std.proofs.Common.{◌≡◌, ℕ, ◌+◌, ◌≤◌, ◌==◌, Bool, true, false, cond, not, List, [], ◌∷◌, ◌++◌, Option, Some}
use Rattle.std.proofs.Common.{None, refl, sym, ap, subst, ◌∙◌, append-nil, arith, eqb-true, suc, take, drop, length}
use Rattle.std.proofs.Common.{nat_lt}
use mathlib.Core.Path.{ap₂}
use Rattle.std.proofs.lemmas.Bool.{ltb-false}
use Rattle.std.proofs.lemmas.List.{take_all, drop_all}
use Rattle.std.proofs.lemmas.List.Elements.{filter-append}
use Rattle.std.specs.Prelude.{unwrap_or}
use Rattle.std.specs.List.{filter, find, position, position_or_len, remove}
use Rattle.wave_traffic.specs.declared.queue.Queued.{Queued}
use Rattle.wave_traffic.specs.Flow.{is_of_port, nobody, oldest, without_oldest}

-- ---- the oldest request leaves a list

dropped_at : (queue : List Queued) (port : ℕ)
    → take (position_or_len (is_of_port port) queue) queue
    ++ drop (suc (position_or_len (is_of_port port) queue)) queue ≡ without_oldest port queue
dropped_at [] port = refl
dropped_at (q ∷ queue) port = go (is_of_port port q) (dropped_at queue port)
  where
    go : (b : Bool) → take (position_or_len (is_of_port port) queue) queue
        ++ drop (suc (position_or_len (is_of_port port) queue)) queue ≡ without_oldest port queue
        → take (cond (not b) (1 + position_or_len (is_of_port port) queue) 0) (q ∷ queue)
        ++ drop (suc (cond (not b) (1 + position_or_len (is_of_port port) queue) 0)) (q ∷ queue)
        ≡ cond b queue (q ∷ without_oldest port queue)
    go true rest = refl
    go false rest =
        let one : 1 + position_or_len (is_of_port port) queue
        ≡ suc (position_or_len (is_of_port port) queue) = omega arith in
        ap (λ k. take k (q ∷ queue) ++ drop (suc k) (q ∷ queue)) one ∙ ap (λ (qs : List Queued). q ∷ qs) rest

pub removed_at : (queue : List Queued) (port at : ℕ) → Some at ≡ position (is_of_port port) queue →
    remove queue at ≡ without_oldest port queue
removed_at queue port at e = go (nat_lt (position_or_len (is_of_port port) queue) (length queue)) e
  where
    go : (b : Bool) → ◌≡◌ {A = Option ℕ} (Some at) (cond b (Some (position_or_len (is_of_port port) queue))
        None) → remove queue at ≡ without_oldest port queue
    go true f = let same : at ≡ position_or_len (is_of_port port) queue = cc in
        ap (remove queue) same ∙ dropped_at queue port
    go false f = absurd (cc)

pub none_removed : (queue : List Queued) (port : ℕ) → None ≡ position (is_of_port port) queue →
    queue ≡ without_oldest port queue
none_removed queue port e = go (nat_lt (position_or_len (is_of_port port) queue) (length queue)) refl e
  where
    go : (b : Bool) → nat_lt (position_or_len (is_of_port port) queue) (length queue) ≡ b
        → ◌≡◌ {A = Option ℕ} None (cond b (Some (position_or_len (is_of_port port) queue)) None) →
        queue ≡ without_oldest port queue
    go true e f = absurd (cc)
    go false e f =
        let past : length queue ≤ position_or_len (is_of_port port) queue =
        ltb-false (position_or_len (is_of_port port) queue) (length queue) e in
        sym (append-nil queue) ∙ ap₂ (λ (xs ys : List Queued). xs ++ ys) (sym (take_all _ queue past))
        (sym (drop_all (suc (position_or_len (is_of_port port) queue)) queue (omega arith)))
        ∙ dropped_at queue port

-- ---- the requests of one port

abbrev pub of_port : ℕ → List Queued → List Queued
of_port port queue = filter (is_of_port port) queue

abbrev pub first_or : Queued → List Queued → Queued
first_or q [] = q
first_or q (x ∷ xs) = x

pub pushed : (queue : List Queued) (q : Queued) (port : ℕ) →
    of_port port (queue ++ q ∷ []) ≡ cond (q.port == port) (of_port port queue ++ q ∷ []) (of_port port queue)
pushed queue q port =
    filter-append (is_of_port port) queue (q ∷ [])
    ∙ elim (q.port == port) as (λ b. of_port port queue ++ cond b (q ∷ []) []
    ≡ cond b (of_port port queue ++ q ∷ []) (of_port port queue)) [
      | true ↦ refl
      | false ↦ append-nil (of_port port queue)
    ]

pub oldest_is_first : (queue : List Queued) (port : ℕ) → oldest port queue ≡ first_or (nobody port) (of_port port queue)
oldest_is_first [] port = refl
oldest_is_first (q ∷ queue) port = go (is_of_port port q) (oldest_is_first queue port)
  where
    go : (b : Bool) → oldest port queue ≡ first_or (nobody port) (of_port port queue) →
        unwrap_or (cond b (Some q) (find (is_of_port port) queue)) (nobody port)
        ≡ first_or (nobody port) (cond b (q ∷ of_port port queue) (of_port port queue))
    go true same = refl
    go false same = same

pub dropped : (queue : List Queued) (port k : ℕ) →
    of_port k (without_oldest port queue) ≡ cond (port == k) (drop 1 (of_port k queue)) (of_port k queue)
dropped [] port k = elim (port == k) as (λ b. ◌≡◌ {A = List Queued} [] (cond b (drop 1 []) [])) [
  | true ↦ refl
  | false ↦ refl
]
dropped (q ∷ queue) port k = go (q.port == port) refl (dropped queue port k)
  where
    seen : List Queued
    seen = cond (q.port == k) (q ∷ of_port k queue) (of_port k queue)

    it_leaves : q.port ≡ port → of_port k queue ≡ cond (port == k) (drop 1 seen) seen
    it_leaves e = subst (λ n. of_port k queue ≡ cond (n == k) (drop 1 seen) seen) e
        (elim (q.port == k) as (λ b. of_port k queue ≡ cond b (drop 1 (cond b (q ∷ of_port k queue) (of_port k queue)))
        (cond b (q ∷ of_port k queue) (of_port k queue))) [
          | true ↦ refl
          | false ↦ refl
        ])

    it_stays : (q.port == port) ≡ false → (b : Bool) → (port == k) ≡ b →
        of_port k (without_oldest port queue) ≡ cond b (drop 1 (of_port k queue)) (of_port k queue) →
        cond (q.port == k) (q ∷ of_port k (without_oldest port queue)) (of_port k (without_oldest port queue))
        ≡ cond b (drop 1 seen) seen
    it_stays other true is same =
        let apart : (q.port == k) ≡ false = subst (λ n. (q.port == n) ≡ false) (eqb-true port k is) other in
        rw apart same
    it_stays other false is same =
        ap (λ (qs : List Queued). cond (q.port == k) (q ∷ qs) qs) same

    go : (b : Bool) → (q.port == port) ≡ b →
        of_port k (without_oldest port queue) ≡ cond (port == k) (drop 1 (of_port k queue)) (of_port k queue) →
        of_port k (cond b queue (q ∷ without_oldest port queue)) ≡ cond (port == k) (drop 1 seen) seen
    go true e same = it_leaves (eqb-true q.port port e)
    go false e same = it_stays e (port == k) refl same
