-- The requests of each port that are issued and not yet accepted.
use Rattle.std.proofs.Common.{◌≡◌, ℕ, ◌<◌, cond, eqb, List, [], map, length, get_or, set, sym, ap, ◌∙◌}
use Rattle.std.proofs.Common.{⊎_elim, arith}
use Rattle.std.specs.Global.{Global}
use Rattle.std.specs.declared.collections.VecDeque.{VecDeque}
use Rattle.std.proofs.lemmas.Bool.{cases_eq, eq-eqb, ne_eqb}
use Rattle.std.proofs.lemmas.List.{length-map, map-set, get_or-map, get_or-set_same, get_or-set_other}
use Rattle.lf_stats.specs.Tally.{queue_in}

abbrev items : VecDeque ℕ Global → List ℕ
items queue = queue.items

-- the queue that stands there
pub queue_here : (queues : List (VecDeque ℕ Global)) (i : ℕ) (queue : VecDeque ℕ Global) → i < length queues
    → queue ≡ get_or queues i queue → queue_in queues i ≡ queue.items
queue_here queues i queue inside read =
    get_or-map items queues i queue [] inside ∙ ap (λ (q : VecDeque ℕ Global). q.items) (sym read)

-- the queues with another one there
pub queue_set : (queues : List (VecDeque ℕ Global)) (i : ℕ) (queue : VecDeque ℕ Global) (port : ℕ) → i < length queues
    → queue_in (set queues i queue) port ≡ cond (eqb i port) queue.items (queue_in queues port)
queue_set queues i queue port inside =
    let place : i < length (map items queues) = omega (arith, length-map queues items) in
    ap (λ xs. get_or xs port []) (map-set items queues i queue)
    ∙ ⊎_elim
    (λ (same : i ≡ port).
    ap (λ n. get_or (set (map items queues) i queue.items) n []) (sym same)
    ∙ get_or-set_same (map items queues) i queue.items [] place
    ∙ sym (ap (λ b. cond b queue.items (queue_in queues port)) (eq-eqb i port same)))
    (λ (other : i ≡ port → ⊥).
    get_or-set_other (map items queues) i port queue.items [] (λ e. other (sym e))
    ∙ sym (ap (λ b. cond b queue.items (queue_in queues port)) (ne_eqb i port other)))
    (cases_eq i port)

-- what became of the queue there, by what it was
pub at_own : (queues : List (VecDeque ℕ Global)) (i port : ℕ) (f : List ℕ → List ℕ) (xs : List ℕ)
    → xs ≡ f (queue_in queues i)
    → cond (eqb i port) xs (queue_in queues port) ≡ cond (eqb i port) (f (queue_in queues port)) (queue_in queues port)
at_own queues i port f xs is =
    ⊎_elim
    (λ (same : i ≡ port). ap (λ ys. cond (eqb i port) ys (queue_in queues port))
    (is ∙ ap (λ n. f (queue_in queues n)) same))
    (λ (other : i ≡ port → ⊥).
    ap (λ b. cond b xs (queue_in queues port)) (ne_eqb i port other)
    ∙ sym (ap (λ b. cond b (f (queue_in queues port)) (queue_in queues port)) (ne_eqb i port other)))
    (cases_eq i port)
