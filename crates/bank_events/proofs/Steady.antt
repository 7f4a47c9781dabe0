-- What holds of the requests that a steady bank has queued.
use Rattle.std.proofs.Common.{◌≡◌, ◌<◌, ℕ, true, false, List, [], ◌∷◌}
use Rattle.std.specs.Prelude.{Result, Ok, Err, OnOk, is_err}
use Rattle.std.specs.List.{AllByRecursion}
use Rattle.lf_rules.specs.State.{Request}
use Rattle.lf_rules.specs.Table.{is_head, oldest}
use Rattle.bank_state.specs.Queues.{queue_at}
use Rattle.bank_events.specs.BankView.{BankView, IsSteady}

head_tagged : (tags tag : ℕ) (queue : List Request) → AllByRecursion (λ request. request.tag < tags) queue →
    is_head queue tag ≡ true → (oldest queue).tag < tags
head_tagged tags tag [] all e = absurd (cc e)
head_tagged tags tag (request ∷ queue) all e = all.0

-- the oldest request of a queue has a tag of the shape
pub oldest_tagged : (view : BankView) → IsSteady view → (port tag : ℕ) →
    is_head (queue_at view.queues port) tag ≡ true → (oldest (queue_at view.queues port)).tag < view.shape.tags
oldest_tagged view steady port tag e =
    head_tagged view.shape.tags tag (queue_at view.queues port) (steady.tagged port) e

-- what holds of a call that was not refused
pub if_ok : {T E P : Type 0} (r : Result T E) → false ≡ is_err r → OnOk r P → P
if_ok (Ok done) e holds = holds
if_ok (Err fault) e holds = absurd (cc e)
