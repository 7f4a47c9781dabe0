-- Which request waits, one record after another.
use Rattle.std.proofs.Common.{◌≡◌, ℕ, ◌+◌, ◌<◌, Bool, ◌==◌, List, ◌∷◌, Option, length, get_or, drop, sym}
use Rattle.std.proofs.Common.{ap, ◌∙◌, if◌then◌else◌, suc, add-one}
use Rattle.std.proofs.Common.{Some, None, arith}
use Rattle.std.specs.Prelude.{IfSome}
use Rattle.std.proofs.lemmas.List.{drop_more}
use Rattle.lf_rules.specs.declared.event.Record.{Record}
use Rattle.explain_history.specs.Waiting.{waiting_after, waiting_from}
use Rattle.explain_history.proofs.Records.{no_record}

-- one record, by whether it stands in the port's log
wait_one : (port tag k : ℕ) (before : Option ℕ) (r : Record) (rs : List Record) (b : Bool) → (r.log == port) ≡ b
    → waiting_from port tag k before (r ∷ rs)
    ≡ waiting_from port tag (k + 1) (if b then waiting_after tag k before r.event else before) rs
wait_one port tag k before r rs b is =
    ap (λ (own : Bool). waiting_from port tag (suc k)
    (if own then waiting_after tag k before r.event else before) rs) is
    ∙ ap (λ (n : ℕ). waiting_from port tag n (if b then waiting_after tag k before r.event else before) rs)
    (sym (add-one k))

pub wait_from : (port tag k : ℕ) (before : Option ℕ) (rs : List Record) (b : Bool) → k < length rs
    → ((get_or rs k no_record).log == port) ≡ b
    → waiting_from port tag k before (drop k rs)
    ≡ waiting_from port tag (k + 1) (if b then waiting_after tag k before (get_or rs k no_record).event else before)
    (drop (k + 1) rs)
wait_from port tag k before rs b lt is =
    ap (waiting_from port tag k before) (drop_more rs k no_record lt)
    ∙ wait_one port tag k before (get_or rs k no_record) (drop (k + 1) rs) b is

-- A place below a record is below the next one.
pub further : (found : Option ℕ) (k : ℕ) → IfSome found (λ place. place < k) → IfSome found (λ place. place < k + 1)
further None k inside = tt
further (Some place) k inside = omega (arith, inside)
