-- The request whose tag waits at the end of a port's log.
use Rattle.std.proofs.Common.{◌≡◌, ℕ, suc, ◌<◌, Bool, true, false, ◌==◌, if◌then◌else◌, List, [], ◌∷◌, fold}
use Rattle.std.proofs.Common.{Option, Some, None, get_or, refl, sym, ap, ◌∙◌, arith}
use Rattle.std.proofs.lemmas.List.FromFn.{get_or-map-range_with_len}
use Rattle.lf_rules.specs.declared.event.Event.{Event}
use Rattle.lf_rules.specs.declared.event.Event.TheVariants as events
use Rattle.lf_rules.specs.declared.event.Record.{Record}
use Rattle.lf_rules.specs.Run.{of_log}
use Rattle.explain_history.specs.Waiting.{waiting_after, waiting_from, waiting_request}
use Rattle.lf_logs.specs.Lists.{logs_of}
use Rattle.lf_logs.specs.Incomplete.{waits, waits_after}

-- whether there is one
abbrev pub is_there : Option ℕ → Bool
is_there None = false
is_there (Some at) = true

-- ---- one event

chosen : (b : Bool) (at : ℕ) (before : Option ℕ) →
    is_there (if b then Some at else before) ≡ (if b then true else is_there before)
chosen true at before = refl
chosen false at before = refl

freed : (b : Bool) (before : Option ℕ) →
    is_there (if b then None else before) ≡ (if b then false else is_there before)
freed true before = refl
freed false before = refl

event_waits : (tag at : ℕ) (before : Option ℕ) (e : Event) →
    is_there (waiting_after tag at before e) ≡ waits_after tag (is_there before) e
event_waits tag at before (events.Issue op t size address bytes) = chosen (t == tag) at before
event_waits tag at before (events.Reply t size bytes) = freed (t == tag) before
event_waits tag at before (events.Hit port t) = refl
event_waits tag at before (events.Primary port t register) = refl
event_waits tag at before (events.Merge port t register) = refl
event_waits tag at before (events.Stall port t) = refl
event_waits tag at before (events.Fill1 block bytes) = refl
event_waits tag at before (events.Evict1 block mask bytes) = refl
event_waits tag at before (events.SecondHit block) = refl
event_waits tag at before (events.SecondPrimary block register) = refl
event_waits tag at before (events.SecondMerge block register) = refl
event_waits tag at before (events.SecondStall block) = refl
event_waits tag at before (events.Fill2 second bytes) = refl
event_waits tag at before (events.Evict2 second masks bytes) = refl
event_waits tag at before events.Fence = refl

-- ---- the records of a trace

-- whether the tag waits after these records of the port's log
abbrev pub waits_behind : ℕ → Bool → List Record → Bool
waits_behind tag before log = fold (λ b r. waits_after tag b r.event) before log

-- one record, by whether it stands in the port's log
record_waits : (port tag at : ℕ) (before : Option ℕ) (r : Record) (rs : List Record) (b : Bool)
    → (r.log == port) ≡ b
    → ((now : Option ℕ) → is_there (waiting_from port tag (suc at) now rs)
    ≡ waits_behind tag (is_there now) (of_log port rs))
    → is_there (waiting_from port tag at before (r ∷ rs)) ≡ waits_behind tag (is_there before) (of_log port (r ∷ rs))
record_waits port tag at before r rs true is rest =
    rw is (rest (waiting_after tag at before r.event)
    ∙ ap (λ (b : Bool). waits_behind tag b (of_log port rs)) (event_waits tag at before r.event))
record_waits port tag at before r rs false is rest = rw is (rest before)

pub waits_from : (port tag at : ℕ) (before : Option ℕ) (rs : List Record) →
    is_there (waiting_from port tag at before rs) ≡ waits_behind tag (is_there before) (of_log port rs)
waits_from port tag at before [] = refl
waits_from port tag at before (r ∷ rs) =
    record_waits port tag at before r rs (r.log == port) refl (λ now. waits_from port tag (suc at) now rs)

none_waits : (found : Option ℕ) → found ≡ None → is_there found ≡ true → ⊥
none_waits found none there = let bad : false ≡ true = sym (ap is_there none) ∙ there in absurd (cc)

-- A tag that waits at the end of a port's log has a request there.
pub has_request : (count port tag : ℕ) (logs : List (List Record)) (rs : List Record) → logs ≡ logs_of count rs
    → port < count → waits (get_or logs port []) tag ≡ true → waiting_request port tag rs ≡ None → ⊥
has_request count port tag logs rs are below is none =
    let log : get_or logs port [] ≡ of_log port rs =
    ap (λ (all : List (List Record)). get_or all port []) are
    ∙ get_or-map-range_with_len (λ (log : ℕ). of_log log rs) 0 count port port [] below (omega arith) in
    none_waits (waiting_request port tag rs) none
    (waits_from port tag 0 None rs ∙ sym (ap (λ (log : List Record). waits log tag) log) ∙ is)
