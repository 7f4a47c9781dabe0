-- The request that a record is or names.
use Rattle.std.specs.Prelude.{ℕ, Bool, false, ◌&&◌, ◌==◌, List, [], ◌∷◌, ◌++◌, drop, fold, Option, Some, None}
use Rattle.std.specs.Prelude.{option_to_list, if◌then◌else◌}
use Rattle.lf_rules.specs.declared.event.Event.{Event}
use Rattle.lf_rules.specs.declared.event.Event.TheVariants.{Issue, Reply, Hit, Primary, Merge, Stall}
use Rattle.lf_rules.specs.declared.event.Record.{Record}
use Rattle.explain_history.specs.Request.{address_by, last_address}

-- does the event accept a request of the port with this tag?
abbrev pub accepts : ℕ → ℕ → Event → Bool
accepts port tag (Hit p t) = (p == port) && (t == tag)
accepts port tag (Primary p t register) = (p == port) && (t == tag)
accepts port tag (Merge p t register) = (p == port) && (t == tag)
accepts port tag _ = false

abbrev pub accepts_at : ℕ → ℕ → Option Record → Bool
accepts_at port tag None = false
accepts_at port tag (Some r) = accepts port tag r.event

-- the addresses of the port's requests with this tag that wait, after one more record: the oldest is accepted
abbrev pub waits_after : ℕ → ℕ → List ℕ → Record → List ℕ
waits_after port tag waiting r =
    if accepts port tag r.event then drop 1 waiting
    else waiting ++ option_to_list (address_by port tag r.log r.event None)

-- the addresses of those that wait after these records, the oldest first
abbrev pub waiting : List Record → ℕ → ℕ → List ℕ
waiting before port tag = fold (waits_after port tag) [] before

-- that of the oldest, and where none waits this one
abbrev pub first_or : List ℕ → Option ℕ → Option ℕ
first_or [] last = last
first_or (address ∷ waiting) last = Some address

-- the address of the request of the port with this tag: of the oldest one that waits, and where none does of the last
abbrev pub request_address : List Record → ℕ → ℕ → Option ℕ
request_address before port tag = first_or (waiting before port tag) (last_address before port tag)

-- the address of the request that an event of a log is or names, after these records
abbrev pub requested : List Record → ℕ → Event → Option ℕ
requested before log (Issue op tag size address bytes) = Some address
requested before log (Reply tag size bytes) = last_address before log tag
requested before log (Hit port tag) = request_address before port tag
requested before log (Primary port tag register) = request_address before port tag
requested before log (Merge port tag register) = request_address before port tag
requested before log (Stall port tag) = request_address before port tag
requested before log _ = None
