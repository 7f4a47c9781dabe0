-- The last request of a port and tag.
use Rattle.std.specs.Prelude.{ℕ, ◌&&◌, ◌==◌, List, fold, Option, Some, None, if◌then◌else◌}
use Rattle.lf_rules.specs.declared.event.Event.{Event}
use Rattle.lf_rules.specs.declared.event.Event.TheVariants.{Issue}
use Rattle.lf_rules.specs.declared.event.Record.{Record}

-- the address that a request of a port and tag asks for, where an event of a log is that request
abbrev pub address_by : ℕ → ℕ → ℕ → Event → Option ℕ → Option ℕ
address_by port tag log (Issue op t size address bytes) earlier =
    if (log == port) && (t == tag) then Some address else earlier
address_by port tag log _ earlier = earlier

-- the address that the last request of the port with this tag asks for, among records one after another
abbrev pub last_address : List Record → ℕ → ℕ → Option ℕ
last_address rs port tag = fold (λ earlier r. address_by port tag r.log r.event earlier) None rs
