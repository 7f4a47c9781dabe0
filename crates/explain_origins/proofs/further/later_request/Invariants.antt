use Rattle.std.proofs.Common.{◌≡◌, drop}
use Rattle.explain_origins.specs.Further.{first_from, is_later_request, later_request}
use Rattle.explain_origins.proofs.further.later_request.Given as goal

abbrev pub invariant-loop-place : goal.invariant-loop-place
invariant-loop-place l = first_from (is_later_request l.naming.port l.naming.tag l.naming.bank l.naming.number) l.place
    (drop l.place l.records.records)
    ≡ later_request l.records.records l.naming.port l.naming.tag l.naming.bank l.naming.number
