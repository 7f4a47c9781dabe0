use Rattle.std.proofs.Common.{List, ◌++◌, ap}
use Rattle.lf_rules.specs.declared.event.Record.{Record}
use Rattle.lf_codec.proofs.Packing.{within_stay, records_stay}
use Rattle.lf_codec.proofs.packed.Packed.keep.Goals as goal

pub invariant_of-self-2 : goal.invariant_of-self-2
invariant_of-self-2 c =
    let s = c.self.inside in
    rw c.in_ok-extend_from_slice.ensures.items (within_stay s.header s.bytes.items c.args.piece.now s.forms.items
    c.self.invariant)

pub returns-clause-kept : goal.returns-clause-kept
returns-clause-kept c =
    let s = c.self.inside in let piece = c.args.piece.now in
    rw (c.in_ok-extend_from_slice.ensures.items, ← c.self.view_is)
    (ap (λ (rs : List Record). record { header = s.header; bytes = s.bytes.items ++ piece; records = rs })
    (records_stay s.header s.bytes.items piece s.forms.items c.self.invariant))
