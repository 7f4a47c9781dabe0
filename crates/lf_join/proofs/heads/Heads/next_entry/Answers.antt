use Rattle.std.proofs.Common.{◌<◌, ◌∙◌, ap, subst, slice_index, length, IsSome, arith}
use Rattle.lf_rules.specs.Ring.{entry_at}
use Rattle.lf_join.proofs.Entries.{read_is, read_within}
use Rattle.lf_join.proofs.heads.Heads.next_entry.Goals as goal

pub returns-clause-entry : goal.returns-clause-entry
returns-clause-entry c =
    let h = c.get.ensures.lookup in
    let place = slice_index c.args.self.now.places c.args.log in
    c.copied.ensures ∙ read_is c.entries.result.now place c.get.result h.3 h.1
    ∙ ap (λ xs. entry_at xs place) c.entries.ensures

pub returns-clause-small : goal.returns-clause-small
returns-clause-small c some =
    let h = c.get.ensures.lookup in
    let place = slice_index c.args.self.now.places c.args.log in
    let fits = c.entries.type_inv in
    let within : place < length c.entries.result.now = read_within c.entries.result.now place c.get.result h.3
    (subst (λ r. IsSome r) c.copied.ensures some) in
    omega (arith, within, fits.0, fits.1)
