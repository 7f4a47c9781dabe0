use Rattle.std.proofs.Common.{ap, ◌∙◌, length, arith, length-append}
use Rattle.std.proofs.lemmas.Bool.{eqb-true}
use Rattle.trace_early.specs.Table.{numbered, entries}
use Rattle.trace_early.proofs.Tables.{items_of, length_numbered}
use Rattle.trace_early.proofs.by_number.ByNumber.is_empty.Goals as goal

pub returns-else-self-eq0 : goal.returns-else-self-eq0
returns-else-self-eq0 c =
    let t = c.self.inside in
    let some = c.if-self-eq0.false in (
      λ none. absurd (some (eqb-true t.taken 0 none)),
      λ nil. absurd (omega (
        arith,
        ap length (c.self.view_is ∙ nil),
        length-append (numbered t.chunks (entries t.slots.items)) (items_of t.aside.entries),
        length_numbered t.chunks (entries t.slots.items),
        c.self.invariant.counted,
        some,
      )),
    )
