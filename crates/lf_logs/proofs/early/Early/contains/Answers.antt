use Rattle.std.proofs.Common.{ap, sym, ◌∙◌, is_some, ◌||◌, Bool}
use Rattle.lf_logs.specs.EarlyRecords.{EarlyRecords, kept_at, kept_whole}
use Rattle.lf_logs.proofs.EarlyLookups.{at, is_some_parts}
use Rattle.lf_logs.proofs.early.Early.contains.Goals as goal

pub returns-then-contains : goal.returns-then-contains
returns-then-contains c =
    let e = c.self.inside in
    let n = c.args.number in
    c.if-contains.true
    ∙ sym (sym (ap (λ (e : EarlyRecords). is_some (kept_at e n)) c.self.view_is)
    ∙ is_some_parts e.layout e.spelled (kept_whole e.whole.entries) n c.self.invariant
    ∙ ap (λ (b : Bool). b || is_some (at n (kept_whole e.whole.entries)))
    (sym c.contains.ensures ∙ c.if-contains.true))

pub returns-else-contains : goal.returns-else-contains
returns-else-contains c =
    let e = c.self.inside in
    let n = c.args.number in
    sym (sym (ap (λ (e : EarlyRecords). is_some (kept_at e n)) c.self.view_is)
    ∙ is_some_parts e.layout e.spelled (kept_whole e.whole.entries) n c.self.invariant
    ∙ ap (λ (b : Bool). b || is_some (at n (kept_whole e.whole.entries)))
    (sym c.contains.ensures ∙ c.if-contains.false) ∙ sym c.is_whole.ensures)
