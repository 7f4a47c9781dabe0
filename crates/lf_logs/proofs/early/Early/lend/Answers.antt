use Rattle.std.proofs.Common.{◌≡◌, None, ap, sym, ◌∙◌, option_copied}
use Rattle.lf_logs.specs.EarlyRecords.{EarlyRecords, kept_at, kept_whole}
use Rattle.lf_logs.proofs.EarlyLookups.{lent_again, at_rest, none_without}
use Rattle.trace_early.specs.Table.{numbered_as}
use Rattle.lf_logs.proofs.early.Early.lend.Goals as goal
use Rattle.lf_logs.proofs.early.Early.lend.Goals.{in-Some+in_default-get, in_default}

pub returns-in-Some-get : goal.returns-in-Some-get
returns-in-Some-get c =
    let e = c.self.inside in
    let n = c.args.number in
    lent_again e.layout e.spelled (kept_whole e.whole.entries) n c.in-Some.layout c.in-Some-get.bytes.now
    c.lend.new.place c.self.invariant c.in-Some.is (sym c.get.ensures ∙ ap option_copied c.in-Some-get.is)
    c.lend.ensures
    ∙ ap (λ (e : EarlyRecords). kept_at e n) c.self.view_is

pub returns : goal.returns
returns c =
    let e = c.self.inside in
    let n = c.args.number in
    let none : numbered_as n e.spelled ≡ None = elim c.match-self.branch [
      | in-Some+in_default-get w ↦ sym w.get.ensures ∙ ap option_copied w.in_default-get.is
      | in_default w ↦ none_without e.layout e.spelled n c.self.invariant w.in_default.is
    ] in
    c.lend_whole.ensures ∙ sym (at_rest e.layout e.spelled (kept_whole e.whole.entries) n none)
    ∙ ap (λ (e : EarlyRecords). kept_at e n) c.self.view_is
