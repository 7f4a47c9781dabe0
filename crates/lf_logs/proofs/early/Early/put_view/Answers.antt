use Rattle.std.proofs.Common.{◌≡◌, true, is_some, refl, sym, ap, ◌∙◌, subst, not}
use Rattle.trace_early.specs.Table.{numbered_as}
use Rattle.lf_codec.specs.Layout.{record_bytes}
use Rattle.lf_logs.specs.EarlyRecords.{EarlyRecords, kept_at, kept_whole}
use Rattle.lf_logs.specs.Reordering.{CanKeep}
use Rattle.lf_logs.proofs.EarlyLookups.{none_read, at_same, still_spelled, few_bytes, one_more, put_own, spells}
use Rattle.lf_logs.proofs.EarlyLookups.{when_err}
use Rattle.lf_logs.proofs.early.Early.put_view.Goals as goal

pub put-requires-clause-len : goal.put-requires-clause-len
put-requires-clause-len c =
    let e = c.self-2.inside in
    let some : is_some e.layout ≡ true =
    ap (λ (e : EarlyRecords). is_some e.header) (c.self-2.view_is ∙ sym c.self.view_is)
    ∙ c.is_none.ensures ∙ ap not c.if-is_none.false in
    let is : c.args.bytes.now ≡ record_bytes c.args.item.now =
    spells c.args.bytes.now c.args.item.now c.requires.spelled
    (sym c.is_empty.ensures ∙ c.if-is_empty.false) in
    few_bytes e.layout e.spelled e.spelled c.args.bytes.now c.args.item.now c.self-2.invariant
    (subst (λ (e : EarlyRecords). CanKeep e.header c.args.item.now) (sym c.self-2.view_is) c.requires.fits) some is

pub put-requires-clause-absent : goal.put-requires-clause-absent
put-requires-clause-absent c =
    let e = c.self-2.inside in
    let n = c.args.item.now.number in
    ap (λ k. numbered_as k e.spelled) c.number.ensures
    ∙ none_read e.layout e.spelled (kept_whole e.whole.entries) n c.self-2.invariant
    (ap (λ (e : EarlyRecords). kept_at e n) c.self-2.view_is ∙ c.requires.absent)

pub invariant_of-self : goal.invariant_of-self
invariant_of-self c =
    let e = c.self-2.inside in
    still_spelled e.layout e.spelled c.put.new.self c.self-2.invariant
    (λ k bytes at. sym (c.in_err-put.ensures.unchanged k) ∙ at)

pub returns-in_err-put-clause-unchanged : goal.returns-in_err-put-clause-unchanged
returns-in_err-put-clause-unchanged c =
    let e = c.self-2.inside in
    when_err c.from_residual.result
    (λ k. at_same e.layout e.spelled c.put.new.self (kept_whole e.whole.entries) (kept_whole e.whole.entries) k
    (c.in_err-put.ensures.unchanged k) refl
    ∙ ap (λ (e : EarlyRecords). kept_at e k) c.self-2.view_is)

pub invariant_of-self-2 : goal.invariant_of-self-2
invariant_of-self-2 c =
    let e = c.self-2.inside in
    let some : is_some e.layout ≡ true =
    ap (λ (e : EarlyRecords). is_some e.header) (c.self-2.view_is ∙ sym c.self.view_is)
    ∙ c.is_none.ensures ∙ ap not c.if-is_none.false in
    let is : c.args.bytes.now ≡ record_bytes c.args.item.now =
    spells c.args.bytes.now c.args.item.now c.requires.spelled
    (sym c.is_empty.ensures ∙ c.if-is_empty.false) in
    one_more e.layout e.spelled c.put.new.self c.args.bytes.now c.args.item.now c.self-2.invariant
    (subst (λ (e : EarlyRecords). CanKeep e.header c.args.item.now) (sym c.self-2.view_is) c.requires.fits) some is
    (ap (λ k. numbered_as k c.put.new.self) (sym c.number.ensures) ∙ c.in_ok-put.ensures.own)
    (λ k other. c.in_ok-put.ensures.others k (λ same. other (same ∙ c.number.ensures)))

pub returns-clause-own : goal.returns-clause-own
returns-clause-own c =
    let e = c.self-2.inside in
    let some : is_some e.layout ≡ true =
    ap (λ (e : EarlyRecords). is_some e.header) (c.self-2.view_is ∙ sym c.self.view_is)
    ∙ c.is_none.ensures ∙ ap not c.if-is_none.false in
    let is : c.args.bytes.now ≡ record_bytes c.args.item.now =
    spells c.args.bytes.now c.args.item.now c.requires.spelled
    (sym c.is_empty.ensures ∙ c.if-is_empty.false) in
    put_own e.layout e.spelled c.put.new.self c.args.bytes.now c.args.item.now c.self-2.invariant
    (subst (λ (e : EarlyRecords). CanKeep e.header c.args.item.now) (sym c.self-2.view_is) c.requires.fits) some is
    (kept_whole e.whole.entries)
    (ap (λ k. numbered_as k c.put.new.self) (sym c.number.ensures) ∙ c.in_ok-put.ensures.own)

pub returns-clause-others : goal.returns-clause-others
returns-clause-others c k other =
    let e = c.self-2.inside in
    at_same e.layout e.spelled c.put.new.self (kept_whole e.whole.entries) (kept_whole e.whole.entries) k
    (c.in_ok-put.ensures.others k (λ same. other (same ∙ c.number.ensures))) refl
    ∙ ap (λ (e : EarlyRecords). kept_at e k) c.self-2.view_is
