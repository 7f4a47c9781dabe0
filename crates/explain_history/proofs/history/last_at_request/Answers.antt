use Rattle.std.proofs.Common.{◌≡◌, ℕ, ◌∙◌, ap, [], Option}
use Rattle.std.specs.Prelude.{slice_index_or}
use Rattle.std.proofs.lemmas.Option.{slice_get-get_or}
use Rattle.lf_rules.specs.declared.event.Record.{Record}
use Rattle.explain_history.specs.History.{places_of_bank, touched_by}
use Rattle.explain_history.specs.Places.{places_of_numbers}
use Rattle.explain_history.specs.Touching.{touched}
use Rattle.explain_history.proofs.history.last_at_request.Goals as goal

pub returns : goal.returns
returns c = λ d.
    let shape = c.args.shape.now in
    let rs = c.args.records.now.records in
    let r = slice_index_or rs c.args.request d in
    let wanted : c.touched_at-wanted.result ≡ touched shape [] r.log r.event =
    c.touched_at-wanted.ensures
    ∙ ap (λ (found : Option Record). touched_by shape [] found)
    (slice_get-get_or rs c.args.request d c.requires.request) in
    let places : c.deref.result.now ≡ places_of_bank r.bank rs =
    c.deref.ensures.value ∙ c.in_ok-places.ensures ∙ ap (places_of_numbers c.bank-bank.result rs) c.bank_len.ensures
    ∙ ap (λ (bank : ℕ). places_of_bank bank rs) (c.bank-bank.ensures d) in
    rw (places, wanted) at c.last_about.ensures
