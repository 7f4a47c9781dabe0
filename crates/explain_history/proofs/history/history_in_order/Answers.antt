use Rattle.std.proofs.Common.{◌≡◌, ℕ, List, [], Option, None, take, get_or, ap, ◌∙◌}
use Rattle.explain_history.specs.History.{last, about, touched_by}
use Rattle.explain_history.specs.Places.{place_of_number, places_of_numbers}
use Rattle.explain_history.specs.Touching.{record_at, all_before, touches}
use Rattle.explain_history.proofs.Numbered.{place_at, places_before}
use Rattle.explain_history.proofs.history.history_in_order.Goals as goal

pub returns : goal.returns
returns c = λ bank are.
    let shape = c.args.shape.now in
    let rs = c.args.records.now.records in
    let number = c.args.number in
    let most = c.args.most in
    let fronts = ap (take number) are ∙ places_before bank rs number in
    let at = get_or c.args.places.now number None in
    let place : at ≡ place_of_number bank rs number =
    ap (λ (ps : List (Option ℕ)). get_or ps number None) are ∙ place_at bank rs number in
    let wanted =
    c.touched_at-wanted.ensures
    ∙ ap (λ (ps : List (Option ℕ)). touched_by shape (all_before [] rs ps) (record_at rs at)) fronts
    ∙ ap (λ (p : Option ℕ). touched_by shape (all_before [] rs (places_of_numbers bank rs number)) (record_at rs p))
    place in
    record {
      place = place;
      before =
          c.in_ok-last_about.ensures
          ∙ ap (λ (ps : List (Option ℕ)). last most (about c.touched_at-wanted.result (touches shape [] rs ps))) fronts
          ∙ ap (λ (w : Option ℕ). last most (about w (touches shape [] rs (places_of_numbers bank rs number)))) wanted;
    }
