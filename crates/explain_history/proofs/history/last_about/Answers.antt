use Rattle.std.proofs.Common.{◌≡◌, ℕ, ◌-◌, ◌≤◌, ◌++◌, List, [], Option, length, take, drop, sym, ap, ◌∙◌, subst, arith}
use Rattle.std.proofs.lemmas.List.{take-append-drop, take_all, length-drop}
use Rattle.std.proofs.lemmas.Result.{IfOk-weaker}
use Rattle.explain_history.specs.History.{last, about}
use Rattle.explain_history.specs.Near.{EndsWith}
use Rattle.explain_history.specs.Touching.{touches}
use Rattle.explain_history.proofs.NearLemmas.{last_of_end}
use Rattle.explain_history.proofs.history.last_about.Goals as goal

pub returns-then-len-most : goal.returns-then-len-most
returns-then-len-most c =
    let shape = c.args.shape.now in
    let rs = c.args.records.now.records in
    let places = c.args.places.now in
    let most = c.args.most in
    let from = length places - c.loop-size.size in
    let told : List (Option ℕ) → List ℕ = λ ps. about c.args.wanted (touches shape [] rs ps) in
    let found = c.in_ok-found.found.items in
    let near : take (length places - from) (drop from places) ≡ drop from places =
    take_all (length places - from) (drop from places) (omega (arith, length-drop from places)) in
    let ends : EndsWith found (told (take from places ++ drop from places)) =
    subst (λ (ps : List (Option ℕ)). EndsWith found (told (take from places ++ ps))) near
    (c.in_ok-found.ensures (take from places)) in
    let enough : most ≤ length found = omega arith in
    let are : last most (told places) ≡ last most found =
    ap (λ (ps : List (Option ℕ)). last most (told ps)) (sym (take-append-drop from places))
    ∙ last_of_end most found (told (take from places ++ drop from places)) ends enough in
    IfOk-weaker c.last.result _ _ (λ few e. e ∙ ap (last most) c.deref.ensures.value ∙ sym are) c.last.ensures
