use Rattle.std.proofs.Common.{◌≡◌, [], ◌∷◌, ◌++◌, map, sym, ap, ◌∙◌, arith}
use Rattle.std.proofs.lemmas.List.{map_push}
use Rattle.std.proofs.lemmas.List.FromFn.{map-range_with_len_more}
use Rattle.lf_rules.specs.Run.{of_log}
use Rattle.lf_logs.proofs.logs.empty_logs.Goals as goal

pub loop-preserved : goal.loop-preserved
loop-preserved c =
    let pushed : c.push.new.self.items ≡ c.loop.logs.items ++ c.new.result ∷ [] = c.in_ok-push.ensures.items in
    ap (map (λ v. v.items)) pushed
    ∙ map_push (λ v. v.items) c.loop.logs.items c.new.result
    ∙ ap (λ xs. map (λ v. v.items) c.loop.logs.items ++ xs ∷ []) c.new.ensures.items
    ∙ ap (λ xs. xs ++ [] ∷ []) c.loop.invariant
    ∙ sym (map-range_with_len_more (λ log. of_log log []) 0 c.loop.counter c.loop.counter (omega arith))
