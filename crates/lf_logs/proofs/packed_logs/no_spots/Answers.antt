use Rattle.std.proofs.Common.{◌≡◌, map, [], ◌∷◌, ◌++◌, sym, ap, ◌∙◌, subst, arith}
use Rattle.std.specs.List.{All, slice_get, filter_map}
use Rattle.std.specs.Global.{Vec}
use Rattle.std.proofs.lemmas.List.{map_push}
use Rattle.std.proofs.lemmas.List.Elements.{All-push}
use Rattle.std.proofs.lemmas.List.FromFn.{map-range_with_len_more}
use Rattle.lf_rules.specs.Run.{of_log}
use Rattle.lf_logs.specs.declared.packed_logs.Spot.{Spot}
use Rattle.lf_logs.specs.PackedLogs.{found_at, IsSpotOf}
use Rattle.lf_logs.proofs.packed_logs.no_spots.Goals as goal

pub loop-preserved : goal.loop-preserved
loop-preserved c =
    let pushed : c.push.new.self.items ≡ c.loop.logs.items ++ c.new.result ∷ [] = c.in_ok-push.ensures.items in
    record {
      lists = λ rs.
          ap (map (found_at rs)) pushed
          ∙ map_push (found_at rs) c.loop.logs.items c.new.result
          ∙ ap (λ xs. map (found_at rs) c.loop.logs.items ++ filter_map (λ (s : Spot). slice_get rs s.at) xs ∷ [])
          c.new.ensures.items
          ∙ ap (λ xs. xs ++ [] ∷ []) (c.loop.invariant.lists rs)
          ∙ sym (map-range_with_len_more (λ log. of_log log []) 0 c.loop.counter c.loop.counter (omega arith));
      spots = λ rs.
          subst (All (λ (v : Vec Spot). All (IsSpotOf rs) v.items)) (sym pushed)
          (All-push (λ (v : Vec Spot). All (IsSpotOf rs) v.items) c.loop.logs.items c.new.result
          (c.loop.invariant.spots rs)
          (subst (All (IsSpotOf rs)) (sym c.new.ensures.items) (λ k d h. absurd (omega arith))));
    }
