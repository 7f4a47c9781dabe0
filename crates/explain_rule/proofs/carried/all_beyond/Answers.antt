use Rattle.std.proofs.Common.{◌≡◌, ℕ, List, [], ◌∷◌, ◌++◌, map, sym, ap, ◌∙◌, arith}
use mathlib.Core.Path.{ap₂}
use Rattle.std.specs.List.{range_with_len}
use Rattle.std.proofs.lemmas.List.FromFn.{map-range_with_len_more}
use Rattle.lf_rules.specs.declared.mask.Mask.{Mask}
use Rattle.lf_rules.specs.Address.{mask_at}
use Rattle.explain_rule.specs.Carried.{beyond}
use Rattle.explain_rule.proofs.carried.all_beyond.Goals as goal

pub loop-place-preserved : goal.loop-place-preserved
loop-place-preserved c =
    let masks = c.args.masks.now in
    let others = c.args.others.now in
    let i = c.loop-place.place in
    let f : ℕ → Mask = λ place. record { 0 = beyond (mask_at masks place) (mask_at others place) } in
    let bytes : c.beyond-bytes.result ≡ beyond (mask_at masks i) (mask_at others i) =
    c.beyond-bytes.ensures ∙ ap₂ beyond c.mask_at.ensures c.mask_at-in-loop-place.ensures in
    record {
      read = c.push.ensures.items ∙ ap (λ (ms : List Mask). ms ++ record { 0 = c.beyond-bytes.result } ∷ [])
          c.loop-place.invariant.read
          ∙ ap (λ (n : ℕ). let m : Mask = record { 0 = n } in map f (range_with_len 0 i) ++ m ∷ []) bytes
          ∙ sym (map-range_with_len_more f 0 i i (omega arith));
      count = omega arith;
    }
