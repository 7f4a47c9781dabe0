use Rattle.std.proofs.Common.{◌≡◌, ◌<◌, List, [], ◌∷◌, ◌++◌, length, sym, ap, ◌∙◌, arith}
use Rattle.std.specs.Global.{Vec}
use Rattle.std.specs.Vec.Iter.{into_iter_items}
use Rattle.std.proofs.lemmas.List.{append_assoc, length-map, length-set}
use Rattle.lf_rules.specs.declared.event.Record.{Record}
use Rattle.lf_logs.specs.Lists.{banks_of}
use Rattle.lf_logs.proofs.Splitting.{length-parts_of, parts_of-outside, placed}
use Rattle.lf_logs.proofs.banks.add_log.Goals as goal

pub loop-item-preserved-then-bank-len : goal.loop-item-preserved-then-bank-len
loop-item-preserved-then-bank-len c =
    let rest = c.in-Some.ensures.steps in
    let item = c.in-Some.item in
    let split = ap (λ (xs : List Record). c.loop-item.yielded ++ xs) (sym rest.0) ∙ c.loop-item.invariant.left in
    record {
      can_next = tt;
      finite = tt;
      left = append_assoc c.loop-item.yielded (item ∷ []) (into_iter_items c.next.new.self) ∙ split;
      len = c.loop-item.invariant.len;
      placed = λ count seen was.
          let before = c.loop-item.banks.items in
          let parts = c.loop-item.invariant.placed count seen was in
          let long : length before ≡ count = sym (length-map before (λ (v : Vec Record). v.items)) ∙ ap length parts
          ∙ length-parts_of (λ r. r.bank) count (seen ++ c.loop-item.yielded) in
          parts ∙ parts_of-outside (λ r. r.bank) count (seen ++ c.loop-item.yielded) item
          (omega (arith, long, c.if-bank-len.true, c.from-bank.ensures, c.len.ensures, c.loop-item.banks.ok.0))
          ∙ ap (banks_of count) (append_assoc seen c.loop-item.yielded (item ∷ []));
    }

pub loop-item-preserved : goal.loop-item-preserved
loop-item-preserved c =
    let rest = c.in-Some.ensures.steps in
    let item = c.in-Some.item in
    let before = c.loop-item.banks.items in
    let new = c.push.new.self in
    let split = ap (λ (xs : List Record). c.loop-item.yielded ++ xs) (sym rest.0) ∙ c.loop-item.invariant.left in
    let inside : item.bank < length c.args.banks.now.items =
    omega (
      arith,
      c.if-bank-len.false,
      c.from-bank.ensures,
      c.len.ensures,
      c.loop-item.banks.ok.0,
      c.loop-item.invariant.len,
    ) in
    let pushed : new.items ≡ c.index_mut.result.now.items ++ item ∷ [] = c.in_ok-push.ensures.items in
    record {
      can_next = tt;
      finite = tt;
      left = append_assoc c.loop-item.yielded (item ∷ []) (into_iter_items c.next.new.self) ∙ split;
      len = length-set before c.from-bank.result new ∙ c.loop-item.invariant.len;
      placed = λ count seen was.
          let parts = c.loop-item.invariant.placed count seen was in
          let long : length before ≡ count = sym (length-map before (λ (v : Vec Record). v.items)) ∙ ap length parts
          ∙ length-parts_of (λ r. r.bank) count (seen ++ c.loop-item.yielded) in
          placed (λ r. r.bank) before count (seen ++ c.loop-item.yielded) item c.from-bank.result
          c.index_mut.result.now new c.from-bank.ensures
          (omega (arith, inside, long, c.loop-item.invariant.len)) parts c.index_mut.ensures.value pushed
          ∙ ap (banks_of count) (append_assoc seen c.loop-item.yielded (item ∷ []));
    }
