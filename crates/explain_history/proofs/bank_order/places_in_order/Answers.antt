use Rattle.std.proofs.Common.{◌≡◌, ℕ, List, Option, Result, Ok, Err, IfOk, sym, ap, subst}
use Rattle.std.specs.Global.{Vec}
use Rattle.std.specs.List.{AllByRecursion}
use Rattle.explain_history.specs.BankOrder.{records_at, in_order}
use Rattle.explain_history.specs.Places.{places_of_numbers}
use Rattle.explain_history.proofs.NamedRecords.{in_order_named}
use Rattle.explain_history.proofs.bank_order.places_in_order.Goals as goal

if_ok : {T E : Type 0} (P Q : T → Type 0) (r : Result T E) → ((t : T) → P t → Q t) → IfOk r P → IfOk r Q
if_ok P Q (Ok t) f h = f t h
if_ok P Q (Err e) f h = tt

pub returns : goal.returns
returns c =
    let rs = c.args.records.now.records in
    let bank = c.args.bank in
    let count = c.args.count in
    let Are = λ (places : Vec (Option ℕ)). places.items ≡ places_of_numbers bank rs count in
    record {
      places = c.places_of_numbers.ensures;
      records = if_ok Are (λ places. records_at rs places.items ≡ in_order bank rs count) c.places_of_numbers.result
          (λ places e. ap (records_at rs) e)
          c.places_of_numbers.ensures;
      named = if_ok Are (λ places. AllByRecursion (λ r. r.bank ≡ bank) (records_at rs places.items))
          c.places_of_numbers.result
          (λ places e. subst (λ (ps : List (Option ℕ)). AllByRecursion (λ r. r.bank ≡ bank) (records_at rs ps))
          (sym e) (in_order_named bank rs count))
          c.places_of_numbers.ensures;
    }
