use Rattle.std.proofs.Common.{◌≡◌, ◌<◌, length, sym, ◌∙◌, subst, arith, IsPermutation}
use Rattle.std.specs.List.{range_with_len}
use Rattle.std.specs.Vec.{with_items}
use Rattle.std.proofs.lemmas.List.Sorted.{length_permutation}
use Rattle.std.proofs.lemmas.List.{with_items_is}
use Rattle.lf_rules.specs.Numbers.{numbers_of, IsWhole}
use Rattle.lf_rules.specs.Lists.{lists_of}
use Rattle.lf_logs.proofs.BankLists.{OrderedBelow-start, OrderedBelow-more, whole_list}
use Rattle.lf_logs.proofs.banks.bank_records.Goals as goal

pub loop-bank-init : goal.loop-bank-init
loop-bank-init c = OrderedBelow-start (lists_of c.args.logs) c.args.banks c.in_ok-lists.lists.items
    c.in_ok-lists.ensures

pub order_by_number-requires : goal.order_by_number-requires
order_by_number-requires c =
    let lists = c.loop-bank.lists.items in
    let start = OrderedBelow-start (lists_of c.args.logs) c.args.banks c.in_ok-lists.lists.items c.in_ok-lists.ensures
    in
    let inside : c.loop-bank.bank < length lists =
    omega (
      arith,
      c.loop-bank-test.true,
      c.len-bank-end.ensures,
      c.in_ok-lists.lists.ok.0,
      start.each_bank,
      c.loop-bank.invariant.each_bank,
    ) in
    subst (λ rs. IsWhole (numbers_of rs)) (sym c.deref_mut.ensures.value)
    (whole_list (lists_of c.args.logs) c.args.banks lists c.loop-bank.bank c.loop-bank.invariant
    c.index_mut.result.now inside c.index_mut.ensures.value c.requires.whole)

pub loop-bank-preserved : goal.loop-bank-preserved
loop-bank-preserved c =
    let lists = c.loop-bank.lists.items in
    let start = OrderedBelow-start (lists_of c.args.logs) c.args.banks c.in_ok-lists.lists.items c.in_ok-lists.ensures
    in
    let inside : c.loop-bank.bank < length lists =
    omega (
      arith,
      c.loop-bank-test.true,
      c.len-bank-end.ensures,
      c.in_ok-lists.lists.ok.0,
      start.each_bank,
      c.loop-bank.invariant.each_bank,
    ) in
    let list = c.index_mut.result.now in
    let new = c.order_by_number.new.records in
    let same : IsPermutation list.items new = subst (λ rs. IsPermutation rs new) c.deref_mut.ensures.value
    c.order_by_number.ensures.same in
    let now : (with_items list new).items ≡ new = with_items_is list new
    (length_permutation list.items new same ∙ sym list.ok.0) in
    OrderedBelow-more (lists_of c.args.logs) c.args.banks lists c.loop-bank.bank c.loop-bank.invariant list inside
    c.index_mut.ensures.value (with_items list new)
    (subst (λ rs. numbers_of rs ≡ range_with_len 0 (length rs)) (sym now) c.order_by_number.ensures.numbers)
    (subst (λ rs. IsPermutation list.items rs) (sym now) same)
