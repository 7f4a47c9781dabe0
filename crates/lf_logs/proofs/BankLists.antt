-- The lists of the banks are put into order one after another.
use Rattle.std.proofs.Common.{◌≡◌, ℕ, ◌+◌, ◌<◌, ◌≤◌, List, [], map, length, get_or, set, sym, ap, ◌∙◌, subst, ⊎_elim}
use Rattle.std.proofs.Common.{arith, IsPermutation}
use Rattle.std.specs.List.{range_with_len}
use Rattle.std.specs.Global.{Vec}
use Rattle.std.proofs.lemmas.List.{length-map, length-set, map-set, get_or-map, get_or-set_same, get_or-set_other}
use Rattle.std.proofs.lemmas.List.Sorted.{IsPermutation-sym}
use Rattle.std.proofs.lemmas.Bool.{cases_eq}
use Rattle.lf_rules.specs.declared.event.Record.{Record}
use Rattle.lf_rules.specs.Run.{of_bank}
use Rattle.lf_rules.specs.Numbers.{all_records, numbers_of, bank_numbers, IsWhole, IsNumbered}
use Rattle.lf_logs.specs.Lists.{banks_of}
use Rattle.lf_logs.proofs.Splitting.{length-parts_of, get_or-parts_of}

abbrev list_at : List (Vec Record) → ℕ → List Record
list_at vecs bank = get_or (map (λ v. v.items) vecs) bank []

-- the lists before `bank` are in order, the others as they came
pub record OrderedBelow (logs : List (List Record)) (banks : ℕ) (vecs : List (Vec Record)) (bank : ℕ) : Type 0 where
  pub each_bank : length vecs ≡ banks
  pub ordered : (b : ℕ) → b < bank → IsNumbered logs b (get_or (map (λ v. v.items) vecs) b [])
  pub rest : (b : ℕ) → bank ≤ b → b < banks → get_or (map (λ v. v.items) vecs) b [] ≡ of_bank b (all_records logs)

pub OrderedBelow-start : (logs : List (List Record)) (banks : ℕ) (vecs : List (Vec Record)) →
    map (λ v. v.items) vecs ≡ banks_of banks (all_records logs) → OrderedBelow logs banks vecs 0
OrderedBelow-start logs banks vecs is = record {
  each_bank = sym (length-map vecs (λ (v : Vec Record). v.items))
      ∙ ap length is ∙ length-parts_of (λ r. r.bank) banks (all_records logs);
  ordered = λ b h. absurd (omega arith);
  rest = λ b _ h. ap (λ xs. get_or xs b []) is ∙ get_or-parts_of (λ r. r.bank) banks (all_records logs) b [] h;
}

module _ (logs : List (List Record)) (banks : ℕ) (vecs : List (Vec Record)) (bank : ℕ)
    (before : OrderedBelow logs banks vecs bank)
    (vec : Vec Record) (inside : bank < length vecs) (read : vec ≡ get_or vecs bank vec) where
  list_is : vec.items ≡ of_bank bank (all_records logs)
  list_is =
      ap (λ (v : Vec Record). v.items) read
      ∙ sym (get_or-map (λ (v : Vec Record). v.items) vecs bank vec [] inside)
      ∙ before.rest bank (omega arith) (omega (arith, before.each_bank, inside))

  pub whole_list : ((b : ℕ) → b < banks → IsWhole (bank_numbers logs b)) → IsWhole (numbers_of vec.items)
  whole_list whole = subst (λ rs. IsWhole (numbers_of rs)) (sym list_is)
      (whole bank (omega (arith, before.each_bank, inside)))

  pub OrderedBelow-more : (next : Vec Record) → numbers_of next.items ≡ range_with_len 0 (length next.items) →
      IsPermutation vec.items next.items
      → OrderedBelow logs banks (set vecs bank next) (bank + 1)
  OrderedBelow-more next numbers same =
      let changed = map-set (λ (v : Vec Record). v.items) vecs bank next in
      let place : bank < length (map (λ (v : Vec Record). v.items) vecs) =
      omega (arith, length-map vecs (λ (v : Vec Record). v.items), inside) in
      let here : list_at (set vecs bank next) bank ≡ next.items =
      ap (λ xs. get_or xs bank []) changed ∙ get_or-set_same (map (λ (v : Vec Record). v.items) vecs) bank
      next.items [] place in
      let done : IsNumbered logs bank next.items = record {
        numbers = numbers;
        same = subst (λ rs. IsPermutation next.items rs) list_is (IsPermutation-sym vec.items next.items same);
      } in
      let kept = λ (b : ℕ) (other : b ≡ bank → ⊥).
      ap (λ xs. get_or xs b []) changed ∙ get_or-set_other (map (λ (v : Vec Record). v.items) vecs) bank b next.items
      [] other in
      record {
        each_bank = length-set vecs bank next ∙ before.each_bank;
        ordered = λ b h. ⊎_elim
            (λ (this : b ≡ bank). subst (λ n. IsNumbered logs n (list_at (set vecs bank next) n)) (sym this)
            (subst (λ rs. IsNumbered logs bank rs) (sym here) done))
            (λ (other : b ≡ bank → ⊥). subst (λ rs. IsNumbered logs b rs) (sym (kept b other))
            (before.ordered b (omega arith)))
            (cases_eq b bank);
        rest = λ b from within. kept b (omega arith) ∙ before.rest b (omega arith) within;
      }
