-- The records of each bank, bank by bank.
use Rattle.std.proofs.Common.{◌≡◌, ℕ, ◌+◌, ◌<◌, List, [], ◌∷◌, ◌++◌, map, length, get_or, sym, ◌∙◌, ap, subst, arith}
use Rattle.std.proofs.Common.{inl, inr}
use Rattle.std.specs.Global.{Vec}
use Rattle.std.proofs.lemmas.List.{length-append, map-append, get_or_append_left}
use Rattle.std.proofs.Math.Seq.{get_or-append_seam}
use Rattle.std.proofs.lemmas.Bool.{cases_lt}
use Rattle.lf_rules.specs.declared.shape.Shape.{Shape}
use Rattle.lf_rules.specs.declared.event.Record.{Record}
use Rattle.lf_rules.specs.Address.{FlatMemory}
use Rattle.lf_rules.specs.Numbers.{bank_numbers}
use Rattle.lf_logs.specs.declared.order.NumberFault.{NumberFault}
use Rattle.lf_logs.specs.declared.order.NumberFault.TheVariants as numbers
use Rattle.lf_logs.specs.declared.order.Place.{Place}
use Rattle.lf_rules.specs.Lists.{lists_of}
use Rattle.lf_logs.specs.Places.{ArePlacesOfBank, IsNumberFault}
use Rattle.lf_verdict.specs.inner.Jobs.{AreOrders}
use Rattle.lf_verdict.specs.Parts.{HasWholeNumbers}
use Rattle.lf_verdict.specs.inner.Ending.{IsEnding, AreWholeBelow, number_ending}

last_of : (lists : List (List Place)) (places : List Place) (n : ℕ) → n ≡ length lists →
    get_or (lists ++ places ∷ []) n [] ≡ places
last_of lists places n e = rw e (get_or-append_seam lists places [] [])

-- a bank more
order_more : (logs : List (List Record)) (bank : ℕ) (lists : List (List Place)) (places : List Place) →
    AreOrders logs bank lists → ArePlacesOfBank logs bank places
    → AreOrders logs (bank + 1) (lists ++ places ∷ [])
order_more logs bank lists places are is = record {
  count = length-append lists (places ∷ []) ∙ ap (λ n. n + 1) are.count;
  each = λ b lt. elim (cases_lt b bank) [
    | inl below ↦
        let short : b < length lists = omega (arith, are.count) in
        subst (ArePlacesOfBank logs b) (sym (get_or_append_left lists (places ∷ []) [] b short)) (are.each b below)
    | inr above ↦
        let here : b ≡ bank = omega arith in
        let last : get_or (lists ++ places ∷ []) b [] ≡ places = last_of lists places b (here ∙ sym are.count) in
        subst (λ n. ArePlacesOfBank logs n (get_or (lists ++ places ∷ []) b [])) (sym here)
        (subst (ArePlacesOfBank logs bank) (sym last) is)
  ];
}

pub orders_more : (logs : List (List Record)) (bank : ℕ) (old new : Vec (Vec Place)) (v : Vec Place) →
    new.items ≡ old.items ++ v ∷ []
    → AreOrders logs bank (lists_of old) → ArePlacesOfBank logs bank v.items → AreOrders logs (bank + 1) (lists_of new)
orders_more logs bank old new v e are is =
    let more : lists_of new ≡ lists_of old ++ v.items ∷ [] =
    ap (map (λ (x : Vec Place). x.items)) e ∙ map-append (λ (x : Vec Place). x.items) old.items (v ∷ []) in
    subst (AreOrders logs (bank + 1)) (sym more) (order_more logs bank (lists_of old) v.items are is)

pub whole_more : (logs : List (List Record)) (bank : ℕ) → AreWholeBelow logs bank → HasWholeNumbers logs bank →
    AreWholeBelow logs (bank + 1)
whole_more logs bank below here b lt =
    elim (cases_lt b bank) [
      | inl less ↦ below b less
      | inr le ↦ let same : b ≡ bank = omega arith in subst (HasWholeNumbers logs) (sym same) here
    ]

-- a bank's fault is the first, where the banks below it are whole
pub first_fault : (shape : Shape) (logs : List (List Record)) (bank : ℕ) (fault : NumberFault) → bank < shape.banks →
    AreWholeBelow logs bank
    → IsNumberFault (bank_numbers logs bank) fault → (memory : FlatMemory) →
    IsEnding shape memory logs (number_ending bank fault)
first_fault shape logs bank (numbers.Missing k) lt below is memory =
    (record { is_bank = lt; banks_before = below; numbers_before = is.1 }, is.0)
first_fault shape logs bank (numbers.Double k) lt below is memory =
    (record { is_bank = lt; banks_before = below; numbers_before = is.1 }, is.0)
first_fault shape logs bank numbers.NoMemory lt below is memory = tt
