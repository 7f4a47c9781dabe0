-- Which records may come, and what is left behind one that comes.
use Rattle.std.proofs.Common.{◌≡◌, ℕ, zero, suc, ◌+◌, ◌<◌, true, false, not, ◌==◌, ◌||◌, nat_lt, List, [], ◌∷◌}
use Rattle.std.proofs.Common.{◌++◌, length, map, slice_index, refl, sym, ap, ◌∙◌, subst, eqb-true, eq-eqb}
use Rattle.std.proofs.Common.{inl, inr, arith}
use Rattle.std.specs.List.{range_with_len}
use Rattle.std.proofs.lemmas.Bool.{cases_Bool, cases_lt, lt-ltb, le-ltb, cond-true, cond-false}
use Rattle.std.proofs.lemmas.List.{append-nil, map-append, length-append}
use Rattle.std.proofs.lemmas.List.Elements.{filter-append}
use Rattle.lf_rules.specs.declared.event.Record.{Record}
use Rattle.lf_rules.specs.Address.{no_bank}
use Rattle.lf_rules.specs.Order.{log_at}
use Rattle.lf_rules.specs.Ring.{entry_of}
use Rattle.lf_rules.specs.Run.{of_log, of_bank, KeepsNumbers}
use Rattle.wave_order.specs.OrderTo.{is_due}
use Rattle.wave_order.specs.Left.{is_due_at, begins_due}
use Rattle.wave_order.proofs.Entries.{AreOf}

-- The next number of each bank is as many as came of it.
abbrev pub Counts : List ℕ → List Record → Type 0
Counts next gone = (bank : ℕ) → bank < no_bank → slice_index next bank ≡ length (of_bank bank gone)

-- ---- which may come

module _ (next : List ℕ) (gone : List Record) (counts : Counts next gone) where
  due_alike : (r : Record) → is_due_at next (entry_of r) ≡ is_due gone r
  due_alike r = elim (cases_lt r.bank no_bank) [
    | inl lt ↦ ap (λ (n : ℕ). not (nat_lt r.bank no_bank) || (r.number == n)) (counts r.bank lt)
    | inr le ↦ ap (λ b. not b || (r.number == slice_index next r.bank)) (le-ltb r.bank no_bank le)
        ∙ sym (ap (λ b. not b || (r.number == length (of_bank r.bank gone))) (le-ltb r.bank no_bank le))
  ]

  module _ (logs : List (List (ℕ × ℕ))) (records : List Record) (are : AreOf logs records) where
    pub begins_alike : (log : ℕ) (r : Record) (rest : List Record) → of_log log records ≡ r ∷ rest →
        begins_due next (log_at logs log) ≡ is_due gone r
    begins_alike log r rest some =
        ap (begins_due next) (are log ∙ ap (map entry_of) some) ∙ due_alike r

    -- the log has a next record
    pub some_begins : (log : ℕ) → begins_due next (log_at logs log) ≡ true →
        (r : Record) × (rest : List Record) × (of_log log records ≡ r ∷ rest)
    some_begins log begins = from (of_log log records) refl
      where
        from : (rs : List Record) → of_log log records ≡ rs →
            (r : Record) × (rest : List Record) × (of_log log records ≡ r ∷ rest)
        from [] none =
            let bad : false ≡ true = sym (ap (begins_due next) (are log ∙ ap (map entry_of) none)) ∙ begins in
            absurd cc
        from (r ∷ rest) some = (r, rest, some)

-- ---- one record more

bank_more : (bank : ℕ) (gone : List Record) (r : Record) →
    of_bank bank (gone ++ r ∷ []) ≡ of_bank bank gone ++ of_bank bank (r ∷ [])
bank_more bank gone r = filter-append (λ (r : Record). r.bank == bank) gone (r ∷ [])

its_bank : (bank : ℕ) (r : Record) → bank ≡ r.bank → of_bank bank (r ∷ []) ≡ r ∷ []
its_bank bank r same = cond-true (r.bank == bank) (r ∷ []) [] (eq-eqb r.bank bank (sym same))

pub of_it : (bank : ℕ) (gone : List Record) (r : Record) → bank ≡ r.bank →
    of_bank bank (gone ++ r ∷ []) ≡ of_bank bank gone ++ r ∷ []
of_it bank gone r same = bank_more bank gone r
    ∙ ap (λ (l : List Record). of_bank bank gone ++ l) (its_bank bank r same)

pub of_another : (bank : ℕ) (gone : List Record) (r : Record) → (r.bank == bank) ≡ false →
    of_bank bank (gone ++ r ∷ []) ≡ of_bank bank gone
of_another bank gone r apart = bank_more bank gone r
    ∙ ap (λ (l : List Record). of_bank bank gone ++ l) (cond-false (r.bank == bank) (r ∷ []) [] apart)
    ∙ append-nil (of_bank bank gone)

pub due_number : (gone : List Record) (r : Record) → is_due gone r ≡ true → r.bank < no_bank →
    r.number ≡ length (of_bank r.bank gone)
due_number gone r due lt =
    eqb-true r.number (length (of_bank r.bank gone))
    (sym (ap (λ b. not b || (r.number == length (of_bank r.bank gone))) (lt-ltb r.bank no_bank lt)) ∙ due)

range_more : (a n : ℕ) → range_with_len a n ++ (a + n) ∷ [] ≡ range_with_len a (n + 1)
range_more a zero = let e : a + 0 ≡ a = omega arith in let one : 0 + 1 ≡ suc 0 = omega arith in
    ap (λ (k : ℕ). k ∷ []) e ∙ ap (λ (k : ℕ). range_with_len a k) (sym one)
range_more a (suc n) =
    let e : a + suc n ≡ (a + 1) + n = omega arith in
    let more : suc n + 1 ≡ suc (n + 1) = omega arith in
    ap (λ (k : ℕ). a ∷ (range_with_len (a + 1) n ++ k ∷ [])) e
    ∙ ap (λ (l : List ℕ). a ∷ l) (range_more (a + 1) n)
    ∙ ap (λ (k : ℕ). range_with_len a k) (sym more)

-- the numbers stay in order
pub keeps_more : (gone : List Record) (r : Record) → is_due gone r ≡ true → KeepsNumbers gone →
    KeepsNumbers (gone ++ r ∷ [])
keeps_more gone r due kept bank lt =
    let number : Record → ℕ = λ r. r.number in
    let old = of_bank bank gone in
    elim (cases_Bool (r.bank == bank)) [
      | inl is ↦
          let same : r.bank ≡ bank = eqb-true r.bank bank is in
          let all = of_it bank gone r (sym same) in
          let its : r.number ≡ 0 + length old =
          due_number gone r due (subst (λ (k : ℕ). k < no_bank) (sym same) lt)
          ∙ ap (λ (k : ℕ). length (of_bank k gone)) same ∙ omega arith in
          ap (map number) all ∙ map-append number old (r ∷ [])
          ∙ ap (λ (l : List ℕ). l ++ r.number ∷ []) (kept bank lt)
          ∙ ap (λ (k : ℕ). range_with_len 0 (length old) ++ k ∷ []) its
          ∙ range_more 0 (length old)
          ∙ ap (λ (k : ℕ). range_with_len 0 k) (sym (ap length all ∙ length-append old (r ∷ [])))
      | inr isnt ↦
          subst (λ (rs : List Record). map number rs ≡ range_with_len 0 (length rs))
          (sym (of_another bank gone r isnt)) (kept bank lt)
    ]
