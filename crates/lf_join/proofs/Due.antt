-- Which entries may go.
use Rattle.std.proofs.Common.{◌≡◌, ℕ, ◌<◌, ◌≤◌, true, false, not, ◌==◌, ◌||◌, inl, inr, List, slice_index, sym, ap}
use Rattle.std.proofs.Common.{◌∙◌, eqb-true, eq-eqb}
use Rattle.std.proofs.lemmas.Bool.{cases_lt, lt-ltb, le-ltb}
use Rattle.lf_rules.specs.Address.{no_bank}
use Rattle.lf_join.specs.Heads.{is_due}

module _ (next : List ℕ) (x : ℕ × ℕ) where
  -- one that names a bank must carry its next number, any other may always go
  pub of_bank : x.0 < no_bank → is_due next x ≡ (x.1 == slice_index next x.0)
  of_bank lt = ap (λ b. not b || (x.1 == slice_index next x.0)) (lt-ltb x.0 no_bank lt)

  pub of_none : no_bank ≤ x.0 → is_due next x ≡ true
  of_none le = ap (λ b. not b || (x.1 == slice_index next x.0)) (le-ltb x.0 no_bank le)

  pub due_carries : is_due next x ≡ true → x.0 < no_bank → x.1 ≡ slice_index next x.0
  due_carries due lt = eqb-true x.1 (slice_index next x.0) (sym (of_bank lt) ∙ due)

  pub due_from : (x.0 < no_bank → x.1 ≡ slice_index next x.0) → is_due next x ≡ true
  due_from carries = elim (cases_lt x.0 no_bank) [
    | inl lt ↦ of_bank lt ∙ eq-eqb x.1 (slice_index next x.0) (carries lt)
    | inr le ↦ of_none le
  ]

  pub not_due : is_due next x ≡ false → x.0 < no_bank
  not_due waits = elim (cases_lt x.0 no_bank) [
    | inl lt ↦ lt
    | inr le ↦ (let e : true ≡ false = sym (of_none le) ∙ waits in cc)
  ]
