use Rattle.std.proofs.Common.{◌≡◌, ℕ, ◌==◌, Bool, true, false, cond, sym, ap, ◌∙◌, refl, eqb-true, bit_or}
use mathlib.Core.Path.{fun_ext}
use Rattle.std.specs.Int.Bits.{or_zero_r}
use Rattle.lf_rules.specs.declared.event.Op.TheVariants.{Load, Store}
use Rattle.lf_rules.specs.State.{update}
use Rattle.lf_rules.specs.Address.{mask_of}
use Rattle.bank_cells.specs.Cells.{written_at}
use Rattle.bank_cells.proofs.cells.Cells.accept.Goals as goal

-- a word that is written as it was
same_word : (words : ℕ → ℕ) (block word : ℕ) → word ≡ words block → words ≡ update words block word
same_word words block word same = fun_ext (λ q. go q (block == q) refl)
  where
    go : (q : ℕ) (b : Bool) → (block == q) ≡ b → words q ≡ cond b word (words q)
    go q true e = sym (same ∙ ap words (eqb-true block q e))
    go q false e = refl

pub returns-in-Load-clause-written : goal.returns-in-Load-clause-written
returns-in-Load-clause-written c =
    let words = written_at c.args.self.now in
    let block = c.args.request.now.block in
    same_word words block _ (ap (λ op. bit_or (words block) (cond (elim op [ Load ↦ false | Store ↦ true ])
    (mask_of c.args.request.now.offset c.args.request.now.size) 0)) (sym c.in-Load.ensures) ∙ or_zero_r (words block))
