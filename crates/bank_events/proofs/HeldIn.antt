-- Which registers of a steady bank hold a block.
use Rattle.std.proofs.Common.{◌≡◌, ℕ, true, false, Option, Some, None, sym, ap, ◌∙◌, subst}
use Rattle.std.specs.Prelude.{IfSome, IfNone}
use Rattle.lf_rules.specs.Registers.{holds, holds_in}
use Rattle.lf_mshr.proofs.Alike.{holds-alike, holds_in-alike}
use Rattle.bank_cells.specs.Cells.{first_at, second_at}
use Rattle.bank_cells.specs.declared.known.First.{First}
use Rattle.bank_cells.specs.declared.known.Second.{Second}
use Rattle.bank_events.specs.BankView.{BankView, IsSteady}
use Rattle.bank_events.specs.Known.{is_in_flight, register_of, is_second_in_flight, second_register_of}
use Rattle.bank_events.specs.Targets.{IsTarget1, IsTarget2}

module _ (view : BankView) (steady : IsSteady view) where
  -- no level-one register holds a block that is not in flight
  pub none_holds : (block : ℕ) (f : First) → f ≡ first_at view.cells block → is_in_flight f ≡ false →
      holds view.waiting.held block ≡ false
  none_holds block f is apart =
      holds-alike (IsTarget1 view.shape) view.waiting.held steady.now_waiting steady.alike.level1 block
      ∙ steady.held.waits block ∙ ap is_in_flight (sym is) ∙ apart

  -- the register of its primary miss holds a block that is in flight
  pub one_holds : (block : ℕ) (f : First) → f ≡ first_at view.cells block → is_in_flight f ≡ true →
      holds_in view.waiting.held (register_of f) block ≡ true
  one_holds block f is flies =
      subst (λ (f : First). holds_in view.waiting.held (register_of f) block ≡ true) (sym is)
      (holds_in-alike (IsTarget1 view.shape) view.waiting.held steady.now_waiting steady.alike.level1
      (register_of (first_at view.cells block)) block
      ∙ steady.held.primary block (ap is_in_flight (sym is) ∙ flies))

  -- the same of the registers of level two
  pub none_fetches : (second : ℕ) (s : Second) → s ≡ second_at view.cells second → is_second_in_flight s ≡ false →
      holds view.regs2.held second ≡ false
  none_fetches second s is apart =
      holds-alike (IsTarget2 view.shape) view.regs2.held steady.now_regs2 steady.alike.level2 second
      ∙ steady.held.fetched second ∙ ap is_second_in_flight (sym is) ∙ apart

  pub one_fetches : (second : ℕ) (s : Second) → s ≡ second_at view.cells second → is_second_in_flight s ≡ true →
      holds_in view.regs2.held (second_register_of s) second ≡ true
  one_fetches second s is flies =
      subst (λ (s : Second). holds_in view.regs2.held (second_register_of s) second ≡ true) (sym is)
      (holds_in-alike (IsTarget2 view.shape) view.regs2.held steady.now_regs2 steady.alike.level2
      (second_register_of (second_at view.cells second)) second
      ∙ steady.held.second_primary second (ap is_second_in_flight (sym is) ∙ flies))

  -- a holder that is told of what level one has of a block
  pub holder_some : (block : ℕ) (f : First) (holder : Option ℕ) → f ≡ first_at view.cells block →
      IfSome holder (λ r. (is_in_flight f ≡ true) × (r ≡ register_of f)) →
      IfSome holder (λ r. holds_in view.waiting.held r block ≡ true)
  holder_some block f None is told = tt
  holder_some block f (Some r) is told =
      subst (λ (r : ℕ). holds_in view.waiting.held r block ≡ true) (sym told.1) (one_holds block f is told.0)

  pub holder_none : (block : ℕ) (f : First) (holder : Option ℕ) → f ≡ first_at view.cells block →
      IfNone holder (is_in_flight f ≡ false) → IfNone holder (holds view.waiting.held block ≡ false)
  holder_none block f None is apart = none_holds block f is apart
  holder_none block f (Some r) is apart = tt

  pub second_some : (second : ℕ) (s : Second) (holder : Option ℕ) → s ≡ second_at view.cells second →
      IfSome holder (λ r. (is_second_in_flight s ≡ true) × (r ≡ second_register_of s)) →
      IfSome holder (λ r. holds_in view.regs2.held r second ≡ true)
  second_some second s None is told = tt
  second_some second s (Some r) is told =
      subst (λ (r : ℕ). holds_in view.regs2.held r second ≡ true) (sym told.1) (one_fetches second s is told.0)

  pub second_none : (second : ℕ) (s : Second) (holder : Option ℕ) → s ≡ second_at view.cells second →
      IfNone holder (is_second_in_flight s ≡ false) → IfNone holder (holds view.regs2.held second ≡ false)
  second_none second s None is apart = none_fetches second s is apart
  second_none second s (Some r) is apart = tt
