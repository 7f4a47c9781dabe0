-- What a run tells of what broke depends on the trace alone.
use Rattle.std.specs.Prelude.{◌≡◌, ℕ, List, Some}
use Rattle.lf_rules.specs.declared.shape.Shape.{Shape}
use Rattle.lf_verdict.specs.declared.session.conclusion.Conclusion.{Conclusion}
use Rattle.lf_verdict.specs.Outcome.{IsDecidedOutcome}
use Rattle.run_stream.specs.Account.{Account}
use Rattle.run_engine.specs.Asks.{IsWatched}
use Rattle.run_engine.specs.Needs.{watch_needs}
use Rattle.run_engine.specs.Run.{IsOfRead}

-- A run that was to tell what broke read from all these bytes, came to this conclusion, for which this text is due, and
-- had memory enough.
pub record HasWatched (all : List ℕ) (shape : Shape) (c : Conclusion) (text : List ℕ) : Type 0 where
  pub old : Account
  pub new : Account
  pub known : old.known ≡ Some all
  pub of_read : IsOfRead old new watch_needs shape c
  pub decided : IsDecidedOutcome c.outcome
  pub due : IsWatched (Some shape) c text

-- Two such runs over one trace have one text, however the bytes came.
abbrev pub WatchesAreOne : Type 0
WatchesAreOne = (all : List ℕ) (shape : Shape) (c other : Conclusion) (text text' : List ℕ) →
    HasWatched all shape c text → HasWatched all shape other text' → text ≡ text'
