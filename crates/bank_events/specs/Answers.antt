-- What a bank answers to an event.
use Rattle.std.specs.Prelude.{◌≡◌, ℕ, List, Option, None, Result, Ok, Err}
use Rattle.lf_rules.specs.declared.event.Event.{Event}
use Rattle.lf_rules.specs.declared.rule.Rule.{Rule}
use Rattle.lf_rules.specs.Registers.{Held}
use Rattle.lf_rules.specs.State.{Missed, Asked}
use Rattle.bank_events.specs.declared.fault.BankFault.{BankFault}
use Rattle.bank_events.specs.BankView.{BankView, known_of, AreWaiting, AreHeld}
use Rattle.bank_events.specs.Faults.{IsStepFault}
use Rattle.bank_events.specs.Known.{Known}
use Rattle.bank_events.specs.KnownAfter.{known_after}
use Rattle.bank_events.specs.KnownRules.{known_broken}

-- what is known after the event, with the requests that wait then
pub record Goes (old new : BankView) (k : Known) (log : ℕ) (event : Event) : Type 0 where
  pub kept : known_broken old.shape k log event ≡ None
  pub shape : new.shape ≡ old.shape
  pub waiting : AreWaiting new (known_after old.shape k log event).waiting (known_after old.shape k log event).regs2
  pub known : known_of new (known_after old.shape k log event).waiting (known_after old.shape k log event).regs2
      ≡ known_after old.shape k log event

-- An event that breaks no rule is carried out; a fault names the first that it breaks, and nothing changes.
abbrev pub AnswerOf : {A : Type 0} → BankView → BankView → Known → ℕ → Event → Result A BankFault → Type 0
AnswerOf old new k log event (Ok done) = Goes old new k log event
AnswerOf old new k log event (Err fault) = IsStepFault (known_broken old.shape k log event) fault × (new ≡ old)

-- the same, whatever requests wait in the registers, of which the blocks know
abbrev pub IsAnswer : {A : Type 0} → BankView → BankView → ℕ → Event → Result A BankFault → Type 0
IsAnswer old new log event result =
    (waiting : List (Held Missed)) (regs2 : List (Held Asked)) → AreWaiting old waiting regs2
    → AreHeld old.shape (known_of old waiting regs2)
    → AnswerOf old new (known_of old waiting regs2) log event result

-- this rule is the first of the bank that the event breaks, whatever requests wait
abbrev pub IsJudged : BankView → ℕ → Event → Option Rule → Type 0
IsJudged view log event broken = (waiting : List (Held Missed)) (regs2 : List (Held Asked)) →
    known_broken view.shape (known_of view waiting regs2) log event ≡ broken
