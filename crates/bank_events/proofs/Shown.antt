-- What is known, with the lists and the memory of the state that it agrees with.
use Rattle.std.proofs.Common.{◌≡◌, ℕ, sym, subst, None}
use Rattle.lf_rules.specs.declared.shape.Shape.{Shape}
use Rattle.lf_rules.specs.declared.event.Event.{Event}
use Rattle.lf_rules.specs.State.{Local}
use Rattle.bank_events.specs.Apart.{EachStands}
use Rattle.bank_events.specs.Known.{Known}
use Rattle.bank_events.specs.KnownRules.{known_broken}
use Rattle.bank_events.specs.KnownAfter.{known_after}
use Rattle.bank_events.specs.Agrees.{Agrees, GoesOnAlike, after_event}

abbrev pub shown : Local → Known → Known
shown now k = record k {
  queue = now.slice.queue;
  ready = now.slice.ready;
  memory = now.memory;
  waiting = now.slice.waiting;
  regs2 = now.slice.regs2;
}

pub shown_is : (shape : Shape) (now : Local) (k : Known) → Agrees shape now k → shown now k ≡ k
shown_is shape now k a = λ i. record k {
  queue = a.queue i;
  ready = a.ready i;
  memory = a.memory i;
  waiting = a.waiting i;
  regs2 = a.regs2 i;
}

-- An event goes on alike if it does where lists and memory are those of the state.
pub by_shown : (event : Event)
    → ((shape : Shape) (now : Local) (k : Known) (log : ℕ) → EachStands shape now.slice →
    Agrees shape now (shown now k) → known_broken shape (shown now k) log event ≡ None →
    Agrees shape (after_event shape now log event) (known_after shape (shown now k) log event))
    → GoesOnAlike event
by_shown event goes shape now k log stands a =
    subst (λ (j : Known). known_broken shape j log event ≡ None →
    Agrees shape (after_event shape now log event) (known_after shape j log event)) (shown_is shape now k a)
    (goes shape now k log stands (subst (Agrees shape now) (sym (shown_is shape now k a)) a))
