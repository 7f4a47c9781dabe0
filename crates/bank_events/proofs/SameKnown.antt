-- What a bank knows, word by word.
use Rattle.std.proofs.Common.{◌≡◌}
use Rattle.bank_events.specs.Known.{Known}

-- the same is known where each word is the same
pub known_is : (a b : Known) → a.queue ≡ b.queue → a.ready ≡ b.ready → a.memory ≡ b.memory → a.first ≡ b.first
    → a.written ≡ b.written → a.dirty ≡ b.dirty → a.second ≡ b.second → a.counts1 ≡ b.counts1 → a.counts2 ≡ b.counts2
    → a.waiting ≡ b.waiting → a.regs2 ≡ b.regs2 → a ≡ b
known_is a b queue ready memory first written dirty second counts1 counts2 waiting regs2 = λ i. record {
  queue = queue i;
  ready = ready i;
  memory = memory i;
  first = first i;
  written = written i;
  dirty = dirty i;
  second = second i;
  counts1 = counts1 i;
  counts2 = counts2 i;
  waiting = waiting i;
  regs2 = regs2 i;
}
