use Rattle.std.proofs.Common.{◌≡◌, ℕ, ◌+◌, ◌-◌, ◌≤◌, List, [], ◌∷◌, ◌++◌, length, replicate, ap, ◌∙◌, append_assoc}
use Rattle.std.proofs.Common.{arith, inl, inr}
use mathlib.Core.Path.{ap₂}
use Rattle.std.proofs.lemmas.Bool.{cases_lt}
use Rattle.std.proofs.lemmas.List.{length-append, replicate_more}
use Rattle.wave_traffic.specs.Flow.{Flow, empty_flow}
use Rattle.wave_traffic.proofs.traffic.grow.Goals as goal

one_more : (banks : List Flow) (n : ℕ) → length banks ≤ n →
    (banks ++ replicate (n - length banks) empty_flow) ++ empty_flow ∷ []
    ≡ banks ++ replicate (n + 1 - length banks) empty_flow
one_more banks n past =
    let more : n - length banks + 1 ≡ n + 1 - length banks = omega (arith, past) in
    append_assoc banks (replicate (n - length banks) empty_flow) (empty_flow ∷ [])
    ∙ ap (λ (l : List Flow). banks ++ l) (replicate_more (n - length banks) empty_flow
    ∙ ap (λ k. replicate k empty_flow) more)

pub loop-preserved : goal.loop-preserved
loop-preserved c =
    let old = c.args.banks.now.items in
    let pushed : c.push.new.self.items ≡ c.loop.banks.items ++ c.new.result ∷ [] = c.in_ok-push.ensures.items in
    let past : length old ≤ c.loop.counter = omega (arith, c.len-counter.ensures, c.loop.auto.counter) in
    record {
      count = ap (λ (l : List Flow). length l) pushed ∙ length-append c.loop.banks.items (c.new.result ∷ [])
          ∙ ap (λ n. n + 1) c.loop.invariant.count;
      enough = λ room. omega (arith, room, c.loop.invariant.enough room, c.loop-test.true, c.from-end.ensures);
      same = pushed ∙ ap₂ (λ (l : List Flow) (f : Flow). l ++ f ∷ []) c.loop.invariant.same c.new.ensures
          ∙ one_more old c.loop.counter past;
    }

-- as many are new as the bank needs
pub returns : goal.returns
returns c =
    let old = c.args.banks.now.items in
    let many : c.loop.counter - length old ≡ c.args.bank + 1 - length old =
    elim (cases_lt (length old) (c.args.bank + 1)) [
      | inl few ↦ omega (
        arith,
        few,
        c.loop-test.false,
        c.loop.auto.counter-end,
        c.from-end.ensures,
        c.len-counter.ensures,
      )
      | inr room ↦ omega (arith, room, c.loop.invariant.enough room)
    ] in
    c.loop.invariant.same ∙ ap (λ k. old ++ replicate k empty_flow) many
