use Rattle.std.proofs.Common.{ℕ, List, ap, sym, ◌∙◌}
use Rattle.bank_state.specs.Bytes.{flat_of}
use Rattle.bank_state.proofs.TwoParts.{near_bytes, far_bytes}
use Rattle.bank_state.proofs.memory.FlatMemory.bytes_of.Goals as goal

pub returns-in-Some : goal.returns-in-Some
returns-in-Some c =
    let m = c.self.inside in
    sym (ap (λ (blocks : List (ℕ × List ℕ)). flat_of blocks c.args.block) (sym c.self.view_is)
    ∙ near_bytes m.near m.far.entries c.args.block c.in-Some.bytes.now (sym c.in-Some.ensures))

pub returns-in-None : goal.returns-in-None
returns-in-None c =
    let m = c.self.inside in
    c.far_bytes.ensures
    ∙ sym (ap (λ (blocks : List (ℕ × List ℕ)). flat_of blocks c.args.block) (sym c.self.view_is)
    ∙ far_bytes m.near m.far.entries c.args.block (sym c.in-None.ensures))
