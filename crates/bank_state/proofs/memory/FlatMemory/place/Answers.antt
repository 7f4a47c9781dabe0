use Rattle.std.proofs.Common.{◌≡◌, ◌++◌, ℕ, List, None, slice_index, ap, ◌∙◌}
use Rattle.lf_rules.specs.State.{update}
use Rattle.bank_state.specs.Bytes.{flat_of}
use Rattle.bank_state.proofs.NearBlocks.{at}
use Rattle.bank_state.proofs.TwoParts.{near_put, far_put}
use Rattle.bank_state.proofs.memory.FlatMemory.place.Goals as goal
use Rattle.bank_state.proofs.memory.FlatMemory.place.Goals.{in-Ok, in-Err}

pub returns-then-add-clause-ok : goal.returns-then-add-clause-ok
returns-then-add-clause-ok c =
    let m = c.self.inside in
    near_put m.near m.far.entries c.add.new.self c.args.block c.args.bytes (c.add.ensures.added c.if-add.true)
    ∙ ap (λ (blocks : List (ℕ × List ℕ)). update (flat_of blocks) c.args.block (slice_index c.args.bytes))
    c.self.view_is

pub returns-clause-ok : goal.returns-clause-ok
returns-clause-ok c =
    let far = c.self.inside.far.entries in
    let other = c.add.ensures.other (λ yes. let no = c.if-add.false in absurd (cc)) in
    let none : at c.args.block c.add.new.self ≡ None = ap (at c.args.block) other.0 ∙ other.1 in
    elim c.match-insert.branch [
      | in-Ok w ↦ rw w.result-is
          (far_put c.add.new.self far c.insert.new.self.entries c.args.block c.args.bytes none
          w.in-Ok.ensures.updates.0
          ∙ ap (λ (blocks : List (ℕ × List ℕ)). update (flat_of blocks) c.args.block (slice_index c.args.bytes))
          (ap (λ (near : List (ℕ × List ℕ)). near ++ far) other.0 ∙ c.self.view_is))
      | in-Err w ↦ rw w.result-is tt
    ]
