use Rattle.std.proofs.Common.{◌≡◌, ◌++◌, ℕ, List, None, Some, ap, ◌∙◌}
use Rattle.lf_rules.specs.State.{update}
use Rattle.bank_cells.specs.Index.{found_in}
use Rattle.bank_cells.proofs.TwoParts.{near_none, near_put, far_put}
use Rattle.bank_cells.proofs.index.Index.put.Goals as goal
use Rattle.bank_cells.proofs.index.Index.put.Goals.{in-Ok, in-Err}

pub add-requires : goal.add-requires
add-requires c =
    near_none c.self.inside.near c.self.inside.far.entries c.args.block
    (ap (λ (places : List (ℕ × ℕ)). found_in places c.args.block) c.self.view_is ∙ c.requires)

pub returns-then-add-clause-ok : goal.returns-then-add-clause-ok
returns-then-add-clause-ok c =
    let i = c.self.inside in
    near_put i.near i.far.entries c.add.new.self c.args.block c.args.place (c.add.ensures.added c.if-add.true)
    ∙ ap (λ (places : List (ℕ × ℕ)). update (found_in places) c.args.block (Some c.args.place)) c.self.view_is

pub returns-clause-ok : goal.returns-clause-ok
returns-clause-ok c =
    let far = c.self.inside.far.entries in
    let same = c.add.ensures.other (λ yes. let no = c.if-add.false in absurd (cc)) in
    let none : found_in c.add.new.self c.args.block ≡ None =
    ap (λ (places : List (ℕ × ℕ)). found_in places c.args.block) same
    ∙ near_none c.self.inside.near c.self.inside.far.entries c.args.block
    (ap (λ (places : List (ℕ × ℕ)). found_in places c.args.block) c.self.view_is ∙ c.requires) in
    elim c.match-insert.branch [
      | in-Ok w ↦ rw w.result-is
          (far_put c.add.new.self far c.insert.new.self.entries c.args.block c.args.place none
          w.in-Ok.ensures.updates.0
          ∙ ap (λ (places : List (ℕ × ℕ)). update (found_in places) c.args.block (Some c.args.place))
          (ap (λ (near : List (ℕ × ℕ)). near ++ far) same ∙ c.self.view_is))
      | in-Err w ↦ rw w.result-is tt
    ]
