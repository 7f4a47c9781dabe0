use Rattle.std.proofs.Common.{ℕ, List, ◌∙◌, ap, sym}
use Rattle.bank_cells.specs.Index.{found_in}
use Rattle.bank_cells.proofs.TwoParts.{near_found, far_found}
use Rattle.bank_cells.proofs.index.Index.find.Goals as goal

pub returns-in-Some : goal.returns-in-Some
returns-in-Some c =
    let i = c.self.inside in
    sym (near_found i.near i.far.entries c.args.block c.in-Some.place (sym c.in-Some.ensures))
    ∙ ap (λ (places : List (ℕ × ℕ)). found_in places c.args.block) c.self.view_is

pub returns-in-None : goal.returns-in-None
returns-in-None c =
    let i = c.self.inside in
    c.find_far.ensures ∙ sym (far_found i.near i.far.entries c.args.block (sym c.in-None.ensures))
    ∙ ap (λ (places : List (ℕ × ℕ)). found_in places c.args.block) c.self.view_is
