use Rattle.std.proofs.Common.{[], ◌∷◌, ◌++◌, cond, eqb, sym, ap, ◌∙◌, subst}
use Rattle.lf_stats.specs.Standing.{Holding, IsHeld, registers_of}
use Rattle.lf_stats.proofs.Holds.{times_same, registers_push, held_for_push}
use Rattle.lf_stats.proofs.held.Held.hold.Goals as goal

pub returns : goal.returns
returns c holds held =
    let told = subst (λ (h : Holding). IsHeld h holds) (sym c.self.view_is) held in
    let block = c.args.block in
    let register = c.args.register in
    record {
      blocks = λ q.
          c.in_ok-push_at.ensures q
          ∙ ap (λ rs. cond (eqb block q) (rs ++ register ∷ []) rs) (told.blocks q)
          ∙ sym (held_for_push block holds q register);
      times = times_same c.add.new.self (register ∷ registers_of holds)
          (registers_of (holds ++ (block, register) ∷ [])) (registers_push holds block register)
          (c.in_ok-add.ensures (registers_of holds) told.times);
    }
