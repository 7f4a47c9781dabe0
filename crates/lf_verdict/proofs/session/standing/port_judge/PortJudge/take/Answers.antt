use Rattle.std.proofs.Common.{◌++◌, ◌∷◌, [], sym, ◌∙◌, subst}
use Rattle.lf_verdict.specs.Standing.{IsPortAt}
use Rattle.lf_verdict.proofs.Judges.{port_kept}
use Rattle.lf_verdict.proofs.session.standing.port_judge.PortJudge.take.Goals as goal

pub returns-in_default-apply_view : goal.returns-in_default-apply_view
returns-in_default-apply_view c shape port rs at judged = record {
  of_port = c.apply_view.ensures.port ∙ judged.of_port;
  judged = subst (IsPortAt shape (rs ++ c.args.item.now ∷ []) c.apply_view.new.self) (sym c.in-Passed.is)
      (c.in_default-apply_view.ensures.stands shape rs (subst (IsPortAt shape rs c.args.self.now.step) c.in-Passed.is
      judged.judged));
}

pub returns-in_default : goal.returns-in_default
returns-in_default c shape port rs at judged = record {
  of_port = judged.of_port;
  judged = port_kept shape rs c.args.item.now c.args.self.now.step c.args.self.now.outcome c.in_default.not-Passed
      judged.judged;
}
