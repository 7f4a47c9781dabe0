use Rattle.std.proofs.Common.{◌+◌, ◌≤◌, ◌∙◌, length, sym, ap, arith}
use Rattle.std.proofs.lemmas.List.{length-map, length-replicate}
use Rattle.lf_recorder.specs.Desk.{logs_of}
use Rattle.lf_recorder.proofs.Closing.{closing, length-placed}
use Rattle.lf_recorder.proofs.desk.Desk.close.Goals.{then-is_open, else-is_open}
use Rattle.lf_recorder.proofs.desk.Desk.close.Goals as goal

pub free-requires : goal.free-requires
free-requires c k h = absurd (let none = c.self.invariant.1 in let count = c.close_with.ensures.counts.1 in omega arith)

few : (c : goal.After-free) → c.if-is_open.made ≤ c.self.inside.ports + c.self.inside.banks
few c = elim c.if-is_open.branch [
  | then-is_open w ↦ omega (arith, w.made-is)
  | else-is_open w ↦ omega
      (arith, w.made-is)
]

pub returns-clause-count : goal.returns-clause-count
returns-clause-count c =
    sym (length-map c.gather.new.logs.items (λ log. log.items))
    ∙ (ap length c.gather.ensures.logs ∙ (length-placed _ c.args.seats.items
    ∙ (ap length c.in-Ok.ensures ∙ (length-replicate _ _ ∙ ap logs_of c.self.view_is))))

pub returns-clause-recorded : goal.returns-clause-recorded
returns-clause-recorded c = (closing _ _ _ _ _ _ _ _ _ _ c.close_with.ensures.values.2 c.gather.ensures.made (few c)
    c.in_default.ensures.none c.in-Ok.ensures c.gather.ensures.logs).0

pub returns-clause-kept : goal.returns-clause-kept
returns-clause-kept c = (closing _ _ _ _ _ _ _ _ _ _ c.close_with.ensures.values.2 c.gather.ensures.made (few c)
    c.in_default.ensures.none c.in-Ok.ensures c.gather.ensures.logs).1
