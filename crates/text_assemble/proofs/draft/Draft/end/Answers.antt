use Rattle.std.proofs.Common.{inl, inr}
use Rattle.text_assemble.specs.Assembly.{finished}
use Rattle.text_assemble.proofs.Judging.{forbidden_ends}
use Rattle.text_assemble.proofs.draft.Draft.end.Goals as goal

pub returns-in-Err-clause-assembles : goal.returns-in-Err-clause-assembles
returns-in-Err-clause-assembles c =
    let bytes = finished c.args.self.due c.args.self.bytes.items in
    elim c.in-Err.ensures [
      | inl out ↦ inl out
      | inr forbidden ↦ inr (forbidden_ends c.args.line bytes c.in-Err.cause forbidden)
    ]
