use Rattle.std.proofs.Common.{◌∙◌}
use Rattle.text_parse.proofs.FieldNext.{field_found}
use Rattle.text_parse.proofs.field.is_field.Goals as goal

pub returns : goal.returns
returns c = c.is_ok.ensures.value ∙ field_found c.field.result _ c.args.name c.args.text.now c.field.ensures
