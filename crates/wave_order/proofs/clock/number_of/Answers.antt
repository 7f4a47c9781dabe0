use Rattle.std.proofs.Common.{◌∙◌, lit<}
use Rattle.std.proofs.lemmas.Bool.Decides.{not_from_Decides}
use Rattle.std.proofs.lemmas.Str.Pattern.{starts_char}
use Rattle.wave_order.proofs.Numbers.{number_is}
use Rattle.wave_order.proofs.clock.number_of.Goals as goal

pub returns : goal.returns
returns c =
    let digits = c.args.digits.now in
    let plus = starts_char 43 digits c.starts_with.result c.starts_with.ensures.cases (lit< tt) (lit< tt) in
    let plain = not_from_Decides c.starts_with.result plus c.if-starts_with.false in
    c.ok.ensures.value ∙ number_is digits c.parse.result c.parse.ensures.value.0 plain
