use Rattle.std.proofs.Common.{◌≡◌, true, false, sym, ◌∙◌}
use Rattle.lf_verdict.proofs.session.intake.Intake.first_broken.Goals as goal

pub broken-requires : goal.broken-requires
broken-requires c = c.requires.fed

pub returns-then-self : goal.returns-then-self
returns-then-self c bytes fed = record {
  final = c.broken.ensures.stands bytes fed;
  earliest = c.broken.ensures.earliest c.requires.as_asked c.if-self.true bytes fed;
  none = λ watched can. c.broken.ensures.none (c.requires.settled watched) can bytes fed;
}

pub returns : goal.returns
returns c bytes fed = record {
  final = tt;
  earliest = tt;
  none = λ watched can. let e : true ≡ false = sym watched ∙ c.if-self.false in absurd (cc);
}
