use Rattle.std.proofs.Common.{sym, subst}
use Rattle.lf_verdict.specs.inner.Fed.{IsCounting, IsWatched}
use Rattle.lf_verdict.proofs.session.intake.Intake.prepare.Goals as goal

pub returns-in_err-take_memory-clause-as_asked : goal.returns-in_err-take_memory-clause-as_asked
returns-in_err-take_memory-clause-as_asked c does = record {
  known = λ watched. subst IsWatched (sym c.in_err-take_memory.ensures.waiting) tt;
  counting = λ counted. subst IsCounting (sym c.in_err-take_memory.ensures.waiting) tt;
}

pub returns-clause-as_asked : goal.returns-clause-as_asked
returns-clause-as_asked c does = c.open.ensures.as_asked (record {
  known = λ watched. subst IsWatched (sym c.in_ok-take_memory.ensures.waiting) tt;
  counting = λ counted. subst IsCounting (sym c.in_ok-take_memory.ensures.waiting) tt;
})
