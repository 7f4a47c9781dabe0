use Rattle.std.proofs.Common.{◌≡◌, ℕ, List, sym, subst}
use Rattle.lf_verdict.specs.Conclusion.{IsLegalOutcome}
use Rattle.lf_verdict.specs.Laws.{IsRunlessOutcome}
use Rattle.lf_verdict.specs.Outcome.{IsOutcomeOf}
use Rattle.library_c.proofs.exports.finish.Goals as goal

pub returns : goal.returns
returns c =
    let s = c.args.session in
    let conclusion = c.conclude.result in
    let is = c.conclude.ensures.concluded in
    let fed = c.conclude.ensures.fed in
    record {
      verdict = λ decided. subst (λ (b : List ℕ). IsOutcomeOf s.shape b conclusion.outcome) fed (is.outcome decided);
      legal = subst (λ (b : List ℕ). IsLegalOutcome s.shape b conclusion.outcome) fed is.legal;
      runless = subst (λ (b : List ℕ). IsRunlessOutcome s.shape b conclusion.outcome) fed is.runless;
      stopped = c.conclude.ensures.stopped;
      no_threads = is.thread;
    }
