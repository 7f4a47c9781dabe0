use Rattle.std.proofs.Common.{◌≡◌, ◌++◌, List, Result, length, get_or, refl, ap, subst, arith}
use Rattle.std.specs.Prelude.{OnOk}
use Rattle.lf_rules.specs.Fits.{Fits}
use Rattle.lf_rules.specs.declared.outcome.Outcome.TheVariants as outcomes
use Rattle.lf_verdict.specs.declared.session.breaking.Watch.TheVariants.{Unknown}
use Rattle.lf_verdict.specs.declared.session.share.Share.{Share}
use Rattle.lf_verdict.specs.declared.session.standing.Standing.{Standing}
use Rattle.lf_verdict.specs.declared.session.standing.bank_judge.BankJudge.{BankJudge}
use Rattle.lf_verdict.specs.Standing.{AreEntered}
use Rattle.lf_verdict.specs.inner.Shares.{keeps_of, IsShareAt}
use Rattle.lf_verdict.proofs.Batches.{all_fit, all_join, stands_together}
use Rattle.lf_verdict.proofs.session.share.together.Goals as goal

pub returns : goal.returns
returns c start records entered judged =
    let s : Standing = record {
      entries = c.in-Entries.entries;
      banks = c.in-Banks.banks;
      watch =
          Unknown;
    } in
    record {
      unknown = refl;
      keeps = subst (λ (share : Share). keeps_of share ≡ start.entries.keeps) c.in-Entries.is (entered.keeps refl);
      stands = λ shape memory before stands may.
          stands_together shape memory (before ++ records) s
          (all_join (Fits shape) before records stands.fit (all_fit shape before records may))
          (subst (λ (r : Result _ _). OnOk r (AreEntered shape (before ++ records) s.entries)) c.in_ok-result.was
          (subst (IsShareAt shape memory (before ++ records)) c.in-Entries.is
          (entered.judged shape memory before stands may)))
          (subst (IsShareAt shape memory (before ++ records)) c.in-Banks.is
          (judged.judged shape memory before stands may))
          (λ bank d lt.
          subst (λ (js : List BankJudge). (get_or js bank d).outcome ≡ outcomes.NoMemory → ⊥) c.deref.ensures.value
          (c.ran_out.ensures (λ e. cc) bank d (omega (arith, lt, ap length c.deref.ensures.value))));
    }
