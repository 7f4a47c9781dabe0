use Rattle.std.proofs.Common.{◌≡◌, ◌++◌, ◌∷◌, [], Option, refl, sym, ap, ◌∙◌, subst}
use Rattle.lf_codec.specs.declared.header.Header.{Header}
use Rattle.lf_logs.specs.Reordering.{Reordering, CanKeep, HasOrdered}
use Rattle.lf_replay.proofs.Runs.{on_ok}
use Rattle.lf_verdict.specs.declared.session.standing.bank_judge.BankJudge.{BankJudge}
use Rattle.lf_verdict.specs.Standing.{IsBankSettled}
use Rattle.lf_verdict.proofs.Judges.{steady_if, can_keep, judged_pass, settled_put}
use Rattle.lf_verdict.proofs.session.standing.bank_judge.BankJudge.take.Goals as goal

pub keep-requires-clause-bank : goal.keep-requires-clause-bank
keep-requires-clause-bank c =
    let r = c.requires.can in
    r.named ∙ sym (c.if-not-pass.ensures.bank ∙ r.settled.bank_judged.order_of_bank)

pub keep-requires-clause-fits : goal.keep-requires-clause-fits
keep-requires-clause-fits c =
    let r = c.requires.can in
    let item = c.args.item.now in
    subst (λ (h : Option Header). CanKeep h item) (sym c.if-not-pass.ensures.header)
    (can_keep r.shape r.memory r.bank r.came r.gave c.args.self.now r.settled.bank_judged item r.fits)

pub returns-then-not-pass-clause-takes : goal.returns-then-not-pass-clause-takes
returns-then-not-pass-clause-takes c shape memory bank came gave fits named settled =
    let old = c.args.self.now in
    let item = c.args.item.now in
    let same : c.pass.new.self ≡ old.order = c.if-not-pass.ensures.unchanged (λ e. cc) in
    let early = c.if-not-pass.ensures.early (λ e. cc) came gave settled.bank_judged.ordered settled.drained in
    on_ok c.keep.result
    (λ ordered. (
      gave,
      subst (λ (new : BankJudge). IsBankSettled shape memory bank (came ++ item ∷ []) gave new)
          (sym c.keep.ensures.rest)
          (settled_put shape memory bank came gave old settled.bank_judged item c.keep.new.self.order settled.drained
          fits named early ordered
          (c.keep.ensures.bank ∙ ap (λ (o : Reordering). o.bank) same)
          (c.keep.ensures.header ∙ ap (λ (o : Reordering). o.header) same)),
    ))
    (c.keep.ensures.put came gave (subst (λ (o : Reordering). HasOrdered o came gave) (sym same)
    settled.bank_judged.ordered))

pub judge_next-requires-clause-steady : goal.judge_next-requires-clause-steady
judge_next-requires-clause-steady c =
    let r = c.requires.can in
    steady_if r.shape r.gave c.args.self.now.count r.settled.bank_judged.counted

pub settle-requires : goal.settle-requires
settle-requires c =
    let r = c.requires.can in
    let item = c.args.item.now in
    let passed = c.if-not-pass.ensures.passed refl r.came r.gave r.settled.bank_judged.ordered r.settled.drained in
    record {
      shape = r.shape;
      memory = r.memory;
      bank = r.bank;
      came = r.came ++ item ∷ [];
      gave = r.gave ++ item ∷ [];
      judged = judged_pass r.shape r.memory r.bank r.came r.gave c.args.self.now r.settled.bank_judged item
          (record {
            order = c.pass.new.self;
            step = c.judge_next.new.step;
            outcome = c.judge_next.new.outcome;
            count = c.judge_next.new.count;
          }) r.fits r.named passed.0 passed.1 c.if-not-pass.ensures.bank
          c.if-not-pass.ensures.header c.in_ok-judge_next.ensures.bank c.in_ok-judge_next.ensures.shape
          (λ number at. c.in_ok-judge_next.ensures.judged r.shape r.memory r.bank r.gave number at)
          (c.in_ok-judge_next.ensures.counted r.shape r.gave);
    }

pub returns-clause-takes : goal.returns-clause-takes
returns-clause-takes c shape memory bank came gave fits named settled =
    let item = c.args.item.now in
    let passed = c.if-not-pass.ensures.passed refl came gave settled.bank_judged.ordered settled.drained in
    c.settle.ensures.settles shape memory bank (came ++ item ∷ []) (gave ++ item ∷ [])
    (judged_pass shape memory bank came gave c.args.self.now settled.bank_judged item
    (record {
      order = c.pass.new.self;
      step = c.judge_next.new.step;
      outcome = c.judge_next.new.outcome;
      count = c.judge_next.new.count;
    }) fits named passed.0 passed.1 c.if-not-pass.ensures.bank
    c.if-not-pass.ensures.header c.in_ok-judge_next.ensures.bank c.in_ok-judge_next.ensures.shape
    (λ number at. c.in_ok-judge_next.ensures.judged shape memory bank gave number at)
    (c.in_ok-judge_next.ensures.counted shape gave))
