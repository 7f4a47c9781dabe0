use Rattle.std.proofs.Common.{◌≡◌, Ok, Err, Some, refl, inl, inr, rules, string_bytes}
use Rattle.lf_verdict.specs.Conclusion.{without_memory}
use Rattle.run_engine.proofs.TellingLemmas.{told_in_part}
use Rattle.run_engine.proofs.telling.tell.Goals as goal

pub returns-in_err-put-in-Err : goal.returns-in_err-put-in-Err
returns-in_err-put-in-Err g c =
    let out = c.in_err-put-in-Err.ensures.prefix in
    told_in_part _ _ _ _ _ _ (search rules) (search rules) (record {
      told = Err c.in-Err.fault;
      follows = rw c.in-Err.is refl;
      text = c.not_read.result.now;
      due = c.not_read.ensures;
      n = out.0;
      out = out.1;
    })

pub returns-in_err-put-in-Ok-text : goal.returns-in_err-put-in-Ok-text
returns-in_err-put-in-Ok-text g c =
    let out = c.in_err-put-in-Ok-text.ensures.prefix in
    let text : c.as_bytes.result.now ≡ string_bytes c.in-Ok-text.text = search rules in
    told_in_part _ _ _ _ _ _ (search rules) (search rules) (record {
      told = Ok c.in-Ok.judged.conclusion;
      follows = rw c.in-Ok.is (inl refl);
      text = string_bytes c.in-Ok-text.text;
      due = c.in-Ok-text.ensures;
      n = out.0;
      out = rw text at out.1;
    })

pub returns-in_err-put-in-Err-text : goal.returns-in_err-put-in-Err-text
returns-in_err-put-in-Err-text g c =
    let out = c.in_err-put-in-Err-text.ensures.prefix in
    told_in_part _ _ _ _ _ _ (search rules) (search rules) (record {
      told = Ok (without_memory c.in-Ok.judged.conclusion.fed);
      follows = rw c.in-Ok.is (inr refl);
      text = c.no_memory.result.now;
      due = c.no_memory.ensures (Some c.args.shape.now) c.in-Ok.judged.conclusion.fed;
      n = out.0;
      out = out.1;
    })
