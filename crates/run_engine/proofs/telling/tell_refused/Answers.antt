use Rattle.std.proofs.Common.{◌≡◌, Ok, None, refl, inl, inr, rules, string_bytes}
use Rattle.lf_verdict.specs.Conclusion.{refused, without_memory}
use Rattle.run_engine.proofs.TellingLemmas.{told_in_part}
use Rattle.run_engine.proofs.telling.tell_refused.Goals as goal

pub returns-in_err-put-in-Ok : goal.returns-in_err-put-in-Ok
returns-in_err-put-in-Ok g c =
    let fed = c.new.result in
    let out = c.in_err-put-in-Ok.ensures.prefix in
    let text : c.as_bytes.result.now ≡ string_bytes c.in-Ok.text = search rules in (
      fed,
      told_in_part _ _ _ _ _ _ (search rules) (search rules) (record {
        told = Ok (refused fed c.args.refusal);
        follows = inl refl;
        text = string_bytes c.in-Ok.text;
        due = c.in-Ok.ensures;
        n = out.0;
        out = rw text at out.1;
      }),
    )

pub returns-in_err-put-in-Err : goal.returns-in_err-put-in-Err
returns-in_err-put-in-Err g c =
    let fed = c.new.result in
    let out = c.in_err-put-in-Err.ensures.prefix in (
      fed,
      told_in_part _ _ _ _ _ _ (search rules) (search rules) (record {
        told = Ok (without_memory fed);
        follows = inr refl;
        text = c.no_memory.result.now;
        due = c.no_memory.ensures None fed;
        n = out.0;
        out = out.1;
      }),
    )
