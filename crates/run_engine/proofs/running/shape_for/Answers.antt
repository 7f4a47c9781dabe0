use Rattle.std.proofs.Common.{List, ℕ, Result, Ok, Err, refl, sym, subst}
use Rattle.std.specs.Result.{IsErrAnd}
use Rattle.lf_rules.specs.declared.shape.Shape.{Shape}
use Rattle.lf_verdict.specs.declared.answer.Refusal.{Refusal}
use Rattle.lf_verdict.specs.declared.answer.Refusal.TheVariants.{Workers, Config, Format, Header, Memory, Thread}
use Rattle.lf_verdict.specs.Session.{IsConfigRefusal}
use Rattle.lf_verdict.specs.Verdict.{IsWorkerCount}
use Rattle.lf_verdict.proofs.Refusals.{config_refused}
use Rattle.run_engine.specs.Run.{IsRefusedFirst, IsShapeFor}
use Rattle.run_engine.proofs.running.shape_for.Goals as goal

refused_first : (text : List ℕ) (workers : ℕ) → IsWorkerCount workers → (r : Refusal) → IsConfigRefusal text r →
    IsRefusedFirst text workers r
refused_first text workers ok (Config fault) is = (ok, is)
refused_first text workers ok Memory is = tt
refused_first text workers ok (Workers n) is = absurd is
refused_first text workers ok (Format fault) is = absurd is
refused_first text workers ok (Header field) is = absurd is
refused_first text workers ok Thread is = absurd is

found_none : {Q : Refusal → Type 0} (text : List ℕ) (workers : ℕ) (found : Result Shape Refusal)
    → ((r : Refusal) → Q r → IsRefusedFirst text workers r) → IsErrAnd found Q → IsShapeFor text workers found
found_none text workers (Ok shape) first is = absurd is
found_none text workers (Err r) first is = first r is

pub returns-in_err-read-clause-found : goal.returns-in_err-read-clause-found
returns-in_err-read-clause-found c =
    let text = c.args.config.now in
    found_none text c.args.workers c.from_residual.result
    (λ refusal is. subst (IsRefusedFirst text c.args.workers) (sym is)
    (refused_first text c.args.workers (c.if-not-is_worker_count.ensures.0 refl) _
    (config_refused text c.in_err-read.field-0.0 c.in_err-read.ensures.gives)))
    c.from_residual.ensures.1
