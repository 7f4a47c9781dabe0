-- The workers of a session, and what each of them promised.
use Rattle.std.specs.Prelude.{◌≡◌, List}
use Rattle.std.specs.Arc.{arc_value}
use Rattle.lf_rules.specs.declared.event.Record.{Record}
use Rattle.lf_verdict.specs.declared.session.promise.Judges.{Judges}
use Rattle.lf_verdict.specs.declared.session.share.Share.{Share}
use Rattle.lf_verdict.specs.declared.session.share.ShareKind.{ShareKind}
use Rattle.lf_verdict.specs.declared.session.share.ShareKind.TheVariants.{Entries, Banks}
use Rattle.lf_verdict.specs.declared.session.worker.Worker.{Worker}
use Rattle.lf_verdict.specs.declared.session.worker.Worker.TheVariants as workers
use Rattle.lf_verdict.specs.declared.session.workers.Workers.{Workers}
use Rattle.lf_verdict.specs.inner.Shares.{IsShareAfter, Takes}

-- The share keeps the promise.
abbrev pub Keeps : Judges → Share → Type 0
Keeps p share = IsShareAfter p.standing.value p.records.value.records p.kind share

-- Whatever it becomes once it is judged on these records keeps the promise.
abbrev pub KeepsIfTaken : Judges → List Record → Share → Type 0
KeepsIfTaken p records share = (judged : Share) → Takes records share judged → Keeps p judged

-- The worker may give this share back.
abbrev pub IsShareOf : Worker → Share → Type 0
IsShareOf (workers.Idle share) given = given ≡ share
IsShareOf (workers.Busy thread) given = Keeps thread.promise given

-- What it gives back keeps the promise.
abbrev pub WorksOn : Judges → Worker → Type 0
WorksOn p worker = (share : Share) → IsShareOf worker share → Keeps p share

-- The worker judges its share on the batch.
abbrev pub IsAtWork : Workers → ShareKind → Worker → Type 0
IsAtWork w kind worker = (share : Share) → IsShareOf worker share →
    IsShareAfter w.standing.value (arc_value w.batch).records kind share

-- Both do.
pub record AreWorkers (w : Workers) : Type 0 where
  pub entries : IsAtWork w Entries w.entries
  pub banks : IsAtWork w Banks w.banks
