-- The laws for a shape hold for the shape that a text says.
use Rattle.std.proofs.Common.{◌≡◌, ℕ, ◌<◌, List, Some, Ok, Err, refl, sym, ◌∙◌, ap, subst, ◌⊎◌, inl, inr}
use Rattle.std.specs.Prelude.{slice_index, string_bytes}
use Rattle.lf_rules.specs.declared.shape.Shape.{Shape}
use Rattle.lf_config.specs.declared.fault.ConfigFault.{ConfigFault}
use Rattle.lf_config.specs.declared.fault.ConfigFault.TheVariants as told
use Rattle.lf_config.specs.Configuration.{Fault, not_toml, unknown, missing, kind, range, configuration_of}
use Rattle.lf_verdict.specs.declared.answer.Verdict.{Verdict}
use Rattle.lf_verdict.specs.declared.answer.Verdict.TheVariants.{Yes, No, Refused}
use Rattle.lf_verdict.specs.declared.answer.Refusal.TheVariants as refusals
use Rattle.lf_verdict.specs.Configured.{IsConfigFault, IsConfiguredVerdict, IsVerdictFor}
use Rattle.lf_verdict.specs.ConfiguredLaws.{fault_told, SameVerdictFor, VerdictsForAreOne, MixturesAreAlikeFor}
use Rattle.lf_verdict.specs.Laws.{SameVerdict, AreMixtures, VerdictsAreOne, MixturesAreAlike}
use Rattle.lf_verdict.specs.Verdict.{IsWorkerCount, IsTraceVerdict, IsVerdictOf}

-- ---- mixtures

module _ (alike : MixturesAreAlike) (text : List ℕ) (workers : ℕ) (bytes other : List ℕ)
    (fit : (i : ℕ) → slice_index bytes i < 256) (mixed : AreMixtures bytes other) where
  with_verdict : (v : Verdict) → (is : IsConfiguredVerdict text bytes v) → IsTraceVerdict is.shape other v →
      IsConfiguredVerdict text other v
  with_verdict v is now = record { shape = is.shape; configured = is.configured; verdict = now }

  moved : (verdict : Verdict) → IsVerdictFor text workers bytes verdict → IsVerdictFor text workers other verdict
  moved (Yes events order) is = (
    is.0,
    with_verdict (Yes events order) is.1
        (alike is.1.shape workers bytes other (Yes events order) fit mixed (is.0, is.1.verdict)).1,
  )
  moved (No fault) is = (
    is.0,
    with_verdict (No fault) is.1
        (alike is.1.shape workers bytes other (No fault) fit mixed (is.0, is.1.verdict)).1,
  )
  moved (Refused (refusals.Workers n)) is = is
  moved (Refused (refusals.Config fault)) is = is
  moved (Refused (refusals.Format fault)) is = (
    is.0,
    with_verdict (Refused (refusals.Format fault)) is.1
        (alike is.1.shape workers bytes other (Refused (refusals.Format fault)) fit mixed (is.0, is.1.verdict)).1,
  )
  moved (Refused (refusals.Header field)) is = (
    is.0,
    with_verdict (Refused (refusals.Header field)) is.1
        (alike is.1.shape workers bytes other (Refused (refusals.Header field)) fit mixed (is.0, is.1.verdict)).1,
  )
  moved (Refused refusals.Memory) is = absurd is.1.verdict
  moved (Refused refusals.Thread) is = absurd is.1.verdict

pub mixtures_are_alike_for : MixturesAreAlike → MixturesAreAlikeFor
mixtures_are_alike_for alike text workers bytes other verdict fit mixed is =
    moved alike text workers bytes other fit mixed verdict is

-- ---- one verdict

module _ (text : List ℕ) where
  -- what is told is the fault that is due
  due : (fault : ConfigFault) → IsConfigFault text fault → (f : Fault) × (configuration_of text ≡ Err f) ×
      (fault_told fault ≡ Some f)
  due told.NotToml is = (not_toml, is, refl)
  due (told.Unknown name) is = (unknown (string_bytes name), is, refl)
  due (told.Missing key) is = (missing key, is, refl)
  due (told.Kind key) is = (kind key, is, refl)
  due (told.Range key) is = (range key, is, refl)
  due told.NoMemory is = absurd is

  one_fault : (a b : ConfigFault) → IsConfigFault text a → IsConfigFault text b → fault_told a ≡ fault_told b
  one_fault a b x y =
      let first = due a x in
      let second = due b y in
      let both = sym first.1 ∙ second.1 in
      let same : first.0 ≡ second.0 = cc in
      first.2 ∙ ap (λ (f : Fault). Some f) same ∙ sym second.2

  fault_or_shape : (fault : ConfigFault) (shape : Shape) → IsConfigFault text fault →
      configuration_of text ≡ Ok shape → ⊥
  fault_or_shape fault shape is configured =
      let told_due = due fault is in
      let both = sym configured ∙ told_due.1 in cc

  one_shape : (a b : Shape) → configuration_of text ≡ Ok a → configuration_of text ≡ Ok b → a ≡ b
  one_shape a b x y = let both = sym x ∙ y in cc

module _ (one : VerdictsAreOne) (text : List ℕ) (workers : ℕ) (bytes : List ℕ)
    (fit : (i : ℕ) → slice_index bytes i < 256) where
  -- too many workers, a fault of the text, or a verdict for its shape
  abbrev Split : Verdict → Type 0
  Split v = ((v ≡ Refused (refusals.Workers workers)) × ¬ IsWorkerCount workers)
      ⊎ (IsWorkerCount workers × (((f : ConfigFault) × (v ≡ Refused (refusals.Config f)) × IsConfigFault text f)
      ⊎ IsConfiguredVerdict text bytes v))

  split : (v : Verdict) → IsVerdictFor text workers bytes v → Split v
  split (Yes events order) is = inr (is.0, inr is.1)
  split (No fault) is = inr (is.0, inr is.1)
  split (Refused (refusals.Workers n)) is = inl (ap (λ m. Refused (refusals.Workers m)) is.0, is.1)
  split (Refused (refusals.Config fault)) is = inr (is.0, inl (fault, refl, is.1))
  split (Refused (refusals.Format fault)) is = inr (is.0, inr is.1)
  split (Refused (refusals.Header field)) is = inr (is.0, inr is.1)
  split (Refused refusals.Memory) is = inr (is.0, inr is.1)
  split (Refused refusals.Thread) is = inr (is.0, inr is.1)

  verdict_of : (shape : Shape) (v : Verdict) → IsWorkerCount workers → IsTraceVerdict shape bytes v →
      IsVerdictOf shape workers bytes v
  verdict_of shape (Yes events order) count is = (count, is)
  verdict_of shape (No fault) count is = (count, is)
  verdict_of shape (Refused (refusals.Workers n)) count is = absurd is
  verdict_of shape (Refused (refusals.Config fault)) count is = absurd is
  verdict_of shape (Refused (refusals.Format fault)) count is = (count, is)
  verdict_of shape (Refused (refusals.Header field)) count is = (count, is)
  verdict_of shape (Refused refusals.Memory) count is = absurd is
  verdict_of shape (Refused refusals.Thread) count is = absurd is

  same_for : (shape : Shape) (a b : Verdict) → IsTraceVerdict shape bytes a → SameVerdict a b → SameVerdictFor a b
  same_for shape (Yes events order) b is same = same
  same_for shape (No fault) b is same = same
  same_for shape (Refused (refusals.Workers n)) b is same = absurd is
  same_for shape (Refused (refusals.Config fault)) b is same = absurd is
  same_for shape (Refused (refusals.Format fault)) b is same = same
  same_for shape (Refused (refusals.Header field)) b is same = same
  same_for shape (Refused refusals.Memory) b is same = absurd is
  same_for shape (Refused refusals.Thread) b is same = absurd is

  configured : (shape : Shape) (a b : Verdict) → IsWorkerCount workers → IsTraceVerdict shape bytes a →
      IsTraceVerdict shape bytes b → SameVerdictFor a b
  configured shape a b count x y = same_for shape a b x (one shape workers bytes a b fit (verdict_of shape a count x)
      (verdict_of shape b count y))

  both : (a b : Verdict) → Split a → Split b → SameVerdictFor a b
  both a b (inl m) (inl n) = subst (λ v. SameVerdictFor v b) (sym m.0)
      (subst (λ v. SameVerdictFor (Refused (refusals.Workers workers)) v) (sym n.0) refl)
  both a b (inl m) (inr n) = absurd (m.1 n.0)
  both a b (inr m) (inl n) = absurd (n.1 m.0)
  both a b (inr (count, inl (f, is, x))) (inr (_, inl (f', is', y))) =
      subst (λ v. SameVerdictFor v b) (sym is) (subst (λ v. SameVerdictFor (Refused (refusals.Config f)) v) (sym is')
      (one_fault text f f' x y))
  both a b (inr (count, inl (f, is, x))) (inr (_, inr y)) = absurd (fault_or_shape text f y.shape x y.configured)
  both a b (inr (count, inr x)) (inr (_, inl (f, is, y))) = absurd (fault_or_shape text f x.shape y x.configured)
  both a b (inr (count, inr x)) (inr (_, inr y)) =
      configured x.shape a b count x.verdict (subst (λ (s : Shape). IsTraceVerdict s bytes b)
      (one_shape text y.shape x.shape y.configured x.configured) y.verdict)

pub verdicts_for_are_one : VerdictsAreOne → VerdictsForAreOne
verdicts_for_are_one one text workers bytes a b fit x y = both one text workers bytes fit a b
    (split one text workers bytes fit a x) (split one text workers bytes fit b y)
