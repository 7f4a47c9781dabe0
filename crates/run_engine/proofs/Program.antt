-- A run whose answer is a verdict with its order is a run of the program.
use Rattle.std.proofs.Common.{◌≡◌, ◌≢◌, ℕ, ◌<◌, ◌≤◌, List, [], ◌∷◌, ◌++◌, true, false, Option, None, Some, Result, Ok}
use Rattle.std.proofs.Common.{Err, IfOk, IfSome, sym, ap, ◌∙◌, subst, refl, inl, inr, arith}
use Rattle.std.specs.Prelude.{IsSome, IsErrOf, IfErr, take}
use Rattle.std.specs.Global.{Vec}
use Rattle.lf_verdict.specs.declared.fed.Fed.{Fed}
use Rattle.lf_rules.specs.declared.shape.Shape.{Shape}
use Rattle.lf_config.specs.declared.fault.ConfigFault.{ConfigFault}
use Rattle.lf_config.specs.declared.fault.ConfigFault.TheVariants as told
use Rattle.lf_config.specs.Configuration.{configuration_of}
use Rattle.lf_verdict.specs.declared.answer.Outcome.{Outcome}
use Rattle.lf_verdict.specs.declared.answer.Outcome.TheVariants as outcomes
use Rattle.lf_verdict.specs.declared.answer.Verdict.{Verdict}
use Rattle.lf_verdict.specs.declared.answer.Verdict.TheVariants.{Yes, No, Refused}
use Rattle.lf_verdict.specs.declared.answer.Refusal.{Refusal}
use Rattle.lf_verdict.specs.declared.answer.Refusal.TheVariants.{Workers, Config, Format, Header, Memory, Thread}
use Rattle.lf_verdict.specs.declared.session.conclusion.Conclusion.{Conclusion}
use Rattle.lf_verdict.specs.Conclusion.{verdict_with, verdict_of, refused, without_memory, IsOrderFor}
use Rattle.lf_verdict.specs.Configured.{IsConfigFault, IsVerdictFor, IsLegalFor, IsRunlessNoFor}
use Rattle.lf_verdict.specs.Laws.{IsRunlessNo, IsRunlessOutcome}
use Rattle.lf_verdict.specs.Legal.{IsLegal}
use Rattle.lf_verdict.specs.Outcome.{IsOutcomeOf, IsDecidedOutcome, IsYesOutcome}
use Rattle.lf_verdict.specs.Verdict.{IsWorkerCount, IsDecided, IsVerdictOf, IsLegalYes}
use Rattle.lf_verdict.proofs.Verdicts.{with_legal, with_runless, with_verdict, with_thread}
use Rattle.run_stream.specs.Account.{Account, WentOut}
use Rattle.run_stream.specs.Gathered.{GoesOn}
use Rattle.run_stream.proofs.GatheringLemmas.{goes_from}
use Rattle.run_engine.specs.declared.ask.Needs.{Needs}
use Rattle.run_engine.specs.declared.fault.RunFault.{RunFault}
use Rattle.run_engine.specs.declared.fault.RunFault.TheVariants.{Read, Turns, Write}
use Rattle.run_engine.specs.declared.judging.Judged.{Judged}
use Rattle.run_engine.specs.Asks.{IsLine}
use Rattle.run_engine.specs.Gathered.{HasFault, HasEnough}
use Rattle.run_engine.specs.Line.{line_of, verdict_text, not_read_line}
use Rattle.run_engine.specs.Needs.{verdict_needs}
use Rattle.run_engine.specs.Program.{IsAsked, IsVerdictOfRead, IsLegalRead, IsRunlessRead, IfNo, IfYes, verdict_in}
use Rattle.run_engine.specs.Program.{answer_line, IsOutcome, IsRunOfProgram}
use Rattle.run_engine.specs.Run.{ReadsUntil, Reads, GaveSome, IsWhole, IsOfRead, IsJudged, conclusion_in, Follows}
use Rattle.run_engine.specs.Run.{IsTextFor, IsTold, IsRun, IsRefused, IsRefusedFirst, IsShapeFor, IsRunOn, IsRunFor}
use Rattle.run_engine.proofs.GatheringLemmas.{fault_of, enough_by}
use Rattle.run_engine.proofs.JudgingLemmas.{of_memory}

-- ---- a run that does not end early is one until a fault stands

module _ (needs : Needs) (shape : Shape) (late : needs.early ≡ false) (old new : Account) where
  reads_late : (bytes : List ℕ) → ReadsUntil (HasEnough needs shape) old new bytes → Reads old new bytes
  reads_late bytes r = record {
    are_bytes = r.are_bytes;
    all = record {
      before = r.all.before;
      last = r.all.last;
      answered = r.all.answered;
      joined = r.all.joined;
      one_read = r.all.one_read;
      wanted = λ fault. r.all.wanted (enough_by needs shape _ fault);
      ended = λ sound. r.all.ended (λ enough. sound (fault_of needs shape _ late enough));
      given = r.all.given;
      at_end = λ sound. r.all.at_end (λ enough. sound (fault_of needs shape _ late enough));
    };
  }

  gave_late : GaveSome (HasEnough needs shape) old new → GaveSome HasFault old new
  gave_late (bytes, part) = (
    bytes,
    record {
      pieces = part.pieces;
      answered = part.answered;
      joined = part.joined;
      given = part.given;
      wanted = λ fault. part.wanted (enough_by needs shape _ fault);
    },
  )

-- ---- refusals that come before the trace is asked for

same_fault : (A B : Type 0) (e f : RunFault) → IsErrOf {T = A} (Err e) f → IsErrOf {T = B} (Err e) f
same_fault A B e f is = let one : e ≡ f = cc in ap Err one

not_thread : (text : List ℕ) (workers : ℕ) (r : Refusal) → IsRefusedFirst text workers r → r ≢ Thread
not_thread text workers (Workers n) h = λ e. absurd (cc)
not_thread text workers (Config f) h = λ e. absurd (cc)
not_thread text workers (Format f) h = absurd h
not_thread text workers (Header f) h = absurd h
not_thread text workers Memory h = λ e. absurd (cc)
not_thread text workers Thread h = absurd h

-- A fault of the text leaves no shape.
fault_is_none : (text : List ℕ) (shape : Shape) (f : ConfigFault) → IsConfigFault text f →
    configuration_of text ≡ Ok shape → ⊥
fault_is_none text shape told.NotToml h e = absurd (cc)
fault_is_none text shape (told.Unknown name) h e = absurd (cc)
fault_is_none text shape (told.Missing key) h e = absurd (cc)
fault_is_none text shape (told.Kind key) h e = absurd (cc)
fault_is_none text shape (told.Range key) h e = absurd (cc)
fault_is_none text shape told.NoMemory h e = h

refused_unasked : (text : List ℕ) (workers : ℕ) (r : Refusal) → IsRefusedFirst text workers r → IsDecided (Refused r) →
    IsAsked text workers → ⊥
refused_unasked text workers (Workers n) h on asked = h.1 asked.0
refused_unasked text workers (Config f) h on asked = fault_is_none text asked.1.0 f h.1 asked.1.1
refused_unasked text workers (Format f) h on asked = h
refused_unasked text workers (Header f) h on asked = h
refused_unasked text workers Memory h on asked = on
refused_unasked text workers Thread h on asked = h

refused_verdict : (text : List ℕ) (workers : ℕ) (r : Refusal) → IsRefusedFirst text workers r → (bytes : List ℕ) →
    IsDecided (Refused r) → IsVerdictFor text workers bytes (Refused r)
refused_verdict text workers (Workers n) h bytes on = h
refused_verdict text workers (Config f) h bytes on = h
refused_verdict text workers (Format f) h bytes on = absurd h
refused_verdict text workers (Header f) h bytes on = absurd h
refused_verdict text workers Memory h bytes on = absurd on
refused_verdict text workers Thread h bytes on = absurd h

-- The verdict for a shape is that for each text that says it, and so is what a no means.
verdict_for : (text : List ℕ) (shape : Shape) (workers : ℕ) (bytes : List ℕ) (v : Verdict) →
    configuration_of text ≡ Ok shape → IsVerdictOf shape workers bytes v → IsVerdictFor text workers bytes v
verdict_for text shape workers bytes (Refused (Workers n)) e h = h
verdict_for text shape workers bytes (Refused (Config f)) e h = absurd h.1
verdict_for text shape workers bytes (Refused (Format f)) e h =
    (h.0, record { shape = shape; configured = e; verdict = h.1 })
verdict_for text shape workers bytes (Refused (Header f)) e h =
    (h.0, record { shape = shape; configured = e; verdict = h.1 })
verdict_for text shape workers bytes (Refused Memory) e h = absurd h.1
verdict_for text shape workers bytes (Refused Thread) e h = absurd h.1
verdict_for text shape workers bytes (No f) e h = (h.0, record { shape = shape; configured = e; verdict = h.1 })
verdict_for text shape workers bytes (Yes events order) e h =
    (h.0, record { shape = shape; configured = e; verdict = h.1 })

runless_for : (text : List ℕ) (shape : Shape) → configuration_of text ≡ Ok shape → (bytes : List ℕ) (v : Verdict) →
    IsRunlessNo shape bytes v → IsRunlessNoFor text bytes v
runless_for text shape e bytes v h = λ other configured.
    let one : Ok shape ≡ Ok other = sym e ∙ configured in
    let same : shape ≡ other = cc in
    subst (λ (s : Shape). IsRunlessNo s bytes v) same h

-- ---- what is told

-- the line of an outcome is that of its verdict
line_same : (outcome : Outcome) (order : Option (Vec ℕ)) → (IsYesOutcome outcome → IsSome order) →
    line_of outcome ≡ verdict_text (verdict_with outcome order) ++ 10 ∷ []
line_same (outcomes.Yes events) (Some order) some = refl
line_same (outcomes.Yes events) None some = let bad = some tt in absurd (cc)
line_same (outcomes.No fault) order some = refl
line_same (outcomes.Refused refusal) order some = refl

decided_by : (outcome : Outcome) (order : Option (Vec ℕ)) → IsDecided (verdict_with outcome order) →
    IsDecidedOutcome outcome
decided_by (outcomes.Yes events) order on = tt
decided_by (outcomes.No fault) order on = tt
decided_by (outcomes.Refused (Workers n)) order on = tt
decided_by (outcomes.Refused (Config f)) order on = tt
decided_by (outcomes.Refused (Format f)) order on = tt
decided_by (outcomes.Refused (Header f)) order on = tt
decided_by (outcomes.Refused Memory) order on = on
decided_by (outcomes.Refused Thread) order on = on

module _ (old new : Account) (asked : Type 0) (L : List ℕ → List ℕ → Type 0) (N V : List ℕ → Verdict → Type 0)
    (turns : ℕ) where
  -- What is said of all that the reader had.
  pub record IsOfAll (v : Verdict) (all : List ℕ) : Type 0 where
    pub legal : IfYes v (L all)
    pub runless : N all v
    pub verdict : IsDecided v → V all v

  -- What is told is as it is said of a run of the program.
  pub record IsSaid (told : Result Conclusion RunFault) : Type 0 where
    pub outcome : IsOutcome old new asked L V turns (verdict_in told)
    pub runless : IfOk told (λ c. IfNo (verdict_of c) (IsRunlessRead old new (λ bytes. N bytes (verdict_of c))))
    pub whole : IfOk told (λ c. IfSome old.known (IsOfAll (verdict_of c)))
    pub line : IfOk told (λ c. line_of c.outcome ≡ verdict_text (verdict_of c) ++ 10 ∷ [])

  known : (P Q : List ℕ → Type 0) (a : Option (List ℕ)) → ((all : List ℕ) → P all → Q all) → IfSome a P → IfSome a Q
  known P Q None f p = tt
  known P Q (Some all) f p = f all p

  module _ (writer writer' : Account) (came_to : Result Conclusion RunFault)
      (said : (r : Result Conclusion RunFault) → Follows came_to r → IsSaid r) where
    none_failed : (n : ℕ) → ¬ (0 < n) → n ≡ 0
    none_failed n none = omega (arith, none)

    due_line : (r : Result Conclusion RunFault) (text : List ℕ) → IsSaid r
        → IsTextFor (λ c text. text ≡ line_of c.outcome) not_read_line r text → text ≡ answer_line (verdict_in r)
    due_line (Ok c) text is due = due ∙ is.line
    due_line (Err fault) text is due = due

    pub program : (answer : Result Conclusion RunFault)
        → IsTold writer writer' came_to (λ c text. text ≡ line_of c.outcome) not_read_line answer
        → IsRunOfProgram old new writer writer' asked L N V turns (verdict_in answer)
    program (Ok c) t =
        let is = said (Ok c) (t.follows (λ e. absurd (cc))) in
        let out = t.written (λ e. absurd (cc)) in
        record {
          reads = is.outcome.reads;
          unread = is.outcome.unread;
          once = is.outcome.once;
          legal = is.outcome.legal;
          legal_whole = known (IsOfAll (verdict_of c)) (λ all. IfYes (verdict_of c) (L all)) old.known
              (λ all w. w.legal) is.whole;
          runless = is.runless;
          runless_whole = known (IsOfAll (verdict_of c)) (λ all. N all (verdict_of c)) old.known (λ all w. w.runless)
              is.whole;
          verdict = is.outcome.verdict;
          whole = λ on. known (IsOfAll (verdict_of c)) (λ all. V all (verdict_of c)) old.known
              (λ all w. w.verdict on) is.whole;
          thread = is.outcome.no_thread;
          written = λ _. subst (WentOut writer writer') (out.1 ∙ is.line) out.2;
          read = (λ e. absurd (cc), λ failed. let bad = is.outcome.read.1 failed.0 in absurd (cc));
          turns_ran_out = λ e. absurd (cc);
          write = (λ e. absurd (cc), λ failed. let bad = t.write.1 failed in absurd (cc));
          sound = tt;
          unended = tt;
          prefix = λ e. absurd (cc);
        }
    program (Err Read) t =
        let is = said (Err Read) (t.follows (λ e. absurd (cc))) in
        let out = t.written (λ e. absurd (cc)) in
        let fine : ¬ (0 < writer'.failures) = λ failed. let bad = t.write.1 failed in absurd (cc) in
        record {
          reads = is.outcome.reads;
          unread = is.outcome.unread;
          once = is.outcome.once;
          legal = tt;
          legal_whole = tt;
          runless = tt;
          runless_whole = tt;
          verdict = tt;
          whole = tt;
          thread = λ e. absurd (cc);
          written = λ _. subst (WentOut writer writer') out.1 out.2;
          read = (λ _. (is.outcome.read.0 refl, none_failed writer'.failures fine), λ _. refl);
          turns_ran_out = λ e. absurd (cc);
          write = (λ e. absurd (cc), λ failed. absurd (fine failed));
          sound = λ _. is.outcome.sound;
          unended = λ _. is.outcome.unended;
          prefix = λ e. absurd (cc);
        }
    program (Err Turns) t =
        let is = said (Err Turns) (t.follows (λ e. absurd (cc))) in
        let out = t.written (λ e. absurd (cc)) in
        record {
          reads = is.outcome.reads;
          unread = is.outcome.unread;
          once = is.outcome.once;
          legal = tt;
          legal_whole = tt;
          runless = tt;
          runless_whole = tt;
          verdict = tt;
          whole = tt;
          thread = λ e. absurd (cc);
          written = λ _. subst (WentOut writer writer') out.1 out.2;
          read = (λ e. absurd (cc), λ failed. let bad = is.outcome.read.1 failed.0 in absurd (cc));
          turns_ran_out = λ _. is.outcome.turned refl;
          write = (λ e. absurd (cc), λ failed. let bad = t.write.1 failed in absurd (cc));
          sound = λ _. is.outcome.sound;
          unended = λ _. is.outcome.unended;
          prefix = λ e. absurd (cc);
        }
    program (Err Write) t =
        let begins = t.prefix refl in
        let is = said begins.told begins.follows in
        let failed = t.write.0 refl in
        record {
          reads = is.outcome.reads;
          unread = is.outcome.unread;
          once = is.outcome.once;
          legal = tt;
          legal_whole = tt;
          runless = tt;
          runless_whole = tt;
          verdict = tt;
          whole = tt;
          thread = λ e. absurd (cc);
          written = λ other. absurd (other refl);
          read = (λ e. absurd (cc), λ both. absurd (omega (arith, failed, both.1)));
          turns_ran_out = λ e. absurd (cc);
          write = (λ _. failed, λ _. refl);
          sound = λ other. absurd (other refl);
          unended = λ other. absurd (other refl);
          prefix = λ _. (
            verdict_in begins.told,
            is.outcome,
            (
              begins.n,
              subst (λ (text : List ℕ). WentOut writer writer'
                  (take begins.n text)) (due_line begins.told begins.text is begins.due) begins.out,
            ),
          );
        }

  -- ---- where the trace was judged

  module _ (shape : Shape) (workers : ℕ) (wanted : asked) (count : IsWorkerCount workers)
      (to_legal : (bytes order : List ℕ) → IsLegal shape bytes order → L bytes order)
      (to_runless : (bytes : List ℕ) (v : Verdict) → IsRunlessNo shape bytes v → N bytes v)
      (to_verdict : (bytes : List ℕ) (v : Verdict) → IsVerdictOf shape workers bytes v → V bytes v)
      (needs : Needs) (late : needs.early ≡ false) (in_order : needs.asked.ordered ≡ true) where
    yes_all : (v : Verdict) (bytes : List ℕ) → IsLegalYes shape bytes v → IfYes v (L bytes)
    yes_all (Yes events order) bytes is = to_legal bytes order.items is.0
    yes_all (No fault) bytes is = tt
    yes_all (Refused refusal) bytes is = tt

    yes_read : (v : Verdict) (bytes : List ℕ) → IsLegalYes shape bytes v → (IsDecided v → Reads old new bytes) →
        IfYes v (IsLegalRead old new L)
    yes_read (Yes events order) bytes is reads =
        record { bytes = bytes; reads = reads tt; legal = to_legal bytes order.items is.0 }
    yes_read (No fault) bytes is reads = tt
    yes_read (Refused refusal) bytes is reads = tt

    no_read : (v : Verdict) (bytes : List ℕ) → IsRunlessNo shape bytes v → (IsDecided v → Reads old new bytes) →
        IfNo v (IsRunlessRead old new (λ bytes. N bytes v))
    no_read (No fault) bytes is reads =
        record { bytes = bytes; reads = reads tt; runless = to_runless bytes (No fault) is }
    no_read (Yes events order) bytes is reads = tt
    no_read (Refused refusal) bytes is reads = tt

    of_bytes : (bytes : List ℕ) (outcome : Outcome) (order : Option (Vec ℕ))
        → (IsDecidedOutcome outcome → IsOutcomeOf shape bytes outcome) → IsRunlessOutcome shape bytes outcome
        → IfSome order (λ order. IsOrderFor shape bytes outcome order.items)
        → IsOfAll (verdict_with outcome order) bytes
    of_bytes bytes outcome order is runless least = record {
      legal = yes_all (verdict_with outcome order) bytes (with_legal shape bytes outcome order least);
      runless = to_runless bytes (verdict_with outcome order) (with_runless shape bytes outcome order runless);
      verdict = λ on. to_verdict bytes (verdict_with outcome order)
          (with_verdict shape bytes workers outcome order count is least on);
    }

    of_all : (bytes all : List ℕ) (outcome : Outcome) (order : Option (Vec ℕ))
        → (IsDecidedOutcome outcome → IsOutcomeOf shape bytes outcome) → IsRunlessOutcome shape bytes outcome
        → IfSome order (λ order. IsOrderFor shape bytes outcome order.items) → IsWhole shape bytes all outcome
        → IsOfAll (verdict_with outcome order) all
    of_all bytes all (outcomes.Yes events) order is runless least same =
        subst (IsOfAll (verdict_with (outcomes.Yes events) order)) (sym same)
        (of_bytes bytes (outcomes.Yes events) order is runless least)
    of_all bytes all (outcomes.No fault) order is runless least same =
        subst (IsOfAll (verdict_with (outcomes.No fault) order)) (sym same)
        (of_bytes bytes (outcomes.No fault) order is runless least)
    of_all bytes all (outcomes.Refused refusal) order is runless least whole =
        of_bytes all (outcomes.Refused refusal) order whole tt least

    memory_outcome : (j : Judged) → IsJudged old new needs shape turns (Ok j) →
        IsOutcome old new asked L V turns (Ok (Refused Memory))
    memory_outcome j h = record {
      reads = h.reads;
      unread = λ unasked. absurd (unasked wanted);
      once = h.once;
      verdict = λ on. absurd on;
      legal = tt;
      no_thread = λ e. absurd (cc);
      read = (λ e. absurd (cc), λ failed. let bad = h.read.1 failed in absurd (cc));
      turned = λ e. absurd (cc);
      sound = tt;
      unended = tt;
      no_write = λ e. absurd (cc);
    }

    -- What is concluded is told.
    concluded : (c : Conclusion) → new.calls ≤ turns → IsOutcome old new asked L V turns (Ok (Refused Memory)) →
        IsOfRead old new needs shape c → IsSaid (Ok c)
    concluded c few memory of_read =
        let v = verdict_of c in
        let bytes = c.fed.bytes in
        let is = of_read.is in
        let at = of_bytes bytes c.outcome c.order is.outcome is.runless is.order in
        let reads : IsDecided v → Reads old new bytes = λ on. reads_late needs shape late old new bytes
        (of_read.reads (decided_by c.outcome c.order on)) in
        record {
          outcome = record {
            reads = few;
            unread = λ unasked. absurd (unasked wanted);
            once = memory.once;
            verdict = λ on. record { bytes = bytes; reads = λ _. reads on; verdict = at.verdict on };
            legal = yes_read v bytes (with_legal shape bytes c.outcome c.order is.order) reads;
            no_thread = λ e. is.thread (with_thread c.outcome c.order (cc));
            read = (λ e. absurd (cc), λ failed. let bad = memory.read.1 failed in absurd (cc));
            turned = λ e. absurd (cc);
            sound = tt;
            unended = tt;
            no_write = λ e. absurd (cc);
          };
          runless = no_read v bytes (with_runless shape bytes c.outcome c.order is.runless) reads;
          whole = known (λ all. IsWhole shape bytes all c.outcome) (IsOfAll v) old.known
              (λ all w. of_all bytes all c.outcome c.order is.outcome is.runless is.order w) (of_read.whole late);
          line = line_same c.outcome c.order (is.ordered in_order);
        }

    -- What a run came to is told, or that memory ran out.
    pub judged_said : (came_to : Result Judged RunFault) → IsJudged old new needs shape turns came_to
        → (r : Result Conclusion RunFault) → Follows (conclusion_in came_to) r → IsSaid r
    judged_said (Ok j) h (Ok c) (inl same) = subst IsSaid (sym same)
        (concluded j.conclusion h.reads (memory_outcome j h) h.concluded)
    judged_said (Ok j) h (Ok c) (inr memory) = subst IsSaid (sym memory)
        (concluded (without_memory j.conclusion.fed) h.reads (memory_outcome j h)
        (of_memory old new needs shape j.conclusion.fed))
    judged_said (Ok j) h (Err fault) (inl same) = absurd (cc)
    judged_said (Ok j) h (Err fault) (inr memory) = absurd (cc)
    judged_said (Err fault) h r follows = subst IsSaid (sym follows) (record {
      outcome = record {
        reads = h.reads;
        unread = λ unasked. absurd (unasked wanted);
        once = h.once;
        verdict = tt;
        legal = tt;
        no_thread = λ e. absurd (cc);
        read = (
          λ e. h.read.0 (same_fault Verdict Judged fault Read e),
          λ failed. same_fault Judged Verdict fault Read (h.read.1 failed),
        );
        turned = λ e. h.turned (same_fault Verdict Judged fault Turns e);
        sound = gave_late needs shape late old new h.sound;
        unended = h.unended;
        no_write = λ e. h.no_write (same_fault Verdict Judged fault Write e);
      };
      runless = tt;
      whole = tt;
      line = tt;
    })

  -- ---- where the trace was not asked for

  module _ (unread : new ≡ old) (calls : old.calls ≡ 0) (failures : old.failures ≡ 0)
      (nothing : (bytes : List ℕ) (refusal : Refusal) → N bytes (Refused refusal)) where
    everywhere : (P : List ℕ → Type 0) (a : Option (List ℕ)) → ((all : List ℕ) → P all) → IfSome a P
    everywhere P None f = tt
    everywhere P (Some all) f = f all

    refusal_said : (refusal : Refusal) → refusal ≢ Thread → (IsDecided (Refused refusal) → asked → ⊥)
        → ((bytes : List ℕ) → IsDecided (Refused refusal) → V bytes (Refused refusal)) → (fed : Fed) →
        IsSaid (Ok (refused fed refusal))
    refusal_said refusal other unasked verdict fed = record {
      outcome = record {
        reads = subst (λ (a : Account). a.calls ≤ turns) (sym unread) (omega (arith, calls));
        unread = λ _. unread;
        once = inl (subst (λ (a : Account). GoesOn old.pieces a.pieces) (sym unread) (goes_from old.pieces));
        verdict = λ on. record { bytes = []; reads = λ is. absurd (unasked on is); verdict = verdict [] on };
        legal = tt;
        no_thread = λ e. other (cc);
        read = (
          λ e. absurd (cc),
          λ failed. let bad : 0 < old.failures = subst (λ (a : Account). 0 < a.failures) unread failed in
              absurd (omega (arith, failures, bad)),
        );
        turned = λ e. absurd (cc);
        sound = tt;
        unended = tt;
        no_write = λ e. absurd (cc);
      };
      runless = tt;
      whole = everywhere (IsOfAll (Refused refusal)) old.known (λ all. record {
        legal = tt;
        runless = nothing all refusal;
        verdict = λ on. verdict all on;
      });
      line = refl;
    }

    pub refused_said : (refusal : Refusal) → refusal ≢ Thread → (IsDecided (Refused refusal) → asked → ⊥)
        → ((bytes : List ℕ) → IsDecided (Refused refusal) → V bytes (Refused refusal)) → (fed : Fed)
        → (r : Result Conclusion RunFault) → Follows (Ok (refused fed refusal)) r → IsSaid r
    refused_said refusal other unasked verdict fed (Ok c) (inl same) = subst IsSaid (sym same)
        (refusal_said refusal other unasked verdict fed)
    refused_said refusal other unasked verdict fed (Ok c) (inr memory) = subst IsSaid (sym memory)
        (refusal_said Memory (λ e. absurd (cc)) (λ on. absurd on) (λ bytes on. absurd on) fed)
    refused_said refusal other unasked verdict fed (Err fault) (inl same) = absurd (cc)
    refused_said refusal other unasked verdict fed (Err fault) (inr memory) = absurd (cc)

-- ---- for a shape

-- There can be so many workers, and it is this shape.
pub record IsShapeWith (shape : Shape) (workers : ℕ) (found : Result Shape Refusal) : Type 0 where
  pub same : IfOk found (λ s. s ≡ shape)
  pub count : IfOk found (λ _. IsWorkerCount workers)
  pub refusal : IfErr found (λ r. (r ≡ Workers workers) × ¬ IsWorkerCount workers)

module _ (old new writer writer' : Account) (turns : ℕ) (calls : old.calls ≡ 0) (failures : old.failures ≡ 0)
    (answer : Result Conclusion RunFault) where
  pub program_on : (shape : Shape) (workers : ℕ) (found : Result Shape Refusal) → IsShapeWith shape workers found
      → IsRunOn old new writer writer' (verdict_needs true) IsLine not_read_line turns found answer
      → IsRunOfProgram old new writer writer' (IsWorkerCount workers) (IsLegal shape) (IsRunlessNo shape)
      (IsVerdictOf shape workers) turns (verdict_in answer)
  program_on shape workers (Ok s) is run =
      let on : IsRun old new writer writer' (verdict_needs true) shape (IsLine (Some shape)) not_read_line turns
      answer = subst (λ (s : Shape). IsRun old new writer writer' (verdict_needs true) s (IsLine (Some s)) not_read_line
      turns answer) is.same run in
      program old new (IsWorkerCount workers) (IsLegal shape) (IsRunlessNo shape) (IsVerdictOf shape workers) turns
      writer writer' (conclusion_in on.came_to)
      (judged_said old new (IsWorkerCount workers) (IsLegal shape) (IsRunlessNo shape) (IsVerdictOf shape workers) turns
      shape workers is.count is.count (λ bytes order h. h) (λ bytes v h. h) (λ bytes v h. h) (verdict_needs true) refl
      refl on.came_to on.judged) answer on.told
  program_on shape workers (Err r) is run =
      program old new (IsWorkerCount workers) (IsLegal shape) (IsRunlessNo shape) (IsVerdictOf shape workers) turns
      writer writer' (Ok (refused run.fed r))
      (refused_said old new (IsWorkerCount workers) (IsLegal shape) (IsRunlessNo shape) (IsVerdictOf shape workers)
      turns run.unread calls failures (λ bytes refusal. tt) r (λ e. let bad : Thread ≡ Workers workers =
      sym e ∙ is.refusal.0 in absurd (cc)) (λ on count. is.refusal.1 count)
      (λ bytes on. subst (λ (x : Refusal). IsVerdictOf shape workers bytes (Refused x)) (sym is.refusal.0)
      (refl, is.refusal.1)) run.fed) answer run.told

  -- ---- for a text

  pub program_for : (text : List ℕ) (workers : ℕ)
      → IsRunFor old new writer writer' text workers (verdict_needs true) IsLine not_read_line turns answer
      → IsRunOfProgram old new writer writer' (IsAsked text workers) (IsLegalFor text) (IsRunlessNoFor text)
      (IsVerdictFor text workers) turns (verdict_in answer)
  program_for text workers h = go h.found h.is_found h.run
    where
      go : (found : Result Shape Refusal) → IsShapeFor text workers found
          → IsRunOn old new writer writer' (verdict_needs true) IsLine not_read_line turns found answer
          → IsRunOfProgram old new writer writer' (IsAsked text workers) (IsLegalFor text) (IsRunlessNoFor text)
          (IsVerdictFor text workers) turns (verdict_in answer)
      go (Ok shape) is run =
          program old new (IsAsked text workers) (IsLegalFor text) (IsRunlessNoFor text) (IsVerdictFor text workers)
          turns writer writer' (conclusion_in run.came_to)
          (judged_said old new (IsAsked text workers) (IsLegalFor text) (IsRunlessNoFor text)
          (IsVerdictFor text workers) turns shape workers (is.0, (shape, is.1)) is.0
          (λ bytes order h. record { shape = shape; configured = is.1; legal = h })
          (λ bytes v h. runless_for text shape is.1 bytes v h)
          (λ bytes v h. verdict_for text shape workers bytes v is.1 h) (verdict_needs true) refl refl run.came_to
          run.judged) answer run.told
      go (Err r) is run =
          program old new (IsAsked text workers) (IsLegalFor text) (IsRunlessNoFor text) (IsVerdictFor text workers)
          turns writer writer' (Ok (refused run.fed r))
          (refused_said old new (IsAsked text workers) (IsLegalFor text) (IsRunlessNoFor text)
          (IsVerdictFor text workers) turns run.unread calls failures (λ bytes refusal shape e. tt) r
          (not_thread text workers r is) (refused_unasked text workers r is) (refused_verdict text workers r is)
          run.fed) answer run.told
