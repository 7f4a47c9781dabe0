-- What a run comes to by what it read.
use Rattle.std.proofs.Common.{◌≡◌, ℕ, ◌<◌, ◌≤◌, List, true, None, Ok, refl, sym, ◌∙◌, subst, inl, inr}
use Rattle.std.specs.Prelude.{IsSome}
use Rattle.lf_verdict.specs.declared.fed.Fed.{Fed}
use Rattle.lf_rules.specs.declared.shape.Shape.{Shape}
use Rattle.lf_stats.specs.declared.counts.Stats.{Stats}
use Rattle.lf_codec.specs.Laws.{AreBytes, ReadingIsExact, FaultsSoFarAreNotTruncated, FaultsStand}
use Rattle.lf_verdict.specs.declared.session.asked.Asked.{Asked}
use Rattle.lf_verdict.specs.declared.session.conclusion.Conclusion.{Conclusion}
use Rattle.lf_verdict.specs.Conclusion.{IsConclusion, without_memory}
use Rattle.run_stream.specs.Account.{Account}
use Rattle.run_stream.specs.Gathered.{IsAllRead, GoesOnToLast}
use Rattle.run_engine.specs.declared.ask.Needs.{Needs}
use Rattle.run_engine.specs.declared.judging.Judged.{Judged}
use Rattle.run_engine.specs.Gathered.{HasEnough}
use Rattle.run_engine.specs.Run.{piece_len, IsOfRead, IsJudged}
use Rattle.run_engine.proofs.GatheringLemmas.{fault_of}
use Rattle.run_engine.proofs.Whole.{whole, nothing_whole}

module _ (old new : Account) (needs : Needs) (shape : Shape) where
  pub of_memory : (fed : Fed) → IsOfRead old new needs shape (without_memory fed)
  of_memory fed = record {
    is = record {
      outcome = λ decided. absurd decided;
      legal = tt;
      runless = tt;
      thread = λ e. absurd (cc);
      order = tt;
      ordered = λ _ yes. absurd yes;
      broken = tt;
      earliest = tt;
      none = λ decided _. absurd decided;
      none_so_far = λ decided _. absurd decided;
      incomplete = refl;
      statistics = tt;
      after_yes = λ (some : IsSome {T = Stats} None). absurd (cc);
      counted = λ _ yes. absurd yes;
    };
    reads = λ decided. absurd decided;
    whole = λ _. nothing_whole shape fed.bytes old.known;
  }

  module _ (turns : ℕ) (few : new.calls ≤ turns) where
    -- All was read.
    pub concluded : ReadingIsExact → FaultsSoFarAreNotTruncated → FaultsStand → (j : Judged) (most : ℕ)
        → most ≡ piece_len → GoesOnToLast old.pieces new.pieces → ¬ (0 < new.failures)
        → AreBytes j.conclusion.fed.bytes → IsAllRead (HasEnough needs shape) most old new j.conclusion.fed.bytes
        → IsConclusion needs.asked shape j.conclusion
        → (needs.bytes ≡ true → j.bytes.items ≡ j.conclusion.fed.bytes) → IsJudged old new needs shape turns (Ok j)
    concluded exact so_far stand j most len on fine are all is kept = record {
      reads = few;
      once = inr on;
      concluded = record {
        is = is;
        reads = λ _. record {
          are_bytes = are;
          all = subst (λ (m : ℕ). IsAllRead (HasEnough needs shape) m old new j.conclusion.fed.bytes) len all;
        };
        whole = λ late. whole exact so_far stand shape old.known new.known j.conclusion.fed.bytes j.conclusion.outcome
            are all.given (λ sound. all.at_end (λ enough. sound (fault_of needs shape _ late enough))) is.outcome;
      };
      kept = λ need _. kept need;
      read = (λ e. absurd (cc), λ failed. absurd (fine failed));
      turned = λ e. absurd (cc);
      sound = tt;
      unended = tt;
      no_write = λ e. absurd (cc);
    }

    -- ... and a session was fed it.
    pub concluded_by : ReadingIsExact → FaultsSoFarAreNotTruncated → FaultsStand → (j : Judged) (most : ℕ) →
        most ≡ piece_len → (own now : Shape) (asked : Asked) (fed : List ℕ) → own ≡ shape → now ≡ own →
        asked ≡ needs.asked → j.conclusion.fed.bytes ≡ fed
        → GoesOnToLast old.pieces new.pieces → ¬ (0 < new.failures) → AreBytes fed
        → IsAllRead (HasEnough needs own) most old new fed → IsConclusion asked now j.conclusion
        → (needs.bytes ≡ true → j.bytes.items ≡ fed) → IsJudged old new needs shape turns (Ok j)
    concluded_by exact so_far stand j most len own now asked fed same still for_it is_fed on fine are all is kept =
        concluded exact so_far stand j most len on fine (subst AreBytes (sym is_fed) are)
        (subst (λ (b : List ℕ). IsAllRead (HasEnough needs shape) most old new b) (sym is_fed)
        (subst (λ (s : Shape). IsAllRead (HasEnough needs s) most old new fed) same all))
        (subst (λ (a : Asked). IsConclusion a shape j.conclusion) for_it
        (subst (λ (s : Shape). IsConclusion asked s j.conclusion) (still ∙ same) is))
        (λ need. kept need ∙ sym is_fed)
