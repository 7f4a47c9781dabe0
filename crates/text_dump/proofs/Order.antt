-- What a trace gives comes in the order of its text, and what is read later comes behind.
use Rattle.std.proofs.Common.{◌≡◌, ℕ, ◌-◌, Bool, true, false, List, [], ◌∷◌, ◌++◌, length, Some, None, refl, sym, ap}
use Rattle.std.proofs.Common.{◌∙◌, append-nil, inl, inr, ◌⊎◌}
use Rattle.std.specs.Prelude.{◌==◌}
use Rattle.std.proofs.lemmas.Bool.{cond_both, cases_lt}
use Rattle.lf_rules.specs.Fits.{Bytes}
use Rattle.lf_rules.specs.declared.event.Record.{Record}
use Rattle.lf_codec.specs.declared.header.Header.{Header}
use Rattle.lf_codec.specs.declared.stage.Head.{Head}
use Rattle.lf_codec.specs.declared.stage.Found.{Found}
use Rattle.lf_codec.specs.declared.stage.Found.TheVariants as found
use Rattle.lf_codec.specs.declared.stage.Stage.{Stage}
use Rattle.lf_codec.specs.declared.stage.Stage.TheVariants as stages
use Rattle.lf_codec.specs.declared.progress.Progress.{Progress}
use Rattle.lf_codec.specs.Checks.{judged, stage_checks, byte_at}
use Rattle.lf_codec.specs.Steps.{stage_len, advanced, between, at_next, within, past_record, past_head, past_fixed}
use Rattle.lf_codec.specs.Steps.{head_at, header_at, record_of, fixed_len, data_len}
use Rattle.lf_codec.specs.Reading.{Reading, reading_of, nothing_read, byte_read, read_on, past_step, failed}
use Rattle.lf_codec.specs.Reading.{memory_in, records_in, header_unless, header_now}
use Rattle.lf_codec.proofs.Bytes.{byte_waits, byte_steps, byte_fails, read_on-failed}
use Rattle.lf_codec.proofs.Backward.{judged_cases, fault_cases}

either : (b : Bool) → (b ≡ true) ⊎ (b ≡ false)
either true = inl refl
either false = inr refl

-- before the first event record
pub is_early : Stage → Bool
is_early stages.Header = true
is_early stages.MemoryBlock = true
is_early (stages.MemoryData block) = true
is_early _ = false

-- ---- one step

-- the stage after a step is not the first one, only a step before the events gives memory, and only one of them
-- gives a record
record StepShape (s : Stage) (p : Progress) (next : Progress × Found) : Type 0 where
  begun : (h : Header) × (header_unless next.0.stage next.0.header ≡ Some h)
  header : (header_unless s p.header ≡ None) ⊎ (header_unless next.0.stage next.0.header ≡ header_unless s p.header)
  late : is_early s ≡ false → (is_early next.0.stage ≡ false) × (memory_in next.1 ≡ [])
  early : is_early s ≡ true → records_in next.1 ≡ []

begun_between : (left : ℕ) (h : Header) → header_unless (between left) h ≡ Some h
begun_between left h = cond_both (left == 0) stages.Head stages.MemoryBlock
    (λ (s : Stage). header_unless s h ≡ Some h) (λ _. refl) (λ _. refl)

ended_shape : (q : Progress) → StepShape stages.Head (record q { stage = stages.Head })
    (at_next q 8 stages.Ended, found.Nothing)
unfolding is_early
ended_shape q = record {
  begun = (q.header, refl);
  header = inr refl;
  late = λ _. (refl, refl);
  early =
      λ bad. absurd cc;
}

head_shape : (q : Progress) (head : Head) → StepShape stages.Head (record q { stage = stages.Head })
    (past_head (record q { stage = stages.Head }) head)
unfolding is_early
head_shape q head =
    let p : Progress = record q { stage = stages.Head } in
    cond_both (fixed_len q.header head.kind == 0) (past_record p 8 (record_of q.header head [] []))
    (within p 8 (stages.Fixed head), found.Nothing)
    (λ (next : Progress × Found). StepShape stages.Head p next)
    (λ _. record { begun = (q.header, refl); header = inr refl; late = λ _. (refl, refl); early = λ bad. absurd cc })
    (λ _. record { begun = (q.header, refl); header = inr refl; late = λ _. (refl, refl); early = λ bad. absurd cc })

fixed_shape : (q : Progress) (head : Head) (bytes : List ℕ) →
    StepShape (stages.Fixed head) (record q { stage = stages.Fixed head })
    (past_fixed (record q { stage = stages.Fixed head }) head bytes)
unfolding is_early
fixed_shape q head bytes =
    let p : Progress = record q { stage = stages.Fixed head } in
    cond_both (data_len q.header head.kind bytes == 0) (past_record p (length bytes) (record_of q.header head bytes []))
    (within p (length bytes) (stages.Data head (record { items = bytes })), found.Nothing)
    (λ (next : Progress × Found). StepShape (stages.Fixed head) p next)
    (λ _. record { begun = (q.header, refl); header = inr refl; late = λ _. (refl, refl); early = λ bad. absurd cc })
    (λ _. record { begun = (q.header, refl); header = inr refl; late = λ _. (refl, refl); early = λ bad. absurd cc })

step_shape : (s : Stage) (q : Progress) (bytes : List ℕ) → StepShape s (record q { stage = s })
    (advanced s (record q { stage = s }) bytes)
unfolding advanced is_early
step_shape stages.Header q bytes =
    let h = header_at bytes in
    record {
      begun = (h, begun_between h.memory_count h);
      header = inl refl;
      late = λ bad. absurd cc;
      early =
          λ _. refl;
    }
step_shape stages.MemoryBlock q bytes = record {
  begun = (q.header, refl);
  header = inr refl;
  late =
      λ bad. absurd cc;
  early = λ _. refl;
}
step_shape (stages.MemoryData block) q bytes = record {
  begun = (q.header, begun_between (q.left - 1) q.header);
  header = inr (begun_between (q.left - 1) q.header);
  late = λ bad. absurd cc;
  early = λ _. refl;
}
step_shape stages.Head q bytes =
    let p : Progress = record q { stage = stages.Head } in
    cond_both (byte_at 0 bytes == 0) (at_next p 8 stages.Ended, found.Nothing) (past_head p (head_at bytes))
    (λ (next : Progress × Found). StepShape stages.Head p next) (λ _. ended_shape q) (λ _. head_shape q (head_at bytes))
step_shape (stages.Fixed head) q bytes = fixed_shape q head bytes
step_shape (stages.Data head fixed) q bytes = record {
  begun = (q.header, refl);
  header = inr refl;
  late =
      λ _. (refl, refl);
  early = λ bad. absurd cc;
}
step_shape stages.Ended q bytes = record {
  begun = (q.header, refl);
  header = inr refl;
  late =
      λ _. (refl, refl);
  early = λ bad. absurd cc;
}

-- ---- more bytes

-- before the header nothing was given, and before the events no record
pub record IsOrderly (r : Reading) : Type 0 where
  pub unread : header_now r ≡ None → (r.memory ≡ []) × (r.records ≡ [])
  pub early : is_early r.progress.stage ≡ true → r.records ≡ []

-- the header stays, and once the events begin the memory stays
pub record Follows (r q : Reading) : Type 0 where
  pub header : (header_now r ≡ None) ⊎ (header_now q ≡ header_now r)
  pub late : is_early r.progress.stage ≡ false → (is_early q.progress.stage ≡ false) × (q.memory ≡ r.memory)
  pub orderly : IsOrderly r → IsOrderly q

follows_same : (r q : Reading) → q.progress ≡ r.progress → q.memory ≡ r.memory → q.records ≡ r.records → Follows r q
follows_same r q progress memory records = record {
  header = inr (ap (λ (p : Progress). header_unless p.stage p.header) progress);
  late = λ e. (ap (λ (p : Progress). is_early p.stage) progress ∙ e, memory);
  orderly = λ o. record {
    unread = λ e.
        let before = o.unread (ap (λ (p : Progress). header_unless p.stage p.header) (sym progress) ∙ e) in
        (memory ∙ before.0, records ∙ before.1);
    early = λ e. records ∙ o.early (ap (λ (p : Progress). is_early p.stage) (sym progress) ∙ e);
  };
}

follows_step : (r : Reading) (bytes : List ℕ) → let next = advanced r.progress.stage r.progress bytes in
    Follows r (past_step r next.0 next.1)
follows_step r bytes =
    let next = advanced r.progress.stage r.progress bytes in
    let shape = step_shape r.progress.stage r.progress bytes in
    record {
      header = shape.header;
      late = λ e. (
        (shape.late e).0,
        ap (λ (m : List (ℕ × Bytes)). r.memory ++ m) (shape.late e).1
            ∙ append-nil r.memory,
      );
      orderly = λ o. record {
        unread = λ e. let both : Some shape.begun.0 ≡ None = sym shape.begun.1 ∙ e in absurd cc;
        early = λ e.
            elim (either (is_early r.progress.stage)) [
              | inl early ↦ ap (λ (m : List Record). m ++ records_in next.1) (o.early early) ∙ shape.early early
              | inr late ↦ absurd (let not = (shape.late late).0 in cc)
            ];
      };
    }

follows_byte : (r : Reading) (b : ℕ) → Follows r (byte_read r b)
follows_byte r b =
    let bytes = r.pending ++ b ∷ [] in
    elim (fault_cases r.fault) [
      | inr bad ↦
          let same : byte_read r b ≡ r = read_on-failed (b ∷ []) r bad.0 bad.1 in
          rw same (follows_same r r refl refl refl)
      | inl fine ↦
          elim (cases_lt (length bytes) (stage_len r.progress.header r.progress.stage)) [
            | inl short ↦ rw (byte_waits r b fine short) (follows_same r (record r { pending = bytes }) refl refl refl)
            | inr full ↦
                elim (judged_cases (judged (stage_checks r.progress.stage r.progress bytes))) [
                  | inl e ↦ rw (byte_steps r b fine full e) (follows_step r bytes)
                  | inr e ↦ rw (byte_fails r b e.0 fine full e.1) (follows_same r (failed r e.0) refl refl refl)
                ]
          ]
    ]

follows_on : (r q s : Reading) → Follows r q → Follows q s → Follows r s
follows_on r q s first then = record {
  header =
      elim first.header [
        | inl none ↦ inl none
        | inr kept ↦ elim then.header [ inl none ↦ inl (sym kept ∙ none) | inr again ↦ inr (again ∙ kept) ]
      ];
  late = λ e. ((then.late (first.late e).0).0, (then.late (first.late e).0).1 ∙ (first.late e).1);
  orderly = λ o. then.orderly (first.orderly o);
}

pub follows : (bytes : List ℕ) (r : Reading) → Follows r (read_on r bytes)
follows [] r = follows_same r r refl refl refl
follows (b ∷ bytes) r = follows_on r (byte_read r b) (read_on (byte_read r b) bytes) (follows_byte r b)
    (follows bytes (byte_read r b))

pub orderly : (bytes : List ℕ) → IsOrderly (reading_of bytes)
orderly bytes = (follows bytes nothing_read).orderly (record { unread = λ _. (refl, refl); early = λ _. refl })

-- Once there is a record, no more memory comes.
pub no_more_memory : (r q : Reading) → IsOrderly r → Follows r q → (r.records ≡ []) ⊎ (q.memory ≡ r.memory)
no_more_memory r q o f =
    elim (either (is_early r.progress.stage)) [
      | inl early ↦ inl (o.early early)
      | inr late ↦ inr (f.late late).1
    ]
