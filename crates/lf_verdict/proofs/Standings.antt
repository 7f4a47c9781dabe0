-- The parts of a trace, judged one record further.
use Rattle.std.proofs.Common.{◌≡◌, ℕ, ◌+◌, ◌<◌, ◌≤◌, List, [], ◌∷◌, ◌++◌, map, length, get_or, set, slice_index, refl}
use Rattle.std.proofs.Common.{sym, ap, ◌∙◌, subst, inl, inr, ⊎_elim, arith}
use Rattle.std.specs.Prelude.{IsSome}
use Rattle.std.specs.List.{AllByRecursion}
use Rattle.std.specs.Global.{Vec}
use Rattle.std.specs.Vec.{with_item}
use Rattle.std.proofs.lemmas.List.{length-map, length-set, map-set, map-append, get_or-map, get_or-set_same}
use Rattle.std.proofs.lemmas.List.{get_or-set_other}
use Rattle.std.proofs.lemmas.Bool.{cases_eq}
use Rattle.lf_rules.specs.declared.shape.Shape.{Shape}
use Rattle.lf_rules.specs.declared.event.Record.{Record}
use Rattle.lf_rules.specs.Address.{FlatMemory}
use Rattle.lf_rules.specs.Fits.{Fits}
use Rattle.lf_rules.specs.Order.{log_at}
use Rattle.lf_rules.specs.Ring.{entry_of, skeletons_of}
use Rattle.lf_rules.specs.Run.{of_log, of_bank}
use Rattle.lf_logs.specs.Lists.{logs_of}
use Rattle.lf_logs.proofs.Splitting.{of_key-push_own, of_key-push_other, parts_of-push, length-parts_of}
use Rattle.lf_logs.proofs.Splitting.{get_or-parts_of}
use Rattle.lf_join.specs.Join as joins
use Rattle.lf_join.specs.Progress.{Reached, HasReached, EntriesStay, with_entry}
use Rattle.lf_join.proofs.Reached.{left_len}
use Rattle.lf_replay.specs.Bytes.{bank_part}
use Rattle.lf_verdict.specs.declared.session.standing.port_judge.PortJudge.{PortJudge}
use Rattle.lf_verdict.specs.declared.session.standing.bank_judge.BankJudge.{BankJudge}
use Rattle.lf_verdict.specs.declared.session.standing.log_entries.Entries.{Entries}
use Rattle.lf_verdict.specs.declared.session.standing.Standing.{Standing}
use Rattle.lf_verdict.specs.Standing.{IsPortJudged, IsBankSettled, AreKept, AreEntered, StandsAfterAll}
use Rattle.lf_verdict.specs.inner.Coming.{MayCome, HasLog}
use Rattle.lf_verdict.proofs.Answered.{log_below}

-- ---- the entries of the logs

abbrev items : Vec (ℕ × ℕ) → List (ℕ × ℕ)
items entries = entries.items

-- the logs of one record more
pub skeletons_more : (count : ℕ) (rs : List Record) (r : Record) → r.log < count →
    with_entry (skeletons_of (logs_of count rs)) r.log (entry_of r) ≡ skeletons_of (logs_of count (rs ++ r ∷ []))
skeletons_more count rs r within =
    let log = of_log r.log rs in
    let logs = skeletons_of (logs_of count rs) in
    let here : log_at logs r.log ≡ map entry_of log =
    get_or-map (map entry_of) (logs_of count rs) r.log [] []
    (omega (arith, length-parts_of (λ r. r.log) count rs, within))
    ∙ ap (map entry_of) (get_or-parts_of (λ r. r.log) count rs r.log [] within) in
    ap (λ (es : List (ℕ × ℕ)). set logs r.log (es ++ entry_of r ∷ [])) here
    ∙ ap (set logs r.log) (sym (map-append entry_of log (r ∷ [])))
    ∙ sym (map-set (map entry_of) (logs_of count rs) r.log (log ++ r ∷ []))
    ∙ ap skeletons_of (parts_of-push (λ r. r.log) count rs r within)

pub skeletons_count : (count : ℕ) (rs : List Record) → length (skeletons_of (logs_of count rs)) ≡ count
skeletons_count count rs = length-map (logs_of count rs) (map entry_of) ∙ length-parts_of (λ r. r.log) count rs

pub skeleton_at : (count : ℕ) (rs : List Record) (log : ℕ) → log < count →
    length (log_at (skeletons_of (logs_of count rs)) log) ≡ length (of_log log rs)
skeleton_at count rs log within =
    ap length (get_or-map (map entry_of) (logs_of count rs) log [] []
    (omega (arith, length-parts_of (λ r. r.log) count rs, within))
    ∙ ap (map entry_of) (get_or-parts_of (λ r. r.log) count rs log [] within))
    ∙ length-map (of_log log rs) entry_of

-- one entry more of those that are kept
pub lists_more : (logs : List (Vec (ℕ × ℕ))) (log i : ℕ) (v w : Vec (ℕ × ℕ)) (entry : ℕ × ℕ) → i ≡ log →
    i < length logs → v ≡ get_or logs i v → w.items ≡ v.items ++ entry ∷ []
    → joins.skeleton_lists (set logs i w) ≡ with_entry (joins.skeleton_lists logs) log entry
lists_more logs log i v w entry at within read pushed =
    map-set items logs i w
    ∙ ap (set (joins.skeleton_lists logs) i)
    (pushed ∙ ap (λ (es : List (ℕ × ℕ)). es ++ entry ∷ [])
    (ap items read ∙ sym (get_or-map items logs i v [] within)))
    ∙ ap (λ n. with_entry (joins.skeleton_lists logs) n entry) at

module _ (skeletons : List (List (ℕ × ℕ))) (e : Entries) (kept : AreKept skeletons e) where
  pub logs_len : length e.logs.items ≡ length skeletons
  logs_len = sym (length-map e.logs.items items)
      ∙ left_len skeletons e.progress (joins.skeleton_lists e.logs.items) kept.left

  -- the entries of a log that are kept, with those that have gone
  pub log_len : (log i : ℕ) (v : Vec (ℕ × ℕ)) → i ≡ log → v ≡ get_or e.logs.items i v → log < length skeletons →
      slice_index e.progress.places log + length v.items ≡ length (log_at skeletons log)
  log_len log i v at read within =
      let here : log_at (joins.skeleton_lists e.logs.items) log ≡ v.items =
      ap (log_at (joins.skeleton_lists e.logs.items)) (sym at)
      ∙ get_or-map items e.logs.items i v [] (omega (arith, at, logs_len, within)) ∙ ap items (sym read) in
      omega (arith, kept.left.counted log, ap length here)

  -- where none is kept of a log, none is left
  pub none_left : (log i : ℕ) (v : Vec (ℕ × ℕ)) → i ≡ log → v ≡ get_or e.logs.items i v → log < length skeletons →
      v.items ≡ [] → log_at (joins.skeleton_lists e.logs.items) log ≡ []
  none_left log i v at read within none =
      ap (log_at (joins.skeleton_lists e.logs.items)) (sym at)
      ∙ get_or-map items e.logs.items i v [] (omega (arith, at, logs_len, within)) ∙ ap items (sym read) ∙ none

  pub kept_more : EntriesStay → (log i : ℕ) (v w : Vec (ℕ × ℕ)) (entry : ℕ × ℕ) (new : Entries) → i ≡ log →
      log < length skeletons → v ≡ get_or e.logs.items i v → w.items ≡ v.items ++ entry ∷ []
      → new.logs.items ≡ set e.logs.items i w → new.progress ≡ e.progress → new.keeps ≡ e.keeps
      → AreKept (with_entry skeletons log entry) new
  kept_more stay log i v w entry new at within read pushed logs progress keeps =
      let lists : joins.skeleton_lists new.logs.items ≡ with_entry (joins.skeleton_lists e.logs.items) log entry =
      ap joins.skeleton_lists logs
      ∙ lists_more e.logs.items log i v w entry at (omega (arith, at, logs_len, within)) read pushed in
      record {
        left = subst (λ (p : Reached). HasReached (with_entry skeletons log entry) p
            (joins.skeleton_lists new.logs.items)) (sym progress)
            (subst (HasReached (with_entry skeletons log entry) e.progress) (sym lists)
            (stay skeletons (joins.skeleton_lists e.logs.items) e.progress log entry within kept.left));
        all = λ is. lists ∙ ap (λ (ls : List (List (ℕ × ℕ))). with_entry ls log entry) (kept.all (sym keeps ∙ is));
      }

-- ---- the ports

pub ports_more : (shape : Shape) (rs : List Record) (r : Record) (judges : List PortJudge) (new : PortJudge) →
    length judges ≡ shape.ports
    → ((port : ℕ) (d : PortJudge) → port < shape.ports → IsPortJudged shape port (of_log port rs)
    (get_or judges port d))
    → r.log < shape.ports → IsPortJudged shape r.log (of_log r.log rs ++ r ∷ []) new
    → (port : ℕ) (d : PortJudge) → port < shape.ports → IsPortJudged shape port (of_log port (rs ++ r ∷ []))
    (get_or (set judges r.log new) port d)
ports_more shape rs r judges new count each within here port d lt = ⊎_elim
    (λ (own : port ≡ r.log).
    subst (λ p. IsPortJudged shape p (of_log p (rs ++ r ∷ [])) (get_or (set judges r.log new) p d)) (sym own)
    (subst (λ (j : PortJudge). IsPortJudged shape r.log (of_log r.log (rs ++ r ∷ [])) j)
    (sym (get_or-set_same judges r.log new d (omega arith)))
    (subst (λ (log : List Record). IsPortJudged shape r.log log new)
    (sym (of_key-push_own (λ r. r.log) r.log rs r refl)) here)))
    (λ (other : port ≡ r.log → ⊥).
    subst (λ (j : PortJudge). IsPortJudged shape port (of_log port (rs ++ r ∷ [])) j)
    (sym (get_or-set_other judges r.log port new d other))
    (subst (λ (log : List Record). IsPortJudged shape port log (get_or judges port d))
    (sym (of_key-push_other (λ r. r.log) port rs r (λ e. other (sym e)))) (each port d lt)))
    (cases_eq port r.log)

-- a bank's record leaves the ports as they are
pub ports_same : (shape : Shape) (rs : List Record) (r : Record) (judges : List PortJudge)
    → ((port : ℕ) (d : PortJudge) → port < shape.ports → IsPortJudged shape port (of_log port rs)
    (get_or judges port d))
    → shape.ports ≤ r.log
    → (port : ℕ) (d : PortJudge) → port < shape.ports → IsPortJudged shape port (of_log port (rs ++ r ∷ []))
    (get_or judges port d)
ports_same shape rs r judges each past port d lt =
    subst (λ (log : List Record). IsPortJudged shape port log (get_or judges port d))
    (sym (of_key-push_other (λ r. r.log) port rs r (λ e. omega arith))) (each port d lt)

-- ---- the banks

pub banks_more : (shape : Shape) (memory : FlatMemory) (rs : List Record) (r : Record) (judges : List BankJudge)
    (given : List (List Record)) (new : BankJudge) (more : List Record)
    → length judges ≡ shape.banks → length given ≡ shape.banks
    → ((bank : ℕ) (d : BankJudge) → bank < shape.banks → IsBankSettled shape (bank_part shape bank memory) bank
    (of_bank bank rs) (log_at given bank) (get_or judges bank d))
    → r.bank < shape.banks → IsBankSettled shape (bank_part shape r.bank memory) r.bank (of_bank r.bank rs ++ r ∷ [])
    more new
    → (bank : ℕ) (d : BankJudge) → bank < shape.banks
    → IsBankSettled shape (bank_part shape bank memory) bank (of_bank bank (rs ++ r ∷ []))
    (log_at (set given r.bank more) bank) (get_or (set judges r.bank new) bank d)
banks_more shape memory rs r judges given new more count count_given each within here bank d lt = ⊎_elim
    (λ (own : bank ≡ r.bank).
    subst (λ b. IsBankSettled shape (bank_part shape b memory) b (of_bank b (rs ++ r ∷ []))
    (log_at (set given r.bank more) b) (get_or (set judges r.bank new) b d)) (sym own)
    (subst (λ (j : BankJudge). IsBankSettled shape (bank_part shape r.bank memory) r.bank
    (of_bank r.bank (rs ++ r ∷ [])) (log_at (set given r.bank more) r.bank) j)
    (sym (get_or-set_same judges r.bank new d (omega arith)))
    (subst (λ (g : List Record). IsBankSettled shape (bank_part shape r.bank memory) r.bank
    (of_bank r.bank (rs ++ r ∷ [])) g new) (sym (get_or-set_same given r.bank more [] (omega arith)))
    (subst (λ (came : List Record). IsBankSettled shape (bank_part shape r.bank memory) r.bank came more new)
    (sym (of_key-push_own (λ r. r.bank) r.bank rs r refl)) here))))
    (λ (other : bank ≡ r.bank → ⊥).
    subst (λ (j : BankJudge). IsBankSettled shape (bank_part shape bank memory) bank (of_bank bank (rs ++ r ∷ []))
    (log_at (set given r.bank more) bank) j)
    (sym (get_or-set_other judges r.bank bank new d other))
    (subst (λ (g : List Record). IsBankSettled shape (bank_part shape bank memory) bank (of_bank bank (rs ++ r ∷ []))
    g (get_or judges bank d)) (sym (get_or-set_other given r.bank bank more [] other))
    (subst (λ (came : List Record). IsBankSettled shape (bank_part shape bank memory) bank came (log_at given bank)
    (get_or judges bank d))
    (sym (of_key-push_other (λ r. r.bank) bank rs r (λ e. other (sym e)))) (each bank d lt))))
    (cases_eq bank r.bank)

-- where each of some judges counts, one of them counts further
pub counts_set : (judges : List BankJudge) (i : ℕ) (old new : BankJudge) → old ≡ get_or judges i old
    → (IsSome old.count → IsSome new.count)
    → ((bank : ℕ) (d : BankJudge) → bank < length judges → IsSome (get_or judges bank d).count)
    → (bank : ℕ) (d : BankJudge) → bank < length (set judges i new) → IsSome (get_or (set judges i new) bank d).count
counts_set judges i old new read counts each bank d lt =
    let inside : bank < length judges = omega (arith, length-set judges i new, lt) in
    elim (cases_eq bank i) [
      | inl own ↦
          let was : IsSome old.count = subst (λ (j : BankJudge). IsSome j.count) (sym read)
          (subst (λ (n : ℕ). IsSome (get_or judges n old).count) own (each bank old inside)) in
          subst (λ (n : ℕ). IsSome (get_or (set judges i new) n d).count) (sym own)
          (subst (λ (j : BankJudge). IsSome j.count) (sym (get_or-set_same judges i new d (omega (arith, own, inside))))
          (counts was))
      | inr other ↦
          subst (λ (j : BankJudge). IsSome j.count) (sym (get_or-set_other judges i bank new d other))
          (each bank d inside)
    ]

-- ---- one record more

-- an entry of the same log, bank and number
pub same_entry : (skeletons : List (List (ℕ × ℕ))) (e : Entries) {log log' bank bank' number number' : ℕ} →
    log ≡ log' → bank ≡ bank' → number ≡ number' → AreKept (with_entry skeletons log (bank, number)) e
    → AreKept (with_entry skeletons log' (bank', number')) e
same_entry skeletons e {log} {log'} {bank} {bank'} {number} {number'} logs banks numbers kept =
    subst (λ n. AreKept (with_entry skeletons n (bank', number')) e) logs
    (subst (λ n. AreKept (with_entry skeletons log (n, number')) e) banks
    (subst (λ n. AreKept (with_entry skeletons log (bank, n)) e) numbers kept))

all_push : (P : Record → Type 0) (rs : List Record) (r : Record) → AllByRecursion P rs → P r →
    AllByRecursion P (rs ++ r ∷ [])
all_push P [] r all p = (p, tt)
all_push P (x ∷ rs) r all p = (all.0, all_push P rs r all.1 p)

module _ (shape : Shape) (records : List Record) (e : Entries) (entered : AreEntered shape records e) (r : Record)
    (may : MayCome shape records r) where
  pub log_below_all : r.log < shape.ports + shape.banks
  log_below_all = log_below shape.ports r.bank r.number r.log shape.banks r.event may.fits.bank may.fits.log

  pub log_inside : r.log < length (skeletons_of (logs_of (shape.ports + shape.banks) records))
  log_inside = omega (arith, skeletons_count (shape.ports + shape.banks) records, log_below_all)

  -- the record's log, among the entries
  pub has_log : HasLog r.log e
  has_log = record {
    skeletons = skeletons_of (logs_of (shape.ports + shape.banks) records);
    kept = entered.kept;
    few = omega (arith, skeletons_count (shape.ports + shape.banks) records, entered.few);
    inside = log_inside;
    short = omega (arith, skeleton_at (shape.ports + shape.banks) records r.log log_below_all, may.room);
  }

  pub entered_more : (new : Entries) →
      AreKept (with_entry (skeletons_of (logs_of (shape.ports + shape.banks) records)) r.log (entry_of r)) new →
      AreKept (skeletons_of (logs_of (shape.ports + shape.banks) (records ++ r ∷ []))) new
  entered_more new kept = subst (λ (ls : List (List (ℕ × ℕ))). AreKept ls new)
      (skeletons_more (shape.ports + shape.banks) records r log_below_all) kept

  pub port_before : (i : ℕ) (v : PortJudge) → i ≡ r.log → v ≡ get_or e.ports.items i v → i < shape.ports →
      IsPortJudged shape r.log (of_log r.log records) v
  port_before i v at read lt =
      subst (λ (j : PortJudge). IsPortJudged shape r.log (of_log r.log records) j)
      (sym (read ∙ ap (λ n. get_or e.ports.items n v) at)) (entered.ports r.log v (omega arith))

module _ (shape : Shape) (memory : FlatMemory) (records : List Record) (s : Standing)
    (stands : StandsAfterAll shape memory records s) (r : Record) (may : MayCome shape records r) where
  pub bank_before : (i : ℕ) (v : BankJudge) → i ≡ r.bank → v ≡ get_or s.banks.items i v → r.bank < shape.banks
      → IsBankSettled shape (bank_part shape r.bank memory) r.bank (of_bank r.bank records)
      (log_at stands.given r.bank) v
  bank_before i v at read lt =
      subst (λ (j : BankJudge). IsBankSettled shape (bank_part shape r.bank memory) r.bank (of_bank r.bank records)
      (log_at stands.given r.bank) j)
      (sym (read ∙ ap (λ n. get_or s.banks.items n v) at)) (stands.banks r.bank v lt)

  -- its entry is kept, and it names no bank
  pub stands_beside : (after : Standing) → AreEntered shape (records ++ r ∷ []) after.entries →
      shape.banks ≤ r.bank → after.banks ≡ s.banks → StandsAfterAll shape memory (records ++ r ∷ []) after
  stands_beside after entered past same = record {
    fit = all_push (Fits shape) records r stands.fit may.fits;
    entered = entered;
    count_banks = ap (λ (js : Vec BankJudge). length js.items) same ∙ stands.count_banks;
    given = stands.given;
    count_given = stands.count_given;
    banks = λ bank d lt.
        subst (λ (js : Vec BankJudge). IsBankSettled shape (bank_part shape bank memory) bank
        (of_bank bank (records ++ r ∷ [])) (log_at stands.given bank) (get_or js.items bank d)) (sym same)
        (subst (λ (rs : List Record). IsBankSettled shape (bank_part shape bank memory) bank rs
        (log_at stands.given bank) (get_or s.banks.items bank d))
        (sym (of_key-push_other (λ r. r.bank) bank records r (λ e. omega (arith, past, lt, e))))
        (stands.banks bank d lt));
  }

  -- its entry is kept, and its bank has judged it
  pub stands_more : (entries : Entries) (after : Standing) (i : ℕ) (new : BankJudge) →
      AreEntered shape (records ++ r ∷ []) entries → r.bank < shape.banks
      → after ≡ record { entries = entries; banks = with_item s.banks i new; watch = s.watch } → i ≡ r.bank
      → (more : List Record) × IsBankSettled shape (bank_part shape r.bank memory) r.bank
      (of_bank r.bank records ++ r ∷ []) more new
      → StandsAfterAll shape memory (records ++ r ∷ []) after
  stands_more entries after i new entered within same at settled =
      let banks : after.banks.items ≡ set s.banks.items r.bank new =
      ap (λ (t : Standing). t.banks.items) same ∙ ap (λ n. set s.banks.items n new) at in
      record {
        fit = all_push (Fits shape) records r stands.fit may.fits;
        entered = subst (AreEntered shape (records ++ r ∷ [])) (sym (ap (λ (t : Standing). t.entries) same)) entered;
        count_banks = ap length banks ∙ length-set s.banks.items r.bank new ∙ stands.count_banks;
        given = set stands.given r.bank settled.0;
        count_given = length-set stands.given r.bank settled.0 ∙ stands.count_given;
        banks = λ bank d lt.
            subst (λ (js : List BankJudge). IsBankSettled shape (bank_part shape bank memory) bank
            (of_bank bank (records ++ r ∷ []))
            (log_at (set stands.given r.bank settled.0) bank) (get_or js bank d)) (sym banks)
            (banks_more shape memory records r s.banks.items stands.given new settled.0 stands.count_banks
            stands.count_given stands.banks within settled.1 bank d lt);
      }
