-- The statistics of a whole trace, from what its banks counted and what its ports were judged on.
use Rattle.std.proofs.Common.{◌≡◌, ℕ, zero, suc, ◌+◌, ◌<◌, List, [], ◌∷◌, ◌++◌, length, get_or, slice_index, Option}
use Rattle.std.proofs.Common.{Some, None, refl, sym, ap, ◌∙◌, subst, arith}
use Rattle.std.specs.Prelude.{IfSome}
use Rattle.std.proofs.lemmas.List.FromFn.{get_or-map-range_with_len, length-map-range_with_len}
use Rattle.lf_rules.specs.declared.shape.Shape.{Shape}
use Rattle.lf_rules.specs.declared.event.Record.{Record}
use Rattle.lf_rules.specs.Address.{FlatMemory}
use Rattle.lf_rules.specs.Fits.{Bytes}
use Rattle.lf_rules.specs.Numbers.{NumberedIsOne}
use Rattle.lf_rules.specs.Order.{log_at}
use Rattle.lf_rules.specs.Run.{of_log, IsPortRun}
use Rattle.lf_logs.specs.Tags.{PortStandsAfter}
use Rattle.lf_stats.specs.declared.bank_count.BankCount.{BankCount}
use Rattle.lf_stats.specs.declared.counts.BankStats.{BankStats}
use Rattle.lf_stats.specs.declared.counts.Stats.{Stats}
use Rattle.lf_stats.specs.Answer.{AreStats, IsBankStats}
use Rattle.lf_stats.specs.Statistics.{unanswered}
use Rattle.lf_stats.specs.Tally.{AcceptsIssued, AreComplete, CountsAreStatistics, IsCounted, SliceRunsAcceptIssued}
use Rattle.lf_verdict.specs.declared.session.standing.bank_judge.BankJudge.{BankJudge}
use Rattle.lf_verdict.specs.declared.session.standing.port_judge.PortJudge.{PortJudge}
use Rattle.lf_verdict.specs.declared.session.standing.Standing.{Standing}
use Rattle.lf_verdict.specs.Legal.{IsTraceFor}
use Rattle.lf_verdict.specs.Parts.{PartsRun}
use Rattle.lf_verdict.specs.Standing.{StandsAfterAll}
use Rattle.lf_verdict.specs.Statistics.{AreStatisticsOf}
use Rattle.lf_verdict.specs.inner.Coming.{logs_so_far, IsShort}
use Rattle.lf_verdict.specs.inner.Counting.{AreCountsOf}
use Rattle.lf_verdict.proofs.Incompletes.{port_stands}
use Rattle.lf_verdict.proofs.Opened.{each_more}
use Rattle.lf_verdict.proofs.Traces.{log_of_logs}

some_of : {X : Type 0} (xs : List X) (i : ℕ) → i < length xs → X
some_of [] i lt = absurd (omega arith)
some_of (x ∷ xs) i lt = x

same_item : {X : Type 0} (xs : List X) (i : ℕ) (a b : X) → i < length xs → get_or xs i a ≡ get_or xs i b
same_item [] i a b lt = absurd (omega arith)
same_item (x ∷ xs) zero a b lt = refl
same_item (x ∷ xs) (suc i) a b lt = same_item xs i a b (omega arith)

-- ---- the counts of one part more

pub counts_more : (banks : List BankJudge) (counts more : List BankStats) (n : ℕ) (judge : BankJudge)
    (count : BankCount) (stats : BankStats) → n < length banks → judge ≡ get_or banks n judge
    → judge.count ≡ Some count → stats ≡ count.stats
    → more ≡ counts ++ stats ∷ [] → AreCountsOf n banks counts → AreCountsOf (n + 1) banks more
counts_more banks counts more n judge count stats lt read is same pushed are =
    let each = each_more (λ (k : ℕ) (s : BankStats). (d : BankJudge) → (c : BankCount)
    × (((get_or banks k d).count ≡ Some c) × (s ≡ c.stats)))
    counts more n stats are.len pushed (λ k e below d. are.each k d e below)
    (λ d. (
      count,
      (
        ap (λ (j : BankJudge). j.count) (same_item banks n d judge lt ∙ sym read) ∙ is,
        same,
      ),
    )) in
    record { len = each.0; each = λ bank d e below. each.1 bank e below d }

pub unanswered_more : (ports : List PortJudge) (counts more : List ℕ) (n : ℕ) (judge : PortJudge) (waiting : ℕ)
    → n < length ports → judge ≡ get_or ports n judge
    → ((shape : Shape) (rs : List Record) → PortStandsAfter judge.step shape rs → waiting ≡ unanswered rs)
    → more ≡ counts ++ waiting ∷ [] → length counts ≡ n
    → ((port e : ℕ) (d : PortJudge) (shape : Shape) (log : List Record) → port < n
    → PortStandsAfter (get_or ports port d).step shape log → get_or counts port e ≡ unanswered log)
    → (length more ≡ n + 1) × ((port e : ℕ) → port < n + 1 → (d : PortJudge) (shape : Shape) (log : List Record)
    → PortStandsAfter (get_or ports port d).step shape log → get_or more port e ≡ unanswered log)
unanswered_more ports counts more n judge waiting lt read says pushed long each =
    each_more (λ (k w : ℕ). (d : PortJudge) (shape : Shape) (log : List Record) →
    PortStandsAfter (get_or ports k d).step shape log → w ≡ unanswered log)
    counts more n waiting long pushed (λ k e below d shape log stands. each k e d shape log below stands)
    (λ d shape log stands. says shape log
    (subst (λ (j : PortJudge). PortStandsAfter j.step shape log) (same_item ports n d judge lt ∙ sym read) stands))

-- ---- the statistics of a whole trace

module _ (numbered : NumberedIsOne) (issued : SliceRunsAcceptIssued) (law : CountsAreStatistics) (shape : Shape)
    (memory : FlatMemory) (records : List Record) (s : Standing) (stands : StandsAfterAll shape memory records s)
    (short : IsShort shape records) (parts : PartsRun shape memory (logs_so_far shape records)) where
  -- Records whose parts run are those of a whole trace that can be counted.
  complete : AreComplete shape records
  complete = record {
    in_range = short.in_range;
    fit = stands.fit;
    short = λ log d lt.
        let count = length-map-range_with_len (λ l. of_log l records) 0 (shape.ports + shape.banks) in
        let here = get_or-map-range_with_len (λ l. of_log l records) 0 (shape.ports + shape.banks) log log d
        (omega (arith, count, lt)) (omega arith) in
        omega (arith, ap length here, short.short log);
    whole = parts.numbers;
    accepts = λ bank rs lt is.
        let runs = parts.banks bank lt in
        subst (AcceptsIssued shape)
        (numbered (logs_so_far shape records) bank runs.records rs runs.numbered is)
        (issued shape memory runs.records runs.run);
  }

  bank_stats : (counts : List BankStats) → AreCountsOf (length s.banks.items) s.banks.items counts →
      (bank : ℕ) (e : BankStats) → bank < shape.banks
      → IsBankStats shape (logs_so_far shape records) bank (get_or counts bank e)
  bank_stats counts are bank e lt =
      let inside : bank < length s.banks.items = omega (arith, stands.count_banks, lt) in
      let d = some_of s.banks.items bank inside in
      let found = are.each bank d e inside in
      let settled = stands.banks bank d lt in
      let gave = log_at stands.given bank in
      let counted : IsCounted shape gave found.0 =
      subst (λ (c : Option BankCount). IfSome c (IsCounted shape gave)) found.1.0 settled.bank_judged.counted in
      subst (IsBankStats shape (logs_so_far shape records) bank) (sym found.1.1)
      (law shape records bank (get_or s.banks.items bank d).order gave found.0 complete lt
      settled.bank_judged.ordered settled.drained counted)

  port_stats : (counts : List ℕ) → ((port : ℕ) (d : PortJudge) (shape : Shape) (log : List Record) →
      port < length s.entries.ports.items → PortStandsAfter (get_or s.entries.ports.items port d).step shape log
      → slice_index counts port ≡ unanswered log)
      → (port : ℕ) → port < shape.ports
      → slice_index counts port ≡ unanswered (log_at (logs_so_far shape records) port)
  port_stats counts each port lt =
      let inside : port < length s.entries.ports.items = omega (arith, stands.entered.count_ports, lt) in
      let d = some_of s.entries.ports.items port inside in
      let judge = get_or s.entries.ports.items port d in
      let log = log_of_logs (shape.ports + shape.banks) port records (omega arith) in
      each port d shape (of_log port records) inside
      (port_stands shape memory (of_log port records) judge.step judge.outcome
      (subst (IsPortRun shape memory) log (parts.ports port lt)) (stands.entered.ports port d lt).judged)
      ∙ ap unanswered (sym log)

  pub are_stats : (stats : Stats) (banks : List BankJudge) (ports : List PortJudge) → banks ≡ s.banks.items →
      ports ≡ s.entries.ports.items
      → AreCountsOf (length banks) banks stats.banks.items → length stats.unanswered.items ≡ length ports
      → ((port : ℕ) (d : PortJudge) (shape : Shape) (log : List Record) → port < length ports
      → PortStandsAfter (get_or ports port d).step shape log
      → slice_index stats.unanswered.items port ≡ unanswered log)
      → AreStats shape (logs_so_far shape records) stats
  are_stats stats banks ports same_banks same_ports counts count each =
      let own = subst (λ (js : List BankJudge). AreCountsOf (length js) js stats.banks.items) same_banks counts in
      record {
        each_bank = own.len ∙ stands.count_banks;
        bank = bank_stats stats.banks.items own;
        each_port = count ∙ ap length same_ports ∙ stands.entered.count_ports;
        port = port_stats stats.unanswered.items (subst (λ (js : List PortJudge). (port : ℕ) (d : PortJudge)
            (shape : Shape) (log : List Record) → port < length js → PortStandsAfter (get_or js port d).step shape log
            → slice_index stats.unanswered.items port ≡ unanswered log) same_ports each);
      }

-- The statistics of the logs of a trace are those of its bytes.
pub stats_of_bytes : (shape : Shape) (bytes : List ℕ) (memory : List (ℕ × Bytes)) (logs : List (List Record))
    (stats : Option Stats) → IsTraceFor shape bytes memory logs → IfSome stats (AreStats shape logs)
    → IfSome stats (AreStatisticsOf shape bytes)
stats_of_bytes shape bytes memory logs (Some stats) trace are =
    record { memory = memory; logs = logs; trace = trace; counts = are }
stats_of_bytes shape bytes memory logs None trace are = tt
