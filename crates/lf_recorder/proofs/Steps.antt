-- Each step keeps the rule.
use Rattle.std.proofs.Common.{◌≡◌, ◌≢◌, ℕ, zero, suc, ◌+◌, ◌*◌, ◌%◌, ◌^◌, ◌<◌, ◌≤◌, not, List, [], ◌∷◌, ◌++◌, length}
use Rattle.std.proofs.Common.{set, Some, refl}
use Rattle.std.proofs.Common.{sym, ap, ◌∙◌, subst, ⊎_elim, arith, length-append, length-set, get_or-set_same}
use Rattle.std.proofs.Common.{get_or-set_other}
use Rattle.std.specs.Prelude.{◌==◌, slice_get, slice_index}
use mathlib.Core.Logic.{dite}
use mathlib.Core.Option.{some, none, some-injective, some-ne-none}
use native.Mathlib.Decide.{ℕ_discrete}
use lib.ListN.{get_elem?}
use Rattle.atomic_table.specs.Table.{step, keeps, stepped, opening, Allows, Splits, Joins}
use Rattle.atomic_table.proofs.Lists.{at_set, at_longer, set_here, set_else}
use Rattle.std.proofs.lemmas.List.Filters.{length-filter_both}
use Rattle.lf_rules.specs.declared.event.Record.{Record}
use Rattle.lf_rules.specs.declared.event.Event.{Event}
use Rattle.lf_recorder.specs.declared.rule.View.{View}
use Rattle.lf_recorder.specs.declared.rule.View.TheVariants.{Collector, Log, Spent}
use Rattle.lf_rules.specs.Address.{no_bank}
use Rattle.lf_rules.specs.Run.{of_log, of_bank}
use Rattle.lf_recorder.specs.Rule.{DeskState, FitsSeat, IsListOf, HasRecords, IsAbove, Draws, fence_of, Passes}
use Rattle.lf_recorder.specs.Rule.{new_collector}
use Rattle.lf_recorder.proofs.Places.{slice_get_snoc, at_snoc_place, at_within}
use Rattle.lf_recorder.proofs.Growth.{of_log_own, of_log_other, of_bank_own, of_bank_other, size_bound, log_below}
use Rattle.lf_recorder.proofs.Growth.{keeps_more}

-- two variants are apart
spent_apart : (log : ℕ) (records : List Record) → Spent ≡ Log log records → ⊥
spent_apart log records e = cc

-- a log's seat takes one more record
module _ (banks seat log : ℕ) (records : List Record) (new : Record) (own : new.log ≡ log) (s : DeskState)
    (all : List Record) (was : IsListOf banks s all)
    (at : get_elem? s.views seat ≡ some (Log log records)) (room : length records < 2 ^ 24) where
  abbrev after : View
  after = Log log (records ++ new ∷ [])

  mine : (seat ≡ log + 1) × (of_log log all ≡ records)
  mine = was.seats seat (Log log records) at

  there : get_elem? s.views (log + 1) ≡ some (Log log records)
  there = subst (λ k. get_elem? s.views k ≡ some (Log log records)) mine.0 at

  -- another seat's view still fits
  other_fits : (j : ℕ) (u : View) → j ≢ seat → FitsSeat all s.views j u →
      FitsSeat (all ++ new ∷ []) (set s.views seat after) j u
  other_fits j (Collector made joined) apart fits = (
    fits.0,
    length-set s.views seat after ∙ fits.1,
    λ k y e. let x = fits.2 k y e in
        let l : ℕ = y.0 in
        let differ : log ≢ l = λ same. spent_apart log records
        (some-injective _ _ (sym x.1 ∙ subst (λ k. get_elem? s.views (k + 1) ≡ some (Log log records)) same
        there)) in
        let place = mine.0 in (
          of_log_other all new l (λ e. differ (sym own ∙ e))
              ∙ x.0,
          set_else s.views seat (l + 1) after (λ e. differ (omega arith)) ∙ x.1,
        ),
  )
  other_fits j (Log m rs) apart fits = let place = mine.0 in let other = fits.0 in
      (fits.0, of_log_other all new m (λ e. apart (omega (arith, own))) ∙ fits.1)
  other_fits j Spent apart fits = tt

  seats_after : (j : ℕ) (u : View) → get_elem? (set s.views seat after) j ≡ some u →
      FitsSeat (all ++ new ∷ []) (set s.views seat after) j u
  seats_after j u e = ⊎_elim
      (λ (x : (j ≡ seat) × (after ≡ u)). subst (λ v. FitsSeat (all ++ new ∷ []) (set s.views seat after) j v) x.1
      (x.0 ∙ mine.0, of_log_own all new log own ∙ ap (λ l. l ++ new ∷ []) mine.1))
      (λ (x : (j ≢ seat) × (get_elem? s.views j ≡ some u)). other_fits j u x.0 (was.seats j u x.1))
      (at_set s.views seat j after u e)

  short_after : (l : ℕ) → length (of_log l (all ++ new ∷ [])) ≤ 2 ^ 24
  short_after l = dite (ℕ_discrete log l)
      (λ e. rw (of_log_own all new l (own ∙ e))
      (let n : length (of_log l all) ≡ length records = ap (λ k. length (of_log k all)) (sym e) ∙ ap length mine.1 in
      omega (arith, length-append (of_log l all) (new ∷ []))))
      (λ ne. rw (of_log_other all new l (λ e. ne (sym own ∙ e))) (was.short l))

  unmade_after : (l : ℕ) → length (set s.views seat after) ≤ l + 1 → of_log l (all ++ new ∷ []) ≡ []
  unmade_after l h = let within = at_within s.views seat (Log log records) at in let place = mine.0 in let same =
      length-set s.views seat after in
      of_log_other all new l (λ e. absurd (omega (arith, own))) ∙ was.unmade l (omega arith)

  -- a bank has no more records than all logs have room for
  pub has_room : (bank : ℕ) → length (of_bank bank all) < 2 ^ 29
  has_room bank =
      let total : length (all ++ new ∷ []) ≤ 32 * 2 ^ 24 = size_bound 32 (2 ^ 24) (all ++ new ∷ []) short_after
      (λ l h. ap length (unmade_after l (let few = was.few in let same = length-set s.views seat after in
      omega arith))) in
      let split = length-filter_both (λ (r : Record). r.bank == bank) (λ (r : Record). not (r.bank == bank))
      (λ _. refl) all in
      omega (arith, length-append all (new ∷ []))

  -- the list has the record, where the words count it
  pub grows : (words : List ℕ) → length words ≡ banks → ((b : ℕ) → b < no_bank →
      length (of_bank b (all ++ new ∷ [])) ≡ slice_index words b)
      → (new.bank < no_bank → new.number ≡ length (of_bank new.bank all)) →
      IsListOf banks (record { words = words; homes = s.homes; views = set s.views seat after }) (all ++ new ∷ [])
  grows words wide counts next = record {
    words = wide;
    counts = counts;
    numbers = keeps_more all new was.numbers next;
    short = short_after;
    few = let few = was.few in let same = length-set s.views seat after in omega arith;
    unmade = unmade_after;
    seats = seats_after;
  }

module _ (banks seat log : ℕ) (records : List Record) (bank : ℕ) (event : Event) (s : DeskState) (all : List Record)
    (was : IsListOf banks s all)
    (at : get_elem? s.views seat ≡ some (Log log records)) (room : length records < 2 ^ 24)
    (is_bank : bank < no_bank) where
  abbrev number : ℕ
  number = slice_index s.words bank

  abbrev new : Record
  new = record { log = log; bank = bank; number = number; event = event }

  fits_word : number < 2 ^ 29
  fits_word = let count = was.counts bank is_bank in omega (
    arith,
    has_room banks seat log records new refl s all was
        at room bank,
  )

  counts_after : bank < banks → (b : ℕ) → b < no_bank → length (of_bank b (all ++ new ∷ []))
      ≡ slice_index (set s.words bank ((number + 1) % 2 ^ 64)) b
  counts_after there b lt = dite (ℕ_discrete bank b)
      (λ e.
      let next : ℕ = (number + 1) % 2 ^ 64 in
      let small : next ≡ number + 1 = let few = fits_word in omega arith in
      let put : slice_index (set s.words bank next) bank ≡ next =
      get_or-set_same s.words bank next 0 (let wide = was.words in omega arith) in
      let put' : slice_index (set s.words bank next) b ≡ number + 1 =
      subst (λ k. slice_index (set s.words bank next) k ≡ next) e put ∙ small in
      let count : length (of_bank b all) ≡ number = ap (λ k. length (of_bank k all)) (sym e)
      ∙ was.counts bank is_bank in
      rw (of_bank_own all new b e) (omega (arith, length-append (of_bank b all) (new ∷ []))))
      (λ ne. rw (of_bank_other all new b ne) (was.counts b lt
      ∙ sym (get_or-set_other s.words bank b _ 0 (λ e. ne (sym e)))))

  drawn : bank < banks → IsListOf banks (stepped s bank ((number + 1) % 2 ^ 64) seat []
      (Log log (records ++ new ∷ [])) keeps) (all ++ new ∷ [])
  drawn there =
      grows banks seat log records new refl s all was at room (set s.words bank ((number + 1) % 2 ^ 64))
      (length-set s.words bank _ ∙ was.words) (counts_after there)
      (λ lt. sym (was.counts bank is_bank))

  above : IsAbove number bank records
  above =
      subst (λ (l : List Record). IsAbove number bank l) (was.seats seat (Log log records) at).1
      (subst (λ n. IsAbove n bank (of_log log all)) (was.counts bank is_bank)
      (log_below all log bank is_bank was.numbers))

-- a draw keeps the rule
pub draws : (banks slots seat log : ℕ) (records : List Record) (bank : ℕ) (event : Event) → bank < banks →
    bank < no_bank → length records < 2 ^ 24
    → Allows (HasRecords banks) slots seat (Log log records, []) bank (λ n. (n + 1) % 2 ^ 64)
    (Draws event (step slots bank 1 0 none) (Log log records, []))
draws banks slots seat log records bank event there is_bank room s kept homes at small =
    let all = kept.0 in let was = kept.1 in
    let new : Record = record { log = log; bank = bank; number = slice_index s.words bank; event = event } in (
      Log log (records ++ new ∷ []),
      keeps,
      tt,
      (all ++ new ∷ [], drawn banks seat log records bank event s all was at room is_bank there),
      (
        fits_word banks seat log records bank event s all was at room is_bank,
        above banks seat log records bank event
            s all was at room is_bank,
        refl,
      ),
    )

-- a fence keeps the rule: the word of bank 0 is what it was
pub passes : (banks slots seat log : ℕ) (records : List Record) → 0 < banks → length records < 2 ^ 24
    → Allows (HasRecords banks) slots seat (Log log records, []) 0 (λ n. (n + 0) % 2 ^ 64)
    (Passes (step slots 0 0 0 none) (Log log records, []))
passes banks slots seat log records there room s kept homes at small =
    let all = kept.0 in let was = kept.1 in
    let new = fence_of log in
    let found = slice_index s.words 0 in
    let same : (found + 0) % 2 ^ 64 ≡ found = omega arith in
    let words = set s.words 0 ((found + 0) % 2 ^ 64) in
    let stay : (b : ℕ) → slice_index words b ≡ slice_index s.words b = λ b. dite (ℕ_discrete 0 b)
    (λ e. subst (λ k. slice_index words k ≡ slice_index s.words k) e
    (get_or-set_same s.words 0 _ 0 (let wide = was.words in omega arith) ∙ same))
    (λ ne. get_or-set_other s.words 0 b _ 0 (λ e. ne (sym e))) in (
      Log log (records ++ new ∷ []),
      keeps,
      tt,
      (
        all ++ new ∷ [],
        grows banks seat log records new refl s all was at room words (length-set s.words 0 _ ∙ was.words)
            (λ b lt. rw (of_bank_other all new b (λ e. absurd (omega (arith, e, lt)))) (was.counts b lt ∙ sym (stay b)))
            (λ lt. absurd (omega (arith, lt))),
      ),
      refl,
    )

-- the desk gives the next log a seat
module _ (banks seat made : ℕ) (joined : List (ℕ × List Record)) (room : made < 32) (s : DeskState)
    (all : List Record) (was : IsListOf banks s all)
    (at : get_elem? s.views seat ≡ some (Collector made joined)) where
  abbrev kept_front : List View
  kept_front = set s.views seat (Collector (made + 1) joined)

  abbrev with_next : List View
  with_next = kept_front ++ Log made [] ∷ []

  collector_fits : FitsSeat all s.views seat (Collector made joined)
  collector_fits = was.seats seat (Collector made joined) at

  longer : length with_next ≡ made + 2
  longer = let a = length-append kept_front (Log made [] ∷ []) in let b =
      length-set s.views seat (Collector (made + 1) joined) in let c = collector_fits.1 in omega arith

  old_fits : (j : ℕ) (u : View) → j ≢ seat → FitsSeat all s.views j u → FitsSeat all with_next j u
  old_fits j (Collector m js) apart fits = absurd (apart (fits.0 ∙ sym collector_fits.0))
  old_fits j (Log m rs) apart fits = fits
  old_fits j Spent apart fits = tt

  seats_opened : (j : ℕ) (u : View) → get_elem? with_next j ≡ some u → FitsSeat all with_next j u
  seats_opened j u e = ⊎_elim
      (λ (old : get_elem? kept_front j ≡ some u). ⊎_elim
      (λ (x : (j ≡ seat) × (Collector (made + 1) joined ≡ u)). subst (λ v. FitsSeat all with_next j v) x.1 (
        x.0 ∙ collector_fits.0,
        (let l = longer in omega arith),
        λ k y e. let f = collector_fits.2 k y e in let zero_is = collector_fits.0 in (
          f.0,
          at_longer kept_front (Log made [] ∷ []) (y.0 + 1) Spent
              (set_else s.views seat (y.0 + 1) (Collector (made + 1) joined) (λ q. absurd (omega arith)) ∙ f.1),
        ),
      ))
      (λ (x : (j ≢ seat) × (get_elem? s.views j ≡ some u)). old_fits j u x.0 (was.seats j u x.1))
      (at_set s.views seat j (Collector (made + 1) joined) u old))
      (λ (x : (j ≡ length kept_front) × (Log made [] ≡ u)).
      let count = collector_fits.1 in let same = length-set s.views seat (Collector (made + 1) joined) in
      subst (λ v. FitsSeat all with_next j v) x.1 (let j_is = x.0 in omega arith, was.unmade made (omega arith)))
      (at_snoc_place kept_front (Log made []) u j e)

  opened : IsListOf banks (record { words = s.words; homes = s.homes; views = with_next }) all
  opened = record {
    words = was.words;
    counts = was.counts;
    numbers = was.numbers;
    short = was.short;
    few = let l = longer in omega arith;
    unmade = λ log h. was.unmade log (let l = longer in let count = collector_fits.1 in omega arith);
    seats = seats_opened;
  }

pub opens : (banks seat made : ℕ) (joined : List (ℕ × List Record)) → made < 32 →
    Splits (HasRecords banks) seat (Collector made joined) (Collector (made + 1) joined) (Log made [])
opens banks seat made joined room s kept at = (kept.0, opened banks seat made joined room s kept.0 kept.1 at)

-- the desk takes in the log that comes next
module _ (banks seat made : ℕ) (joined : List (ℕ × List Record)) (other log : ℕ) (records : List Record)
    (s : DeskState) (all : List Record)
    (was : IsListOf banks s all) (at : get_elem? s.views seat ≡ some (Collector made joined)) (apart : ¬ (other ≡ seat))
    (there : get_elem? (set s.views seat (Collector made (joined ++ (log, records) ∷ []))) other
    ≡ some (Log log records)) where
  abbrev both : View
  both = Collector made (joined ++ (log, records) ∷ [])

  abbrev taken : List View
  taken = set (set s.views seat both) other Spent

  desk_fits : FitsSeat all s.views seat (Collector made joined)
  desk_fits = was.seats seat (Collector made joined) at

  log_there : get_elem? s.views other ≡ some (Log log records)
  log_there =
      ⊎_elim (λ (x : (other ≡ seat) × (both ≡ Log log records)). absurd (apart x.0))
      (λ (x : (other ≢ seat) × (get_elem? s.views other ≡ some (Log log records))). x.1)
      (at_set s.views seat other both (Log log records) there)

  log_fits : (other ≡ log + 1) × (of_log log all ≡ records)
  log_fits = was.seats other (Log log records) log_there

  same_length : length taken ≡ length s.views
  same_length = length-set (set s.views seat both) other Spent ∙ length-set s.views seat both

  spent_here : get_elem? taken other ≡ some Spent
  spent_here = set_here (set s.views seat both) other Spent
      (at_within (set s.views seat both) other (Log log records) there)

  spent_still : (k : ℕ) → k ≢ seat → get_elem? s.views k ≡ some Spent → get_elem? taken k ≡ some Spent
  spent_still k differ e = dite (ℕ_discrete k other) (λ q. subst (λ i. get_elem? taken i ≡ some Spent) (sym q)
      spent_here)
      (λ q. set_else (set s.views seat both) other k Spent q ∙ (set_else s.views seat k both differ ∙ e))

  rest_fits : (j : ℕ) (u : View) → j ≢ seat → FitsSeat all s.views j u → FitsSeat all taken j u
  rest_fits j (Collector m js) differ fits = absurd (differ (fits.0 ∙ sym desk_fits.0))
  rest_fits j (Log m rs) differ fits = fits
  rest_fits j Spent differ fits = tt

  both_fits : FitsSeat all taken seat both
  both_fits = (
    desk_fits.0,
    same_length ∙ desk_fits.1,
    λ k y e. let zero_is = desk_fits.0 in let entry : ℕ × List Record = (log, records) in ⊎_elim
        (λ (x : slice_get joined k ≡ Some y). let f = desk_fits.2 k y x in
        (f.0, spent_still (y.0 + 1) (λ q. absurd (omega arith)) f.1))
        (λ (x : (k ≡ length joined) × (entry ≡ y)). subst (λ (z : ℕ × List Record). (of_log z.0 all ≡ z.1) ×
        (get_elem? taken (z.0 + 1) ≡ some Spent)) x.1
        (log_fits.1, subst (λ i. get_elem? taken i ≡ some Spent) log_fits.0 spent_here))
        (slice_get_snoc joined (log, records) y k e),
  )

  seats_taken : (j : ℕ) (u : View) → get_elem? taken j ≡ some u → FitsSeat all taken j u
  seats_taken j u e = ⊎_elim
      (λ (x : (j ≡ other) × (Spent ≡ u)). subst (λ v. FitsSeat all taken j v) x.1 tt)
      (λ (x : (j ≢ other) × (get_elem? (set s.views seat both) j ≡ some u)). ⊎_elim
      (λ (y : (j ≡ seat) × (both ≡ u)). subst (λ (z : ℕ × View). FitsSeat all taken z.0 z.1) (λ i. (sym y.0 i, y.1 i))
      both_fits)
      (λ (y : (j ≢ seat) × (get_elem? s.views j ≡ some u)). rest_fits j u y.0 (was.seats j u y.1))
      (at_set s.views seat j both u x.1))
      (at_set (set s.views seat both) other j Spent u e)

  took : IsListOf banks (record { words = s.words; homes = s.homes; views = taken }) all
  took = record {
    words = was.words;
    counts = was.counts;
    numbers = was.numbers;
    short = was.short;
    few = let few = was.few in let same = same_length in omega arith;
    unmade = λ l h. was.unmade l (let same = same_length in omega arith);
    seats = seats_taken;
  }

pub takes : (banks seat made : ℕ) (joined : List (ℕ × List Record)) (other log : ℕ) (records : List Record)
    → Joins (HasRecords banks) seat (Collector made joined) other (Log log records)
    (Collector made (joined ++ (log, records) ∷ [])) Spent
takes banks seat made joined other log records s kept at apart there =
    (kept.0, took banks seat made joined other log records s kept.0 kept.1 at apart there)

-- the table at the start
pub starts : (banks : ℕ) (words : List ℕ) → length words ≡ banks → ((bank : ℕ) → slice_index words bank ≡ 0) →
    HasRecords banks (opening words [] new_collector)
starts banks words wide zeros = (
  [],
  record {
    words = wide;
    counts = λ bank lt. sym (zeros bank);
    numbers = λ bank k r lt e. absurd (none_at k r e);
    short = λ log. omega arith;
    few = omega arith;
    unmade = λ log h. refl;
    seats = first_fits;
  },
)
  where
    none_at : (k : ℕ) (r : Record) → slice_get [] k ≡ Some r → ⊥
    none_at k r e = cc

    first_fits : (j : ℕ) (u : View) → get_elem? (new_collector ∷ []) j ≡ some u → FitsSeat [] (new_collector ∷ []) j u
    first_fits zero u e = subst (λ v. FitsSeat [] (new_collector ∷ []) 0 v) (some-injective new_collector u e)
        (refl, refl, λ k x h. absurd (none_in k x h))
      where
        none_in : (k : ℕ) (x : ℕ × List Record) → slice_get [] k ≡ Some x → ⊥
        none_in k x h = cc
    first_fits (suc j) u e = absurd (some-ne-none u (sym e))
