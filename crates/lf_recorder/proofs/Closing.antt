-- What the desk has, once it took in every seat.
use Rattle.std.proofs.Common.{◌+◌, ◌≡◌, ℕ, zero, suc, ◌<◌, ◌≤◌, List, [], ◌∷◌, ◌++◌, length, get_or, set, map}
use Rattle.std.proofs.Common.{replicate}
use Rattle.std.proofs.Common.{Some, refl, sym, ap, ◌∙◌, subst, arith, length-set, get_or-set_same, get_or-set_other}
use Rattle.std.specs.Prelude.{slice_get}
use mathlib.Core.Logic.{dite}
use mathlib.Core.Option.{some}
use native.Mathlib.Decide.{ℕ_discrete, dec_le}
use lib.ListN.{get_elem?}
use lib.Seq.{map-set}
use mathlib.Core.List.{map-append}
use Rattle.std.proofs.lemmas.List.{get_or_past, length-replicate, length-map, set_past}
use Rattle.std.proofs.lemmas.Option.{slice_get-get_or, slice_get-map}
use Rattle.std.specs.Option.{option_map}
use Rattle.atomic_table.specs.Table.{Final, Seen}
use Rattle.lf_rules.specs.declared.event.Record.{Record}
use Rattle.lf_recorder.specs.declared.rule.View.TheVariants.{Collector, Log, Spent}
use Rattle.lf_rules.specs.Run.{of_log}
use Rattle.lf_recorder.specs.Rule.{DeskState, Mine, IsListOf, HasRecords, with_log}
use Rattle.lf_recorder.proofs.Places.{at_within}
use Rattle.lf_recorder.specs.Desk.{SeatView, entry_of, placed, HasSeat, HoldSeats}
use Rattle.lf_rules.specs.CommonOrder.{HasCommonOrder}
use Rattle.lf_recorder.proofs.Numbered.{keeps_numbers}

pub placed_snoc : (logs : List (List Record)) (ss : List SeatView) (s : SeatView) →
    placed logs (ss ++ s ∷ []) ≡ set (placed logs ss) s.log s.records
placed_snoc logs [] s = refl
placed_snoc logs (x ∷ xs) s = placed_snoc (set logs x.log x.records) xs s

pub length-placed : (logs : List (List Record)) (ss : List SeatView) → length (placed logs ss) ≡ length logs
length-placed logs [] = refl
length-placed logs (s ∷ ss) = length-placed (set logs s.log s.records) ss ∙ length-set logs s.log s.records

module _ (all : List Record) where
  -- each seat has the records of its log
  abbrev pub Agree : List SeatView → Type 0
  Agree ss = (k : ℕ) (s : SeatView) → slice_get ss k ≡ Some s → of_log s.log all ≡ s.records

  after_one : (logs : List (List Record)) (s : SeatView) (log : ℕ) → of_log s.log all ≡ s.records →
      get_or logs log [] ≡ of_log log all → get_or (set logs s.log s.records) log [] ≡ of_log log all
  after_one logs s log is here = dite (ℕ_discrete log s.log)
      (λ e. dite (dec_le (length logs) log)
      (λ past. ap (λ (l : List (List Record)). get_or l log []) (set_past logs s.log s.records (omega arith)) ∙ here)
      (λ within. subst (λ k. get_or (set logs s.log s.records) k [] ≡ of_log k all) (sym e)
      (get_or-set_same logs s.log s.records [] (omega arith) ∙ sym is)))
      (λ ne. get_or-set_other logs s.log log s.records [] ne ∙ here)

  placed_keeps : (logs : List (List Record)) (ss : List SeatView) (log : ℕ) → Agree ss →
      get_or logs log [] ≡ of_log log all → get_or (placed logs ss) log [] ≡ of_log log all
  placed_keeps logs [] log agree here = here
  placed_keeps logs (s ∷ ss) log agree here = placed_keeps (set logs s.log s.records) ss log
      (λ k x e. agree (suc k) x e) (after_one logs s log (agree 0 s refl) here)

  pub placed_has : (logs : List (List Record)) (ss : List SeatView) (k : ℕ) (s : SeatView) → Agree ss →
      slice_get ss k ≡ Some s → s.log < length logs
      → get_or (placed logs ss) s.log [] ≡ of_log s.log all
  placed_has logs [] k s agree at within = absurd (cc)
  placed_has logs (x ∷ xs) zero s agree at within =
      let is : x ≡ s = cc in
      placed_keeps (set logs x.log x.records) xs s.log (λ i y e. agree (suc i) y e)
      (subst (λ (y : SeatView). get_or (set logs x.log x.records) y.log [] ≡ of_log y.log all) is
      (get_or-set_same logs x.log x.records [] (subst (λ (y : SeatView). y.log < length logs) (sym is) within)
      ∙ sym (agree 0 x refl)))
  placed_has logs (x ∷ xs) (suc k) s agree at within =
      placed_has (set logs x.log x.records) xs k s (λ i y e. agree (suc i) y e) at
      (let same = length-set logs x.log x.records in omega arith)

-- the logs are those of one list, once the desk took in a seat for each
pub closes : (banks seat made logs : ℕ) (seats : List SeatView) (s : DeskState) → HasRecords banks s →
    get_elem? s.views seat ≡ some (Collector made (map entry_of seats)) → made ≤ logs
    → ((log : ℕ) → log < logs → HasSeat seats log) → HasCommonOrder (placed (replicate logs []) seats) ×
    HoldSeats (placed (replicate logs []) seats) seats
closes banks seat made logs seats s kept at few has = (
  record { all = all; interleaves = record { each = each }; numbers = keeps_numbers all was.numbers },
  λ k d within. let there = slice_get-get_or seats k d within in let x : SeatView = get_or seats k d in
      let fits = (kept.1).seats seat (Collector made (map entry_of seats)) at in
      let spent : get_elem? s.views (x.log + 1) ≡ some Spent =
      (fits.2 k (entry_of x) (slice_get-map entry_of seats k ∙ ap (option_map entry_of) there)).1 in
      let below = at_within s.views (x.log + 1) Spent spent in
      let long = fits.1 in
      let blank : length (replicate {A = List Record} logs []) ≡ logs = length-replicate logs [] in
      let whole = length-placed (replicate logs []) seats in
      let inside : x.log < length (replicate {A = List Record} logs []) = omega arith in
      slice_get-get_or (placed (replicate logs []) seats) x.log [] (omega arith)
      ∙ ap Some (placed_has all (replicate logs []) seats k x agree there inside ∙ agree k x there),
)
  where
    all : List Record
    all = kept.0

    was : IsListOf banks s kept.0
    was = kept.1

    agree : Agree kept.0 seats
    agree k x e = (((kept.1).seats seat (Collector made (map entry_of seats)) at).2 k (entry_of x)
        (slice_get-map entry_of seats k ∙ ap (option_map entry_of) e)).0

    each : (log : ℕ) → of_log log kept.0 ≡ get_or (placed (replicate logs []) seats) log []
    each log = dite (dec_le logs log)
        (λ past. let views = ((kept.1).seats seat (Collector made (map entry_of seats)) at).1 in
        (kept.1).unmade log (omega arith)
        ∙ sym (get_or_past (placed (replicate logs []) seats) log []
        (let n = length-placed (replicate logs []) seats in
        let m : length (replicate {A = List Record} logs []) ≡ logs = length-replicate logs [] in omega arith)))
        (λ within.
        let h = has log (omega arith) in
        let x : SeatView = h.1 in
        let at' : slice_get seats h.0 ≡ Some x = slice_get-get_or seats h.0 x h.2 ∙ ap Some h.3 in
        let m : length (replicate {A = List Record} logs []) ≡ logs = length-replicate logs [] in
        let in_range : x.log < length (replicate {A = List Record} logs []) = let same = h.4 in omega arith in
        subst (λ k. of_log k kept.0 ≡ get_or (placed (replicate logs []) seats) k []) h.4
        (sym (placed_has kept.0 (replicate logs []) seats h.0 x agree at' in_range)))

-- the desk's view after one more seat
pub collector_after : (made : ℕ) (ss : List SeatView) (s : SeatView) (old other new : Mine) →
    old ≡ (Collector made (map entry_of ss), [])
    → other ≡ (Log s.log s.records, []) → new ≡ (with_log old.0 other.0, old.1)
    → new ≡ (Collector made (map entry_of (ss ++ s ∷ [])), [])
collector_after made ss s old other new p q r =
    let a : (with_log old.0 other.0, old.1) ≡ (Collector made (map entry_of ss ++ entry_of s ∷ []), []) =
    λ i. (with_log (p i).0 (q i).0, (p i).1) in
    r ∙ (a ∙ ap (λ l. (Collector made l, [])) (sym (map-append entry_of ss (s ∷ []))))

module _ {B : Type 0} (f : B → List Record) (first : List (List Record)) (ss : List SeatView) (s : SeatView)
    (logs : List B) (was : map f logs ≡ placed first ss) where
  -- the logs after one more seat
  pub logs_after : (i : ℕ) (b : B) → i ≡ s.log → f b ≡ s.records → map f (set logs i b) ≡ placed first (ss ++ s ∷ [])
  logs_after i b p q = map-set f logs i b ∙ ((λ k. set (was k) (p k) (q k)) ∙ sym (placed_snoc first ss s))

  pub logs_same : length logs ≤ s.log → map f logs ≡ placed first (ss ++ s ∷ [])
  logs_same past = let n : length (placed first ss) ≡ length logs = sym (ap length was) ∙ length-map logs f in
      was ∙ (sym (set_past (placed first ss) s.log s.records (omega arith)) ∙ sym (placed_snoc first ss s))

-- what the desk ends with, from the last state of its table
pub closing : (banks seat made count : ℕ) (seats : List SeatView) (me : Mine) (words : List ℕ)
    (slots : List (Unit {0})) (first logs : List (List Record))
    → Final (Seen (HasRecords banks) seat me.0) words slots → me ≡ (Collector made (map entry_of seats), [])
    → made ≤ count → ((log : ℕ) → log < count → HasSeat seats log) → first ≡ replicate count [] →
    logs ≡ placed first seats
    → HasCommonOrder logs × HoldSeats logs seats
closing banks seat made count seats me words slots first logs final is few has empty done =
    subst (λ ls. HasCommonOrder ls × HoldSeats ls seats) (sym (done ∙ ap (λ ls. placed ls seats) empty))
    (closes banks seat made count seats final.0 final.1.0 (final.1.1 ∙ ap (λ (m : Mine). some m.0) is) few has)
