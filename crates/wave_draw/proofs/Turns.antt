-- An order, as it goes on and at its end.
use Rattle.std.proofs.Common.{◌≡◌, ◌≢◌, ℕ, ◌+◌, ◌<◌, ◌≤◌, Bool, List, [], ◌∷◌, ◌++◌, drop, get_or, length, Option}
use Rattle.std.proofs.Common.{Some, None, refl, sym, ap, ◌∙◌, subst, append_assoc, append-nil, arith, inl, inr}
use Rattle.std.proofs.lemmas.List.{drop_more, length-append}
use Rattle.std.proofs.Math.ListN.{drop_of_length-le}
use Rattle.std.specs.Prelude.{IsTrue, ◌↔◌}
use Rattle.std.specs.Global.{Vec}
use Rattle.std.specs.List.{All}
use Rattle.lf_rules.specs.declared.event.Record.{Record}
use Rattle.lf_rules.specs.Run.{of_log, Interleaves}
use Rattle.wave_order.specs.declared.clock.Clock.{Clock}
use Rattle.wave_signals.specs.Wave.{Drawn, next, next_shown, drawn_after, wave_from}
use Rattle.wave_draw.specs.declared.queues.Queues.{Queues}
use Rattle.wave_draw.specs.declared.order.Order.{Order}
use Rattle.wave_order.specs.Ordered.{without_next, in_order, left_by, Names}
use Rattle.wave_draw.specs.Turns.{queued, rest_of, IsPast, HasCome, TakesDue, DrawsDue, DrawsMore}
use Rattle.wave_order.proofs.Ordered.{in_order-append, left_by-append, stops, stays, begins, leaves, without_none}
use Rattle.wave_draw.proofs.Waiting.{none_waits, all_empty}

-- ---- at the end

module _ (order : Order) (records : List Record) (come : HasCome order records) where
  pub used_up : (empty : Bool) → order.next ≡ length order.logs.items →
      IsTrue empty ↔ All (λ q. q.items ≡ []) order.waiting.logs.items → IsTrue empty ↔ Names order.logs.items records
  used_up empty last waits =
      elim come.waiting [
        | inl are ↦ (
          λ is. record {
            all_places = sym come.next ∙ last;
            all_records = none_waits order.waiting.logs.items (left_by order.logs.items records) are (waits.0 is);
          },
          λ names. waits.1 (all_empty order.waiting.logs.items
              (subst (Interleaves (queued order.waiting)) names.all_records are)),
        )
        | inr past ↦ (λ is. absurd (past.0.one_waits (waits.0 is)), λ names. absurd (past.1 names.all_records))
      ]

  pub not_used_up : order.next ≢ length order.logs.items → ¬ Names order.logs.items records
  not_used_up before names = before (come.next ∙ names.all_places)

  -- where not, the others wait
  pub others_wait : ¬ IsPast order → Interleaves (queued order.waiting) (left_by order.logs.items records)
  others_wait isnt = elim come.waiting [ inl are ↦ are | inr past ↦ absurd (isnt past.0) ]

no_first : (xs ys : List Record) → xs ++ ys ≡ [] → xs ≡ []
no_first [] ys none = refl
no_first (x ∷ xs) ys none = cc

-- no record has a turn
module _ (times : Option Clock) (order : Order) (wave : Drawn) (text : List ℕ) (records more : List Record)
    (come : HasCome order records) (past : IsPast order) where
  no_place : drop (length (in_order order.logs.items records)) order.logs.items ≡ []
  no_place = drop_of_length-le order.logs.items (omega (arith, come.next, past.last))

  none_due : in_order order.logs.items (records ++ more) ≡ in_order order.logs.items records ++ []
  none_due = in_order-append order.logs.items records more
      ∙ ap (λ (l : List ℕ). in_order order.logs.items records ++ in_order l (left_by order.logs.items records ++ more))
      no_place

  all_left : left_by order.logs.items (records ++ more) ≡ left_by order.logs.items records ++ more
  all_left = left_by-append order.logs.items records more
      ∙ ap (λ (l : List ℕ). left_by l (left_by order.logs.items records ++ more)) no_place

  some_left : ¬ (left_by order.logs.items records ≡ [])
  some_left none = elim come.waiting [
    | inl are ↦ past.one_waits (all_empty order.waiting.logs.items
        (subst (Interleaves (queued order.waiting)) none are))
    | inr before ↦ before.1 none
  ]

  pub draws_none : DrawsMore times (Some order) (Some order) wave wave text text records more
  draws_none = record {
    come = record {
      next = come.next ∙ sym (ap length (none_due ∙ append-nil (in_order order.logs.items records)));
      waiting = inr (past, λ none. some_left (no_first (left_by order.logs.items records) more (sym all_left ∙ none)));
    };
    due = [];
    drawn = none_due;
    shown = sym (append-nil text);
    after = refl;
  }

-- ---- a turn

next_named : (named : List ℕ) (next log d : ℕ) → next < length named → log ≡ get_or named next d →
    drop next named ≡ log ∷ drop (next + 1) named
next_named named next log d within is = drop_more named next d within
    ∙ ap (λ (k : ℕ). k ∷ drop (next + 1) named) (sym is)

module _ (old : Order) (records : List Record) where
  -- the order is at its end
  pub none_named : length old.logs.items ≤ old.next → Interleaves (queued old.waiting) records →
      TakesDue old old records None
  none_named past are =
      let none : rest_of old ≡ [] = drop_of_length-le old.logs.items past in
      record {
        left = records;
        waiting = are;
        taken = refl;
        others = refl;
        none = (ap (λ (l : List ℕ). in_order l records) none, ap (λ (l : List ℕ). left_by l records) none);
      }

  module _ (log : ℕ) (within : old.next < length old.logs.items) (is : log ≡ get_or old.logs.items old.next log)
      (waiting : Queues) (are : Interleaves (queued waiting) (without_next log records)) where
    abbrev later : List ℕ
    later = drop (old.next + 1) old.logs.items

    named : rest_of old ≡ log ∷ later
    named = next_named old.logs.items old.next log log within is

    -- its next record did not come
    pub none_came : of_log log records ≡ [] → TakesDue old (record old { waiting = waiting }) records None
    none_came none = record {
      left = records;
      waiting = subst (Interleaves (queued waiting)) (without_none log records none) are;
      taken = refl;
      others = refl;
      none = (
        ap (λ (l : List ℕ). in_order l records) named ∙ stops log later records none,
        ap (λ (l : List ℕ). left_by l records) named ∙ stays log later records none,
      );
    }

    -- it is there
    pub one_came : (item : Record) (rest : List Record) → of_log log records ≡ item ∷ rest →
        TakesDue old (record old { next = old.next + 1; waiting = waiting }) records (Some item)
    one_came item rest some = record {
      left = without_next log records;
      waiting = are;
      taken = ap (λ (l : List ℕ). in_order l records) named ∙ begins log later records item rest some;
      others = ap (λ (l : List ℕ). left_by l records) named ∙ leaves log later records item rest some;
      none = tt;
    }

-- ---- all turns that are due

module _ (times : Option Clock) (old mid new : Order) (wave wave' : Drawn) (text text' : List ℕ)
    (records more : List Record) (come : HasCome old records) (logs : mid.logs ≡ old.logs) (next : mid.next ≡ old.next)
    (same : new.logs ≡ mid.logs)
    (draws : DrawsDue times mid new wave wave' text text' (left_by old.logs.items records ++ more)) where
  abbrev all : List Record
  all = left_by old.logs.items records ++ more

  rest : rest_of mid ≡ drop (length (in_order old.logs.items records)) old.logs.items
  rest = ap (λ (v : Vec ℕ). drop mid.next v.items) logs
      ∙ ap (λ (n : ℕ). drop n old.logs.items) (next ∙ come.next)

  due_now : in_order old.logs.items (records ++ more) ≡ in_order old.logs.items records ++ in_order (rest_of mid) all
  due_now = in_order-append old.logs.items records more
      ∙ ap (λ (l : List ℕ). in_order old.logs.items records ++ in_order l all) (sym rest)

  pub has_come : HasCome new (records ++ more)
  has_come =
      let named : new.logs ≡ old.logs = same ∙ logs in
      record {
        next = omega (
          arith,
          draws.next,
          next,
          come.next,
          ap length due_now,
          length-append (in_order old.logs.items records) (in_order (rest_of mid) all),
          ap (λ (v : Vec ℕ). length (in_order v.items (records ++ more))) named,
        );
        waiting = inl (subst (Interleaves (queued new.waiting))
            (ap (λ (l : List ℕ). left_by l all) rest ∙ sym (left_by-append old.logs.items records more)
            ∙ ap (λ (v : Vec ℕ). left_by v.items (records ++ more)) (sym named)) draws.waiting);
      }

  pub draws_more : DrawsMore times (Some old) (Some new) wave wave' text text' records more
  draws_more = record {
    come = has_come;
    due = in_order (rest_of mid) all;
    drawn = due_now;
    shown = draws.shown;
    after = draws.drawn;
  }

-- ---- one turn after another

-- What was drawn, and what is due of those that are left, are what was due of these.
pub record IsOnTheWay (times : Option Clock) (old now : Order) (wave wave' : Drawn) (text text' : List ℕ)
    (records : List Record) : Type 0 where
  pub left : List Record
  pub waiting : Interleaves (queued now.waiting) left
  pub count : now.next + length (in_order (rest_of now) left) ≡ old.next + length (in_order (rest_of old) records)
  pub others : left_by (rest_of now) left ≡ left_by (rest_of old) records
  pub shown : text' ++ wave_from times wave' (in_order (rest_of now) left)
      ≡ text ++ wave_from times wave (in_order (rest_of old) records)
  pub drawn : drawn_after wave' (in_order (rest_of now) left) ≡ drawn_after wave (in_order (rest_of old) records)

module _ (times : Option Clock) (old now new : Order) (wave wave' : Drawn) (text text' : List ℕ)
    (records : List Record) where
  pub sets_out : Interleaves (queued old.waiting) records → IsOnTheWay times old old wave wave text text records
  sets_out are = record {
    left = records;
    waiting = are;
    count = refl;
    others = refl;
    shown = refl;
    drawn = refl;
  }

  module _ (way : IsOnTheWay times old now wave wave' text text' records) where
    pub one_turn : (item : Record) → TakesDue now new way.left (Some item) → new.next ≡ now.next + 1 →
        (wave'' : Drawn) (text'' : List ℕ) → wave'' ≡ next wave' item → text'' ≡ text' ++ next_shown times wave' item →
        IsOnTheWay times old new wave wave'' text text'' records
    one_turn item takes later wave'' text'' drawn shown =
        let due = in_order (rest_of new) takes.left in
        record {
          left = takes.left;
          waiting = takes.waiting;
          count = omega (arith, later, ap length takes.taken, way.count);
          others = sym takes.others ∙ way.others;
          shown = ap (λ (l : List ℕ). l ++ wave_from times wave'' due) shown
              ∙ append_assoc text' (next_shown times wave' item) (wave_from times wave'' due)
              ∙ ap (λ (w : Drawn). text' ++ (next_shown times wave' item ++ wave_from times w due)) drawn
              ∙ sym (ap (λ (rs : List Record). text' ++ wave_from times wave' rs) takes.taken)
              ∙ way.shown;
          drawn = ap (λ (w : Drawn). drawn_after w due) drawn
              ∙ sym (ap (drawn_after wave') takes.taken)
              ∙ way.drawn;
        }

    pub arrives : TakesDue now new way.left None → new.next ≡ now.next → DrawsDue times old new wave wave' text text'
        records
    arrives takes same =
        let none : in_order (rest_of now) way.left ≡ [] = takes.taken ∙ takes.none.0 in
        record {
          next = omega (arith, same, way.count, ap length none);
          waiting = subst (Interleaves (queued new.waiting)) (sym takes.none.1 ∙ sym takes.others ∙ way.others)
              takes.waiting;
          shown = sym (append-nil text')
              ∙ sym (ap (λ (rs : List Record). text' ++ wave_from times wave' rs) none) ∙ way.shown;
          drawn = sym (ap (drawn_after wave') none) ∙ way.drawn;
        }
