-- The first of the records that may come.
use Rattle.std.proofs.Common.{◌≡◌, ℕ, zero, suc, ◌+◌, ◌-◌, ◌^◌, ◌<◌, ◌≤◌, ◌==◌, min, true, false, nat_le, Bool, List, []}
use Rattle.std.proofs.Common.{◌∷◌, ◌++◌, length, map, Option, Some, None, refl, sym, ap, ◌∙◌, subst, inl, inr, arith}
use Rattle.std.proofs.Common.{eqb-true}
use Rattle.std.proofs.lemmas.Bool.{cases_Bool, cases_lt, cond-true, cond-false, eqb-false, leb-true, leb-false}
use Rattle.std.proofs.lemmas.List.{get_or-set_same, get_or-set_other, append-nil, length-append, length-map}
use Rattle.explain_lines.specs.declared.times.Times.{Times}
use Rattle.lf_rules.specs.declared.event.Record.{Record}
use Rattle.lf_rules.specs.Order.{log_at}
use Rattle.lf_rules.specs.Run.{of_log}
use Rattle.wave_order.specs.declared.left.Left.{Left}
use Rattle.wave_order.specs.declared.left.Turn.{Turn}
use Rattle.wave_order.specs.Left.{queued, begins_due, rank_at, or_earlier, IsEarliest, HasLeft}
use Rattle.wave_order.specs.OrderTo.{is_due, came, rank, IsBefore, IsFirst}
use Rattle.wave_order.specs.Times.{came_of, one_more_of, rank_of}
use Rattle.wave_order.proofs.Coming.{begins_alike}
use Rattle.wave_order.proofs.Ordered.{of_log-append}

-- ---- how many came

-- one more of its log
pub came_more : (counts : List ℕ) (gone : List Record) (r : Record) → length counts ≡ 256 →
    ((log : ℕ) → log < 256 → came_of counts log ≡ came log gone) → (log : ℕ) → log < 256 →
    came_of (one_more_of counts r.log) log ≡ came log (gone ++ r ∷ [])
came_more counts gone r sized counted log lt =
    elim (cases_Bool (r.log == log)) [
      | inl is ↦
          let same : r.log ≡ log = eqb-true r.log log is in
          let more : length (of_log log (gone ++ r ∷ [])) ≡ length (of_log log gone) + 1 =
          ap length (of_log-append log gone (r ∷ [])
          ∙ ap (λ (l : List Record). of_log log gone ++ l) (cond-true (r.log == log) (r ∷ []) [] is))
          ∙ length-append (of_log log gone) (r ∷ []) in
          ap (λ (l : ℕ). came_of (one_more_of counts l) log) same
          ∙ get_or-set_same counts log (min (came_of counts log + 1) (2 ^ 64 - 1)) 0 (omega (arith, sized, lt))
          ∙ omega (arith, counted log lt, more)
      | inr isnt ↦
          get_or-set_other counts r.log log (min (came_of counts r.log + 1) (2 ^ 64 - 1)) 0
          (λ same. eqb-false r.log log isnt (sym same))
          ∙ counted log lt
          ∙ ap (λ (l : List Record). min (length l) (2 ^ 64 - 1))
          (sym (of_log-append log gone (r ∷ [])
          ∙ ap (λ (l : List Record). of_log log gone ++ l) (cond-false (r.log == log) (r ∷ []) [] isnt)
          ∙ append-nil (of_log log gone)))
    ]

-- ---- the first one, of those of the lower logs

abbrev pub begins : Left → ℕ → Bool
begins left log = begins_due left.next (log_at (queued left) log)

-- It is the first one of those of the logs below this one.
abbrev pub IsBest : Option Times → Left → ℕ → Option Turn → Type 0
IsBest times left bound None = (log : ℕ) → log < bound → begins left log ≡ false
IsBest times left bound (Some t) = (t.log < bound) × (begins left t.log ≡ true)
    × (t.log < 256 → t.rank ≡ rank_at times left t.log)
    × (bound ≤ 256 → (log : ℕ) → log < bound → begins left log ≡ true →
    ¬ IsBefore (rank_at times left log) log (rank_at times left t.log) t.log)

module _ (times : Option Times) (left : Left) (bound : ℕ) where
  last : (log : ℕ) → log < bound + 1 → bound ≤ log → log ≡ bound
  last log lt le = omega (arith, lt, le)

  never : begins left bound ≡ false → (log : ℕ) → log < bound + 1 → bound ≤ log → begins left log ≡ false
  never isnt log lt le = ap (begins left) (last log lt le) ∙ isnt

  -- that of the log cannot come
  pub best_skips : (first : Option Turn) → begins left bound ≡ false → IsBest times left bound first →
      IsBest times left (bound + 1) first
  best_skips None isnt best = λ log lt.
      elim (cases_lt log bound) [ inl below ↦ best log below | inr le ↦ never isnt log lt le ]
  best_skips (Some t) isnt best = (
    omega (arith, best.0),
    best.1,
    best.2,
    λ few log lt due.
        elim (cases_lt log bound) [
          | inl below ↦ best.3 (omega (arith, few)) log below due
          | inr le ↦ let bad : true ≡ false = sym due ∙ never isnt log lt le in absurd cc
        ],
  )

  module _ (turn : Turn) (is : turn.log ≡ bound) (due : begins left bound ≡ true)
      (ranked : turn.log < 256 → turn.rank ≡ rank_at times left turn.log) where
    -- none is before itself
    not_itself : (log : ℕ) → log ≡ bound →
        ¬ IsBefore (rank_at times left log) log (rank_at times left turn.log) turn.log
    not_itself log same before =
        let alike : rank_at times left log ≡ rank_at times left turn.log =
        ap (rank_at times left) (same ∙ sym is) in
        elim before [
          | inl less ↦ absurd (omega (arith, less, alike))
          | inr lower ↦ absurd (omega (arith, lower.1, same, is))
        ]

    -- it is the only one
    best_begins : IsBest times left bound None → IsBest times left (bound + 1) (Some turn)
    best_begins best = (
      omega (arith, is),
      ap (begins left) is ∙ due,
      ranked,
      λ few log lt can.
          elim (cases_lt log bound) [
            | inl below ↦ let bad : true ≡ false = sym can ∙ best log below in absurd cc
            | inr le ↦ not_itself log (last log lt le)
          ],
    )

    -- it is before the first one so far
    best_changes : (t : Turn) → turn.rank < t.rank → IsBest times left bound (Some t) →
        IsBest times left (bound + 1) (Some turn)
    best_changes t before best = (
      omega (arith, is),
      ap (begins left) is ∙ due,
      ranked,
      λ few log lt can.
          elim (cases_lt log bound) [
            | inl below ↦ λ earlier.
                let less : rank_at times left turn.log < rank_at times left t.log =
                omega (
                  arith,
                  before,
                  ranked (omega (arith, is, few)),
                  best.2 (omega (arith, best.0, few)),
                ) in
                best.3 (omega (arith, few)) log below can (inl (elim earlier [
                  | inl lower ↦ omega (arith, lower, less)
                  | inr alike ↦ omega (arith, alike.0, less)
                ]))
            | inr le ↦ not_itself log (last log lt le)
          ],
    )

    -- or it is not
    best_stays : (t : Turn) → t.rank ≤ turn.rank → IsBest times left bound (Some t) →
        IsBest times left (bound + 1) (Some t)
    best_stays t least best = (
      omega (arith, best.0),
      best.1,
      best.2,
      λ few log lt can.
          elim (cases_lt log bound) [
            | inl below ↦ best.3 (omega (arith, few)) log below can
            | inr le ↦ λ earlier.
                let same : log ≡ bound = last log lt le in
                let alike : rank_at times left log ≡ rank_at times left turn.log =
                ap (rank_at times left) (same ∙ sym is) in
                let mine = ranked (omega (arith, is, few)) in
                let first = best.2 (omega (arith, best.0, few)) in
                elim earlier [
                  | inl less ↦ absurd (omega (arith, less, alike, least, mine, first))
                  | inr lower ↦ absurd (omega (arith, lower.1, same, best.0))
                ]
          ],
    )

    pub best_more : (first : Option Turn) → IsBest times left bound first →
        IsBest times left (bound + 1) (Some (or_earlier turn first))
    best_more None best = best_begins best
    best_more (Some t) best = elim (cases_Bool (nat_le t.rank turn.rank)) [
      | inl is ↦
          subst (λ (x : Turn). IsBest times left (bound + 1) (Some x))
          (sym (cond-true (nat_le t.rank turn.rank) t turn is)) (best_stays t (leb-true t.rank turn.rank is) best)
      | inr isnt ↦
          subst (λ (x : Turn). IsBest times left (bound + 1) (Some x))
          (sym (cond-false (nat_le t.rank turn.rank) t turn isnt))
          (best_changes t (leb-false t.rank turn.rank isnt) best)
    ]

-- ---- the first one of all

-- a log with a record is one of the logs
there : (next : List ℕ) (logs : List (List (ℕ × ℕ))) (log : ℕ) → begins_due next (log_at logs log) ≡ true →
    log < length logs
there next [] zero due = let bad : false ≡ true = due in absurd cc
there next [] (suc log) due = let bad : false ≡ true = due in absurd cc
there next (l ∷ logs) zero due = omega arith
there next (l ∷ logs) (suc log) due = omega (arith, there next logs log due)

module _ (times : Option Times) (left : Left) where
  pub best_of_all : (t : Turn) → IsBest times left (length left.logs.items) (Some t) →
      length left.logs.items ≤ 256 → IsEarliest times left t.log
  best_of_all t best few log due =
      best.3 few log (omega (
        arith,
        there left.next (queued left) log due,
        length-map left.logs.items (λ q. q.items),
      )) due

  pub none_of_all : IsBest times left (length left.logs.items) None → (log : ℕ) → begins left log ≡ false
  none_of_all best log = elim (cases_Bool (begins left log)) [
    | inl due ↦ best log (omega (
      arith,
      there left.next (queued left) log due,
      length-map left.logs.items (λ q. q.items),
    ))
    | inr isnt ↦ isnt
  ]

  pub earliest_first : (gone records : List Record) → HasLeft left gone records → (log : ℕ) →
      log < length left.logs.items → IsEarliest times left log → IsFirst times gone records log
  earliest_first gone records has log within earliest other r rest some due before =
      let can : begins left other ≡ true =
      begins_alike left.next gone has.next (queued left) records has.each other r rest some ∙ due in
      let below : other < 256 =
      omega (arith, there left.next (queued left) other can, length-map left.logs.items (λ q. q.items), has.few) in
      let mine = ap (rank_of times log) (has.came log (omega (arith, within, has.few))) in
      let its = ap (rank_of times other) (has.came other below) in
      earliest other can
      (subst (λ (n : ℕ). IsBefore n other (rank_at times left log) log) (sym its)
      (subst (λ (n : ℕ). IsBefore (rank times gone other) other n log) (sym mine) before))
