-- Where the numbers are whole, a log that can go has its next entry for itself.
use Rattle.std.proofs.Common.{◌≡◌, ℕ, ◌<◌, true, false, ◌==◌, List, slice_index, refl, sym, ◌∙◌, eq-eqb, arith}
use Rattle.std.proofs.lemmas.Bool.{and_from}
use Rattle.lf_join.specs.Join.{BanksAreWhole, next_number}
use Rattle.lf_join.specs.declared.roster.Roster.{Roster}
use Rattle.lf_join.specs.LogSets.{has, IsEmpty, IsLowest}
use Rattle.lf_join.specs.Heads.{next_entry, can_go, is_next, IsAt}
use Rattle.lf_join.specs.Standings.{AllStand, IsItsOwn}
use Rattle.lf_join.proofs.Merge.{count, joined, can_go_carries}
use Rattle.lf_join.proofs.Stuck.{times_is, more_of_bank}
use Rattle.lf_join.proofs.Confluence.{two_apart}
use Rattle.lf_join.proofs.RosterLemmas.{going_carries}

pub its_own : (skeletons : List (List (ℕ × ℕ))) (order places next : List ℕ) (log : ℕ) →
    IsAt skeletons order places next → BanksAreWhole skeletons
    → can_go skeletons places next log ≡ true → IsItsOwn skeletons places log
its_own skeletons order places next log at whole goes other x apart lt is is' =
    let test = is_next x.0 x.1 in
    let number : x.1 ≡ next_number at.gone x.0 = can_go_carries next (next_entry skeletons places log) x goes is lt
    ∙ at.counted x.0 lt in
    let more = more_of_bank skeletons order places next at whole log x is in
    let once : count test (joined skeletons) ≡ 1 = sym (times_is x.0 x.1 (joined skeletons))
    ∙ whole x.0 lt x.1 (omega (arith, number, more)) in
    let passes : test x ≡ true = and_from (x.0 == x.0) (x.1 == x.1) (eq-eqb x.0 x.0 refl) (eq-eqb x.1 x.1 refl) in
    let two = two_apart test skeletons log other (slice_index places log) (slice_index places other) x x
    (λ e. apart (sym e)) is is' passes passes in
    omega (arith, once, two)

module _ (skeletons : List (List (ℕ × ℕ))) (places next : List ℕ) (roster : Roster)
    (all : AllStand skeletons places next roster) where
  -- the roster's test is the heads'
  pub ready_goes : (log : ℕ) → log < 32 → has roster.ready log ≡ can_go skeletons places next log
  ready_goes log lt = (all log lt).going ∙ going_carries next (next_entry skeletons places log)

  pub first_goes : (log : ℕ) → IsLowest roster.ready log → can_go skeletons places next log ≡ true
  first_goes log lowest = sym (ready_goes log lowest.is_log) ∙ lowest.member

  pub none_below : (log : ℕ) → IsLowest roster.ready log → (k : ℕ) → k < log → can_go skeletons places next k ≡ false
  none_below log lowest k lt = let is_log = lowest.is_log in sym (ready_goes k (omega arith)) ∙ lowest.none_below k lt

  pub none_goes : IsEmpty roster.ready → (log : ℕ) → log < 32 → can_go skeletons places next log ≡ false
  none_goes empty log lt = sym (ready_goes log lt) ∙ empty log lt
