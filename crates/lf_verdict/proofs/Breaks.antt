-- Which parts are at fault, and that such a fault stands whatever records follow.
use Rattle.std.proofs.Common.{◌≡◌, ℕ, zero, suc, ◌+◌, ◌<◌, ◌≤◌, List, [], ◌∷◌, ◌++◌, length, get_or, Option, Some}
use Rattle.std.proofs.Common.{None, refl, sym, ap, ◌∙◌, subst, ⊎_elim, arith, append_assoc}
use Rattle.std.specs.Prelude.{slice_get, IfNone}
use Rattle.std.specs.List.{AllByRecursion, All, range_with_len}
use Rattle.std.proofs.lemmas.Bool.{cases_lt, cases_eq}
use Rattle.lf_rules.specs.declared.shape.Shape.{Shape}
use Rattle.lf_rules.specs.declared.event.Record.{Record}
use Rattle.lf_rules.specs.declared.rule.Rule.{Rule}
use Rattle.lf_rules.specs.Address.{FlatMemory}
use Rattle.lf_rules.specs.Order.{log_at}
use Rattle.lf_rules.specs.Numbers.{numbers_of, IsDouble}
use Rattle.lf_rules.specs.Outcomes.{first_local, IsBankOutcome}
use Rattle.lf_rules.specs.State.{Local}
use Rattle.lf_rules.specs.Run.{of_log, of_bank, effect, IsRunOf, BreaksAt}
use Rattle.lf_rules.specs.Table.{Side, OfPort, OfBank}
use Rattle.lf_logs.specs.Reordering.{IsLeastDouble, HasOrdered}
use Rattle.lf_verdict.specs.declared.session.standing.Standing.{Standing}
use Rattle.lf_verdict.specs.Standing.{IsPortAt, StandsAfterAll, IsPortJudged, IsBankSettled, AreEntered, IsWatch}
use Rattle.lf_verdict.proofs.Settled.{bank_order, bank_outcome}
use Rattle.lf_replay.specs.Bytes.{bank_part}
use Rattle.lf_replay.proofs.Runs.{outcome_same}
use Rattle.lf_verdict.specs.declared.session.standing.port_judge.PortJudge.{PortJudge}
use Rattle.lf_verdict.specs.declared.session.standing.bank_judge.BankJudge.{BankJudge}
use Rattle.lf_verdict.specs.Breaking.{AreFirst, BankBreaks, IsFaultOfPart, NoneBroke}
use Rattle.lf_verdict.specs.inner.Noting.{IsPortWhole, IsBankWhole, IsFirstOfBank}
use Rattle.lf_logs.proofs.Splitting.{of_key-push_other}
use Rattle.lf_verdict.specs.declared.session.breaking.Watch.{Watch}
use Rattle.lf_verdict.specs.declared.session.breaking.Watch.TheVariants as watches
use Rattle.lf_rules.specs.declared.outcome.Outcome.{Outcome}
use Rattle.lf_logs.specs.Tags.{PortView}
use Rattle.lf_verdict.specs.declared.session.standing.log_entries.Entries.{Entries}
use Rattle.lf_rules.specs.declared.outcome.Outcome.TheVariants as outcomes
use Rattle.lf_verdict.specs.declared.session.breaking.PartFault.TheVariants as parts

-- ---- lists that break

pub breaks_more : (side : Side) (shape : Shape) (now : Local) (rs more : List Record) (n : ℕ) (rule : Rule) →
    BreaksAt side shape now rs n rule → BreaksAt side shape now (rs ++ more) n rule
breaks_more side shape now [] more n rule breaks = absurd breaks
breaks_more side shape now (x ∷ rs) more zero rule breaks = breaks
breaks_more side shape now (x ∷ rs) more (suc n) rule breaks =
    (breaks.0, breaks_more side shape (effect side shape now x) rs more n rule breaks.1)

pub no_break : (side : Side) (shape : Shape) (now : Local) (rs : List Record) (n : ℕ) (rule : Rule) →
    BreaksAt side shape now rs n rule → IsRunOf side shape now rs → ⊥
no_break side shape now [] n rule breaks runs = breaks
no_break side shape now (x ∷ rs) zero rule breaks runs = let e : None ≡ Some rule = sym runs.0 ∙ breaks in absurd (cc)
no_break side shape now (x ∷ rs) (suc n) rule breaks runs =
    no_break side shape (effect side shape now x) rs n rule breaks.1 runs.1

pub one_break : (side : Side) (shape : Shape) (now : Local) (rs : List Record) (n n' : ℕ) (rule rule' : Rule) →
    BreaksAt side shape now rs n rule → BreaksAt side shape now rs n' rule'
    → (n' ≡ n) × (rule' ≡ rule)
one_break side shape now [] n n' rule rule' a b = absurd a
one_break side shape now (x ∷ rs) zero zero rule rule' a b = let e : Some rule' ≡ Some rule = sym b ∙ a in (refl, cc)
one_break side shape now (x ∷ rs) zero (suc n') rule rule' a b = let e : None ≡ Some rule = sym b.0 ∙ a in absurd (cc)
one_break side shape now (x ∷ rs) (suc n) zero rule rule' a b = let e : None ≡ Some rule' = sym a.0 ∙ b in absurd (cc)
one_break side shape now (x ∷ rs) (suc n) (suc n') rule rule' a b =
    let rest = one_break side shape (effect side shape now x) rs n n' rule rule' a.1 b.1 in (ap suc rest.0, rest.1)

-- ---- what comes first in the order of numbers

pub get_below : {X : Type 0} (xs : List X) (k : ℕ) → k < length xs → (x : X) × (slice_get xs k ≡ Some x)
get_below [] k lt = absurd (omega arith)
get_below (x ∷ xs) zero lt = (x, refl)
get_below (x ∷ xs) (suc k) lt = get_below xs k (omega arith)

pub begins_with : {X : Type 0} (xs ys : List X) → ((k : ℕ) → k < length xs → slice_get ys k ≡ slice_get xs k) →
    (zs : List X) × (ys ≡ xs ++ zs)
begins_with [] ys same = (ys, refl)
begins_with (x ∷ xs) [] same = let e = same 0 (omega arith) in absurd (cc)
begins_with (x ∷ xs) (y ∷ ys) same =
    let e = same 0 (omega arith) in
    let rest = begins_with xs ys (λ k lt. same (suc k) (omega arith)) in
    let one : y ≡ x = cc in
    (rest.0, ap (λ z. z ∷ ys) one ∙ ap (λ zs. x ∷ zs) rest.1)

-- the record stands at its number
abbrev pub IsAt : List Record → Record → Type 0
IsAt rs r = slice_get rs r.number ≡ Some r

numbered_at : (a : ℕ) (rs : List Record) → numbers_of rs ≡ range_with_len a (length rs) → (k : ℕ) (d : Record) →
    k < length rs
    → ((get_or rs k d).number ≡ a + k) × (slice_get rs k ≡ Some (get_or rs k d))
numbered_at a [] e k d lt = absurd (omega arith)
numbered_at a (r ∷ rs) e zero d lt =
    let first : r.number ≡ a = ap (λ (ns : List ℕ). get_or ns 0 a) e in
    (first ∙ omega arith, refl)
numbered_at a (r ∷ rs) e (suc k) d lt =
    let rest = numbered_at (a + 1) rs (ap (λ (ns : List ℕ). drop_one ns) e) k d (omega arith) in
    (rest.0 ∙ omega arith, rest.1)
  where
    drop_one : List ℕ → List ℕ
    drop_one [] = []
    drop_one (n ∷ ns) = ns

pub all_at : (rs : List Record) → numbers_of rs ≡ range_with_len 0 (length rs) → All (IsAt rs) rs
all_at rs numbered k d lt =
    let here = numbered_at 0 rs numbered k d lt in
    let same : (get_or rs k d).number ≡ k = here.0 ∙ omega arith in
    ap (λ n. slice_get rs n) same ∙ here.1

pub all_left : (P : Record → Type 0) (xs ys : List Record) → All P (xs ++ ys) → AllByRecursion P xs
all_left P [] ys all = tt
all_left P (x ∷ xs) ys all = (all 0 x (omega arith), all_left P xs ys (λ k d lt. all (suc k) d (omega arith)))

-- ---- a part that is not at fault

-- a record that is no longer the last changes no other part
module _ (shape : Shape) (memory : FlatMemory) (records : List Record) (r : Record) where
  abbrev after : List Record
  after = records ++ r ∷ []

  pub port_whole_more : NoneBroke shape memory records → (p : ℕ) → (p ≡ r.log → ⊥) → IsPortWhole shape memory after p
  port_whole_more none p other at rule is = none (parts.Port p at rule) (
    is.0,
    subst (λ (rs : List Record). BreaksAt OfPort shape (first_local memory) rs at rule)
        (of_key-push_other (λ r. r.log) p records r (λ e. other (sym e))) is.1,
  )

  pub bank_whole_more : NoneBroke shape memory records → (b : ℕ) → (b ≡ r.bank → ⊥) → IsBankWhole shape memory after b
  bank_whole_more none b other =
      let same = of_key-push_other (λ r. r.bank) b records r (λ e. other (sym e)) in
      record {
        numbers = λ k is. none (parts.Double b k)
            (is.0, subst (λ (rs : List Record). IsDouble (numbers_of rs) k) same is.1);
        rules = λ number rule is. none (parts.Bank b number rule) (record {
          is_bank = is.is_bank;
          gave = is.gave;
          first = subst (λ (rs : List Record). AreFirst rs is.gave) same is.first;
          breaks = is.breaks;
        });
      }

  pub ports_whole_more : NoneBroke shape memory records → IsPortWhole shape memory after r.log → (p : ℕ) →
      IsPortWhole shape memory after p
  ports_whole_more none port p = ⊎_elim
      (λ (own : p ≡ r.log). subst (IsPortWhole shape memory after) (sym own) port)
      (λ (other : p ≡ r.log → ⊥). port_whole_more none p other)
      (cases_eq p r.log)

  banks_whole_more : NoneBroke shape memory records → IsBankWhole shape memory after r.bank → (b : ℕ) →
      IsBankWhole shape memory after b
  banks_whole_more none bank b = ⊎_elim
      (λ (own : b ≡ r.bank). subst (IsBankWhole shape memory after) (sym own) bank)
      (λ (other : b ≡ r.bank → ⊥). bank_whole_more none b other)
      (cases_eq b r.bank)

  pub none_broke_more : NoneBroke shape memory records → IsPortWhole shape memory after r.log →
      IsBankWhole shape memory after r.bank → NoneBroke shape memory after
  none_broke_more none port bank (parts.Port p at rule) is = ports_whole_more none port p at rule is
  none_broke_more none port bank (parts.Double b k) is = (banks_whole_more none bank b).numbers k is
  none_broke_more none port bank (parts.Bank b number rule) is = (banks_whole_more none bank b).rules number rule is

-- no record came
pub none_broke_nothing : (shape : Shape) (memory : FlatMemory) → NoneBroke shape memory []
none_broke_nothing shape memory (parts.Port port at rule) is = is.1
none_broke_nothing shape memory (parts.Double bank k) is = let no = is.1 in absurd (omega (arith, no))
none_broke_nothing shape memory (parts.Bank bank number rule) is = nothing is.gave is.first is.breaks
  where
    nothing : (gave : List Record) → AreFirst [] gave → BreaksAt OfBank shape (first_local memory) gave number rule → ⊥
    nothing [] first breaks = breaks
    nothing (x ∷ gave) first breaks = let e : Some x ≡ None = first 0 (omega arith) in absurd (cc)

-- ---- what the judges found

fault_of_port : (shape : Shape) (memory : FlatMemory) (rs : List Record) (step : PortView) (outcome : Outcome)
    (at : ℕ) (rule : Rule) → IsPortAt shape rs step outcome
    → outcome ≡ outcomes.Broken at rule → BreaksAt OfPort shape (first_local memory) rs at rule
fault_of_port shape memory rs step outcome at rule judged is = subst (IsPortAt shape rs step) is judged memory

none_of_port : (shape : Shape) (memory : FlatMemory) (rs : List Record) (step : PortView) (outcome : Outcome) (at : ℕ)
    (rule : Rule) → IsPortAt shape rs step outcome
    → ((n : ℕ) (rule : Rule) → outcome ≡ outcomes.Broken n rule → ⊥) →
    BreaksAt OfPort shape (first_local memory) rs at rule → ⊥
none_of_port shape memory rs step outcomes.Passed at rule judged fine breaks =
    no_break OfPort shape (first_local memory) rs at rule breaks (judged.is_run memory)
none_of_port shape memory rs step (outcomes.Broken n rule') at rule judged fine breaks = fine n rule' refl
none_of_port shape memory rs step outcomes.NoMemory at rule judged fine breaks = judged

module _ (shape : Shape) (records : List Record) (e : Entries) (entered : AreEntered shape records e) (port : ℕ)
    (judge : PortJudge) (read : judge ≡ get_or e.ports.items port judge) (lt : port < shape.ports) where
  port_is : IsPortJudged shape port (of_log port records) judge
  port_is = subst (λ (j : PortJudge). IsPortJudged shape port (of_log port records) j) (sym read)
      (entered.ports port judge lt)

  pub port_found : (memory : FlatMemory) (at : ℕ) (rule : Rule) → judge.outcome ≡ outcomes.Broken at rule →
      IsFaultOfPart shape memory records (parts.Port port at rule)
  port_found memory at rule is = (
    lt,
    fault_of_port shape memory (of_log port records) judge.step judge.outcome at
        rule port_is.judged is,
  )

  pub port_whole : (memory : FlatMemory) → ((n : ℕ) (rule : Rule) → judge.outcome ≡ outcomes.Broken n rule → ⊥) →
      IsPortWhole shape memory records port
  port_whole memory fine at rule is = none_of_port shape memory (of_log port records) judge.step judge.outcome at rule
      port_is.judged fine is.1

module _ (shape : Shape) (memory : FlatMemory) (records : List Record) (s : Standing)
    (stands : StandsAfterAll shape memory records s) (bank : ℕ) (judge : BankJudge)
    (read : judge ≡ get_or s.banks.items bank judge) (lt : bank < shape.banks) where
  abbrev gave : List Record
  gave = log_at stands.given bank

  bank_is : IsBankSettled shape (bank_part shape bank memory) bank (of_bank bank records) gave judge
  bank_is = subst (λ (j : BankJudge). IsBankSettled shape (bank_part shape bank memory) bank (of_bank bank records)
      gave j) (sym read) (stands.banks bank judge lt)

  bank_judged : IsBankOutcome shape memory gave judge.outcome
  bank_judged =
      outcome_same shape bank memory gave (bank_order shape memory records s stands bank lt) judge.outcome
      (bank_outcome shape (bank_part shape bank memory) bank gave judge.step judge.outcome bank_is.bank_judged.judged).0

  pub bank_found : (number : ℕ) (rule : Rule) → judge.outcome ≡ outcomes.Broken number rule →
      IsFaultOfPart shape memory records (parts.Bank bank number rule)
  bank_found number rule is = record {
    is_bank = lt;
    gave = gave;
    first = bank_is.bank_judged.ordered.given;
    breaks = subst (IsBankOutcome shape memory gave) is bank_judged;
  }

  pub double_found : (found : Option ℕ) (k : ℕ) → ((put gave : List Record) → HasOrdered judge.order put gave →
      IsLeastDouble (numbers_of put) found) → found ≡ Some k
      → IsFaultOfPart shape memory records (parts.Double bank k)
  double_found found k least is = (
    lt,
    (subst (IsLeastDouble (numbers_of (of_bank bank records)))
        is (least (of_bank bank records) gave bank_is.bank_judged.ordered)).0,
  )

  -- what was given out begins with each list of the first records
  given_begins : (first : List Record) → AreFirst (of_bank bank records) first → (zs : List Record) ×
      (gave ≡ first ++ zs)
  given_begins xs first = begins_with xs gave (λ k below. bank_is.bank_judged.ordered.given k (within k below)
      ∙ sym (first k below))
    where
      short : length xs ≤ length gave
      short = ⊎_elim
          (λ (past : length gave < length xs).
          let x = get_below xs (length gave) past in
          let e : Some x.0 ≡ None = sym x.1 ∙ first (length gave) past ∙ bank_is.drained in absurd (cc))
          (λ (le : length xs ≤ length gave). le)
          (cases_lt (length gave) (length xs))

      within : (k : ℕ) → k < length xs → k < length gave
      within k below = omega (arith, below, short)

  no_rule : (outcome : Outcome) (number : ℕ) (rule : Rule) → IsBankOutcome shape memory gave outcome →
      ((n : ℕ) (rule : Rule) → outcome ≡ outcomes.Broken n rule → ⊥) → (outcome ≡ outcomes.NoMemory → ⊥)
      → BankBreaks shape memory records bank number rule → ⊥
  no_rule outcomes.Passed number rule run fine had is =
      let whole = given_begins is.gave is.first in
      no_break OfBank shape (first_local memory) gave number rule
      (subst (λ (rs : List Record). BreaksAt OfBank shape (first_local memory) rs number rule) (sym whole.1)
      (breaks_more OfBank shape (first_local memory) is.gave whole.0 number rule is.breaks)) run
  no_rule (outcomes.Broken n rule') number rule run fine had is = fine n rule' refl
  no_rule outcomes.NoMemory number rule run fine had is = had refl

  -- a number that came twice is the first of the bank where no rule is broken
  pub first_double : (found : Option ℕ) (k : ℕ) → ((put gave : List Record) → HasOrdered judge.order put gave →
      IsLeastDouble (numbers_of put) found) → found ≡ Some k
      → ((n : ℕ) (rule : Rule) → judge.outcome ≡ outcomes.Broken n rule → ⊥)
      → IsFirstOfBank shape memory records bank (parts.Double bank k)
  first_double found k least is fine = (
    refl,
    λ number rule is. no_rule judge.outcome number rule bank_judged fine
        (bank_outcome shape (bank_part shape bank memory) bank gave judge.step judge.outcome
        bank_is.bank_judged.judged).1 is,
    λ k' lt is'. (subst (IsLeastDouble (numbers_of (of_bank bank records))) is
        (least (of_bank bank records) gave bank_is.bank_judged.ordered)).1 k' lt is'.1,
  )

  pub bank_whole_now : (found : Option ℕ) → ((put gave : List Record) → HasOrdered judge.order put gave →
      IsLeastDouble (numbers_of put) found) → found ≡ None
      → ((n : ℕ) (rule : Rule) → judge.outcome ≡ outcomes.Broken n rule → ⊥) → IsBankWhole shape memory records bank
  bank_whole_now found least none fine = record {
    rules = λ number rule is. no_rule judge.outcome number rule bank_judged fine
        (bank_outcome shape (bank_part shape bank memory) bank gave judge.step judge.outcome
        bank_is.bank_judged.judged).1 is;
    numbers = λ k is. subst (IsLeastDouble (numbers_of (of_bank bank records))) none
        (least (of_bank bank records) gave bank_is.bank_judged.ordered) k is.1;
  }

-- each part is whole
pub all_whole_parts : (shape : Shape) (memory : FlatMemory) (records : List Record) →
    ((port : ℕ) → port < shape.ports → IsPortWhole shape memory records port)
    → ((bank : ℕ) → bank < shape.banks → IsBankWhole shape memory records bank) → NoneBroke shape memory records
all_whole_parts shape memory records ports banks (parts.Port port at rule) is = ports port is.0 at rule is
all_whole_parts shape memory records ports banks (parts.Double bank k) is = (banks bank is.0).numbers k is
all_whole_parts shape memory records ports banks (parts.Bank bank number rule) is =
    (banks bank is.is_bank).rules number rule is

-- what is watched says nothing of how the parts stand
pub stands_watched : (shape : Shape) (memory : FlatMemory) (records : List Record) (s : Standing) (watch : Watch) →
    StandsAfterAll shape memory records s
    → StandsAfterAll shape memory records (record s { watch = watch })
stands_watched shape memory records s watch stands = record {
  fit = stands.fit;
  entered = stands.entered;
  count_banks = stands.count_banks;
  given = stands.given;
  count_given = stands.count_given;
  banks = stands.banks;
}

-- what is known of the first record upon which a part broke stays, whatever record follows
pub watch_stays : (start : ℕ) (shape : Shape) (memory : FlatMemory) (records : List Record) (r : Record)
    (watch : Watch) → ((next : ℕ) → watch ≡ watches.Whole next → ⊥)
    → IsWatch start shape memory records watch → IsWatch start shape memory (records ++ r ∷ []) watch
watch_stays start shape memory records r (watches.Whole next) broke is = absurd (broke next refl)
watch_stays start shape memory records r (watches.First first) broke is = record {
  before = is.before;
  item = is.item;
  after = is.after ++ r ∷ [];
  are = ap (λ (rs : List Record). rs ++ r ∷ []) is.are ∙ append_assoc is.before (is.item ∷ is.after) (r ∷ []);
  place = is.place;
  whole = is.whole;
  broke = is.broke;
}
watch_stays start shape memory records r watches.Unknown broke is = tt

pub if_none : {X : Type 0} {P Q : Type 0} (o : Option X) → IfNone o P → (P → Q) → IfNone o Q
if_none None p f = f p
if_none (Some x) p f = tt
