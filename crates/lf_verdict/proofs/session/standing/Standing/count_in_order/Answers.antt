use Rattle.std.proofs.Common.{◌≡◌, ◌+◌, ℕ, List, length, sym, ap, ◌∙◌, subst, arith}
use Rattle.std.proofs.lemmas.Result.{err_from_is_err_and}
use Rattle.std.specs.Global.{Vec}
use Rattle.lf_rules.specs.declared.shape.Shape.{Shape}
use Rattle.lf_rules.specs.declared.event.Record.{Record}
use Rattle.lf_rules.specs.Address.{FlatMemory}
use Rattle.lf_rules.specs.Ring.{skeletons_of}
use Rattle.lf_join.specs.Join as joins
use Rattle.lf_join.specs.Progress.{AreLogs, HasReached}
use Rattle.lf_verdict.specs.declared.session.standing.Standing.{Standing}
use Rattle.lf_verdict.specs.Standing.{StandsAfterAll}
use Rattle.lf_verdict.specs.inner.Coming.{logs_so_far, AreAllKept, IsShort}
use Rattle.lf_verdict.specs.inner.Ending.{AreWholeBelow}
use Rattle.lf_verdict.proofs.Settled.{few_logs, skeletons_short, skeletons_whole}
use Rattle.lf_verdict.proofs.Skeletons.{order_len}
use Rattle.lf_verdict.proofs.Standings.{skeletons_count}
use Rattle.lf_verdict.proofs.session.standing.Standing.count_in_order.Goals as goal

pub returns-in_err-judge_numbers-clause-fault : goal.returns-in_err-judge_numbers-clause-fault
returns-in_err-judge_numbers-clause-fault c shape memory records stands short =
    let p = err_from_is_err_and c.from_residual.result c.from_residual.ensures.1 in
    rw (p.1, p.2) (c.in_err-judge_numbers.ensures.fault shape memory records stands)

pub returns-in_err-judge_rules-clause-fault : goal.returns-in_err-judge_rules-clause-fault
returns-in_err-judge_rules-clause-fault c shape memory records stands short =
    let p = err_from_is_err_and c.from_residual-in_err-judge_rules.result c.from_residual-in_err-judge_rules.ensures.1
    in
    rw (p.1, p.2) (c.in_err-judge_rules.ensures.fault shape memory records stands
    (c.in_ok-judge_numbers.ensures.whole shape memory records stands))

-- the logs so far, once their numbers are whole
module _ (shape : Shape) (memory : FlatMemory) (records : List Record) (s : Standing)
    (stands : StandsAfterAll shape memory records s) (short : IsShort shape records) where
  abbrev skeletons : List (List (ℕ × ℕ))
  skeletons = skeletons_of (logs_so_far shape records)

  are_logs : AreWholeBelow (logs_so_far shape records) shape.banks → AreLogs skeletons
  are_logs whole = record {
    whole = skeletons_whole shape memory records s stands short whole;
    short = skeletons_short shape memory records s stands short;
  }

  are_all_kept : AreAllKept skeletons s.entries
  are_all_kept = record {
    kept = stands.entered.kept;
    few = let few = stands.entered.few in omega (arith, skeletons_count (shape.ports + shape.banks) records);
    short = skeletons_short shape memory records s stands short;
  }

  reached : (left : List (Vec (ℕ × ℕ))) → left ≡ s.entries.logs.items →
      HasReached skeletons s.entries.progress (joins.skeleton_lists left)
  reached left same = subst (λ (ls : List (Vec (ℕ × ℕ))). HasReached skeletons s.entries.progress
      (joins.skeleton_lists ls)) (sym same) stands.entered.kept.left

pub finish-requires-clause-few : goal.finish-requires-clause-few
finish-requires-clause-few c =
    let r = c.requires in
    omega (arith, ap length c.deref.ensures.value, few_logs r.shape r.memory r.records c.args.self.now r.stands r.short)

pub finish-requires-clause-reached : goal.finish-requires-clause-reached
finish-requires-clause-reached c =
    let r = c.requires in
    let s = c.args.self.now in (
      skeletons r.shape r.memory r.records s r.stands r.short,
      are_logs r.shape r.memory r.records s r.stands r.short
          (c.in_ok-judge_numbers.ensures.whole r.shape r.memory r.records r.stands),
      reached r.shape r.memory r.records s r.stands r.short c.deref.result.now c.deref.ensures.value,
    )

pub count-requires : goal.count-requires
count-requires c =
    let r = c.requires in
    let s = c.args.self.now in (
      skeletons r.shape r.memory r.records s r.stands r.short,
      are_all_kept r.shape r.memory r.records s r.stands r.short,
    )

pub returns-in-Ok-clause-order : goal.returns-in-Ok-clause-order
returns-in-Ok-clause-order c shape memory records stands short =
    let s = c.args.self.now in
    let whole = c.in_ok-judge_numbers.ensures.whole shape memory records stands in
    let logs = skeletons shape memory records s stands short in
    let found = c.in-Ok.ensures.order logs (are_logs shape memory records s stands short whole)
    (reached shape memory records s stands short c.deref.result.now c.deref.ensures.value) in
    record {
      parts = c.in_ok-judge_rules.ensures.run shape memory records stands whole;
      order = found.0;
      is_order = found.1;
      count = c.count.ensures logs (are_all_kept shape memory records s stands short)
          ∙ sym (order_len logs found.0 found.1.entries found.1.taken);
    }

pub returns-in-Err-clause-fault : goal.returns-in-Err-clause-fault
returns-in-Err-clause-fault c shape memory records stands short =
    let s = c.args.self.now in
    let whole = c.in_ok-judge_numbers.ensures.whole shape memory records stands in
    let logs = skeletons shape memory records s stands short in
    let are = are_logs shape memory records s stands short whole in
    let left = reached shape memory records s stands short c.deref.result.now c.deref.ensures.value in
    record {
      parts = c.in_ok-judge_rules.ensures.run shape memory records stands whole;
      stuck = c.in-Err.ensures.ring logs are left;
      waits = c.in-Err.ensures.shown logs are left;
    }
