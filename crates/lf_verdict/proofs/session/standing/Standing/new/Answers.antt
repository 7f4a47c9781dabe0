use Rattle.std.proofs.Common.{◌+◌, ℕ, List, [], sym, ◌∙◌, subst, arith}
use Rattle.std.specs.Prelude.{replicate}
use Rattle.lf_rules.specs.declared.event.Record.{Record}
use Rattle.lf_rules.specs.Address.{flat_memory}
use Rattle.lf_join.specs.Join.{skeleton_lists}
use Rattle.lf_join.specs.Progress.{HasReached}
use Rattle.lf_replay.specs.Bytes.{bank_part}
use Rattle.std.proofs.Common.{get_or}
use Rattle.lf_verdict.specs.Standing.{IsBankSettled}
use Rattle.lf_verdict.proofs.Opened.{no_entries, nothing_at, length-nothing}
use Rattle.lf_verdict.proofs.session.standing.Standing.new.Goals as goal

pub returns-clause-stands : goal.returns-clause-stands
returns-clause-stands c =
    let shape = c.args.shape.now in
    let none = no_entries 0 (shape.ports + shape.banks) in
    record {
      fit = tt;
      entered = record {
        few = let ports = c.requires.ports.1 in let banks = c.requires.banks.1 in omega arith;
        kept = record {
          left = subst (λ (ls : List (List (ℕ × ℕ))). HasReached ls c.new.result
              (skeleton_lists c.in_ok-logs.logs.items)) none
              (subst (HasReached (replicate (shape.ports + shape.banks) []) c.new.result)
              (sym c.in_ok-logs.ensures) (c.new.ensures (shape.ports + shape.banks)));
          all = λ is. c.in_ok-logs.ensures ∙ none;
        };
        count_ports = c.in_ok-ports.ensures.count;
        ports = c.in_ok-ports.ensures.each;
      };
      count_banks = c.in_ok-banks.ensures.count;
      given = replicate {A = List Record} shape.banks [];
      count_given = length-nothing Record shape.banks;
      banks = λ bank d lt.
          subst (λ (gave : List Record). IsBankSettled shape
          (bank_part shape bank (flat_memory c.args.memory.now.items)) bank [] gave
          (get_or c.in_ok-banks.banks.items bank d))
          (sym (nothing_at {X = Record} shape.banks bank)) (c.in_ok-banks.ensures.each bank d lt);
    }

pub returns-clause-watched : goal.returns-clause-watched
returns-clause-watched c = c.first_watch.ensures.watch c.args.shape.now (flat_memory c.args.memory.now.items)
