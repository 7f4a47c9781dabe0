use Rattle.std.proofs.Common.{sym, ap, ◌∙◌}
use Rattle.std.proofs.lemmas.Option.{get_or_from_slice_get}
use Rattle.lf_rules.specs.declared.event.Record.{Record}
use Rattle.lf_logs.proofs.Found.{one_inside}
use Rattle.lf_logs.proofs.packed_logs.spot_of.Goals as goal

pub returns-clause-spot : goal.returns-clause-spot
returns-clause-spot c =
    let rs = c.args.records.now.records in
    let one = one_inside rs c.args.at (c.requires.within) in
    let same = get_or_from_slice_get rs c.args.at one.0 one.0 one.1 in
    record {
      item = one.0;
      there = one.1;
      of_bank = sym (c.bank.ensures one.0 ∙ ap (λ (r : Record). r.bank) same);
      numbered = sym (c.number.ensures one.0 ∙ ap (λ (r : Record). r.number) same);
    }
