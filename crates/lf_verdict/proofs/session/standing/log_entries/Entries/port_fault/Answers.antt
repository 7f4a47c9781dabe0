use Rattle.std.proofs.Common.{get_or, ap, ◌∙◌, arith}
use Rattle.lf_verdict.proofs.Breaks.{port_whole}
use Rattle.lf_verdict.proofs.session.standing.log_entries.Entries.port_fault.Goals as goal

pub returns-in_default : goal.returns-in_default
returns-in_default c = record {
  some = λ shape records entered. tt;
  none = λ shape records entered memory.
      let e = c.args.self.now in
      let judge = c.index.result.now in
      port_whole shape records e entered c.args.log judge (c.index.ensures
      ∙ ap (λ n. get_or e.ports.items n judge) c.from-port.ensures)
      (omega (arith, c.from-port.ensures, c.len.ensures, entered.count_ports, c.if-port-len.false)) memory
      c.in_default.not-Broken;
  port = tt;
}
