use Rattle.std.proofs.Common.{◌≡◌, ◌<◌, ◌≤◌, ◌+◌, ◌++◌, ◌∷◌, [], List, length, get_or, set, sym, ap, ◌∙◌, subst, arith}
use Rattle.std.proofs.lemmas.List.{length-set}
use Rattle.std.specs.Global.{Vec}
use Rattle.lf_rules.specs.Ring.{skeletons_of}
use Rattle.lf_rules.specs.Run.{of_log}
use Rattle.lf_logs.specs.Lists.{logs_of}
use Rattle.lf_verdict.specs.declared.session.standing.port_judge.PortJudge.{PortJudge}
use Rattle.lf_verdict.specs.Standing.{IsPortJudged}
use Rattle.lf_verdict.specs.inner.Coming.{HasLog}
use Rattle.lf_verdict.proofs.Standings.{has_log, log_inside, same_entry, entered_more, ports_more, ports_same}
use Rattle.lf_verdict.proofs.Standings.{port_before}
use Rattle.lf_verdict.proofs.session.standing.log_entries.Entries.enter.Goals as goal

pub keep-requires : goal.keep-requires
keep-requires c =
    let r = c.requires in
    subst (λ n. HasLog n c.args.self.now) (sym c.log-log.ensures)
    (has_log r.shape r.records c.args.self.now r.entered c.args.item.now r.may)

pub returns-then-port-len-clause-entered : goal.returns-then-port-len-clause-entered
returns-then-port-len-clause-entered c shape records may stands =
    let s = c.args.self.now in
    let item = c.args.item.now in
    let judge = c.take.new.self in
    let same = c.in_ok-keep.ensures.ports in
    let at : c.from-port.result ≡ item.log = c.from-port.ensures ∙ c.log-log.ensures in
    let own : item.log < shape.ports = omega (
      arith,
      c.log-log.ensures,
      c.from-port.ensures,
      c.len.ensures,
      ap (λ (ps : Vec PortJudge). length ps.items) same,
      stands.count_ports,
      c.if-port-len.true,
    ) in
    let ports : set c.keep.new.self.ports.items c.from-port.result judge ≡ set s.ports.items item.log judge =
    ap (λ n. set c.keep.new.self.ports.items n judge) at
    ∙ ap (λ (ps : Vec PortJudge). set ps.items item.log judge) same in
    let before = port_before shape records s stands item may c.from-port.result c.index_mut.result.now
    at (c.index_mut.ensures.value
    ∙ ap (λ (ps : Vec PortJudge). get_or ps.items c.from-port.result c.index_mut.result.now) same)
    (omega (arith, at, own)) in
    let here = c.take.ensures shape item.log (of_log item.log records)
    (c.place_of-at.ensures shape records may stands) before in
    let logs = skeletons_of (logs_of (shape.ports + shape.banks) records) in
    let kept = entered_more shape records s stands item may c.keep.new.self
    (same_entry logs c.keep.new.self c.log-log.ensures c.bank.ensures c.number.ensures
    (c.in_ok-keep.ensures.kept logs (omega (arith, c.log-log.ensures, log_inside shape records s stands item may))
    stands.kept)) in
    record {
      few = stands.few;
      kept = record { left = kept.left; all = kept.all };
      count_ports = ap length ports ∙ length-set s.ports.items item.log judge ∙ stands.count_ports;
      ports = λ port d lt. subst (λ (js : List PortJudge). IsPortJudged shape port
          (of_log port (records ++ item ∷ [])) (get_or js port d)) (sym ports)
          (ports_more shape records item s.ports.items judge stands.count_ports stands.ports own here port d lt);
    }

pub returns-else-port-len-clause-entered : goal.returns-else-port-len-clause-entered
returns-else-port-len-clause-entered c shape records may stands =
    let s = c.args.self.now in
    let item = c.args.item.now in
    let same = c.in_ok-keep.ensures.ports in
    let logs = skeletons_of (logs_of (shape.ports + shape.banks) records) in
    let past : shape.ports ≤ item.log = omega (
      arith,
      c.log-log.ensures,
      c.from-port.ensures,
      c.len.ensures,
      ap (λ (ps : Vec PortJudge). length ps.items) same,
      stands.count_ports,
      c.if-port-len.false,
    ) in
    record {
      few = stands.few;
      kept = entered_more shape records s stands item may c.keep.new.self
          (same_entry logs c.keep.new.self c.log-log.ensures c.bank.ensures c.number.ensures
          (c.in_ok-keep.ensures.kept logs (omega (
            arith,
            c.log-log.ensures,
            log_inside shape records s stands item
                may,
          )) stands.kept));
      count_ports = ap (λ (ps : Vec PortJudge). length ps.items) same ∙ stands.count_ports;
      ports = λ port d lt. subst (λ (ps : Vec PortJudge). IsPortJudged shape port
          (of_log port (records ++ item ∷ [])) (get_or ps.items port d)) (sym same)
          (ports_same shape records item s.ports.items stands.ports past port d lt);
    }
