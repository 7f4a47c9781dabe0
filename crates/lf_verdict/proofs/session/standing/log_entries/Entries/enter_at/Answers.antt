use Rattle.std.proofs.Common.{◌≡◌, ◌≤◌, ◌+◌, ◌++◌, ◌∷◌, [], ℕ, Result, Ok, Err, length, get_or, ap, sym, ◌∙◌, subst}
use Rattle.std.proofs.Common.{arith}
use Rattle.std.specs.Global.{Vec}
use Rattle.std.specs.Result.{OnOk}
use Rattle.lf_rules.specs.declared.event.Record.{Record}
use Rattle.lf_rules.specs.Ring.{skeletons_of}
use Rattle.lf_rules.specs.Run.{of_log}
use Rattle.lf_logs.specs.Lists.{logs_of}
use Rattle.lf_join.specs.Progress.{with_entry}
use Rattle.lf_verdict.specs.declared.session.standing.port_judge.PortJudge.{PortJudge}
use Rattle.lf_verdict.specs.Standing.{AreKept, IsPortJudged}
use Rattle.lf_verdict.specs.inner.Coming.{HasLog}
use Rattle.lf_verdict.proofs.Standings.{has_log, log_inside, entered_more, ports_same}
use Rattle.lf_verdict.proofs.session.standing.log_entries.Entries.enter_at.Goals as goal

on_ok : {T E P Q : Type 0} (r : Result T E) → (P → Q) → OnOk r P → OnOk r Q
on_ok (Ok x) f p = f p
on_ok (Err e) f p = tt

pub keep-requires : goal.keep-requires
keep-requires c =
    let item = c.requires.next.0 in
    let is = c.requires.next.1.0 in
    let can = c.requires.next.1.1 in
    subst (λ n. HasLog n c.args.self.now) (ap (λ (x : Record). x.log) is ∙ sym (c.log-log.ensures item))
    (has_log can.shape can.records c.args.self.now can.entered item can.may)

pub returns-clause-entered : goal.returns-clause-entered
returns-clause-entered c shape records item is may stands =
    let s = c.args.self.now in
    let log : c.log-log.result ≡ item.log = c.log-log.ensures item ∙ sym (ap (λ (x : Record). x.log) is) in
    let bank : c.bank.result ≡ item.bank = c.bank.ensures item ∙ sym (ap (λ (x : Record). x.bank) is) in
    let number : c.number.result ≡ item.number = c.number.ensures item ∙ sym (ap (λ (x : Record). x.number) is) in
    let entry : ◌≡◌ {A = ℕ × ℕ} (c.bank.result, c.number.result) (item.bank, item.number) =
    ap (λ n. (n, c.number.result)) bank ∙ ap (λ n. (item.bank, n)) number in
    let same = c.keep.ensures.ports in
    let logs = skeletons_of (logs_of (shape.ports + shape.banks) records) in
    let past : shape.ports ≤ item.log =
    omega (arith, log, c.from.ensures, c.len.ensures, stands.count_ports, c.if-from-len.false) in
    on_ok c.keep.result
    (λ kept. record {
      few = stands.few;
      kept = entered_more shape records s stands item may c.keep.new.self
          (subst (λ n. AreKept (with_entry logs n (item.bank, item.number)) c.keep.new.self) log
          (subst (λ (x : ℕ × ℕ). AreKept (with_entry logs c.log-log.result x) c.keep.new.self) entry kept));
      count_ports = ap (λ (ps : Vec PortJudge). length ps.items) same ∙ stands.count_ports;
      ports = λ port d lt. subst (λ (ps : Vec PortJudge). IsPortJudged shape port
          (of_log port (records ++ item ∷ [])) (get_or ps.items port d)) (sym same)
          (ports_same shape records item s.ports.items stands.ports past port d lt);
    })
    (c.keep.ensures.kept logs (omega (arith, log, log_inside shape records s stands item may)) stands.kept)
