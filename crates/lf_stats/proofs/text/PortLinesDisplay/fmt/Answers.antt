use Rattle.std.proofs.Common.{ℕ, ◌+◌, ◌<◌, true, List, [], ◌∷◌, ◌++◌, length, take, get_or, refl, sym, ap, ◌∙◌, arith}
use Rattle.std.proofs.lemmas.Grind.{put_two}
use Rattle.std.specs.Prelude.{codes}
use Rattle.std.specs.Fmt.{decimal}
use Rattle.lf_stats.specs.Text.{port_line, lines_from}
use Rattle.lf_stats.proofs.Lines.{lines_next, grouped}
use Rattle.lf_stats.proofs.text.PortLinesDisplay.fmt.Goals as goal

pub loop-port-preserved : goal.loop-port-preserved
loop-port-preserved g c plain =
    let port = c.loop-port.port-counter in
    let ports : List ℕ = c.args.self.now.0.now in
    let unanswered = get_or ports port 0 in
    let lines = lines_from port_line 0 (take port ports) in
    let line = codes "port=" ++ (decimal port ++ (codes " unanswered=" ++ (decimal unanswered ++ 10 ∷ []))) in
    let before = c.loop-port.invariant plain in
    let inside : port < length ports = omega (arith, c.loop-port-test.true) in
    put_two g.W.Write.write_str_gives c.args.f.now c.loop-port.f c.writeln.new.self lines line
    (lines_from port_line 0 (take (port + 1) ports))
    before (c.in_ok-writeln.ensures.writes before.plain (refl {a = true}))
    (ap (λ text. lines ++ text) (sym (grouped (codes "port=") (decimal port) (codes " unanswered=")
    (decimal unanswered) (10 ∷ [])))
    ∙ sym (lines_next port_line ports port 0 inside))
