use Rattle.std.proofs.Common.{ℕ, ◌+◌, ◌<◌, true, List, length, take, get_or, refl, sym, arith, Option, None}
use Rattle.std.proofs.lemmas.Grind.{put_two}
use Rattle.lf_stats.specs.Text.{lines_from}
use Rattle.count_usage.specs.Text.{port_line}
use Rattle.lf_stats.proofs.Lines.{lines_next}
use Rattle.count_usage.proofs.text.PortTextsDisplay.fmt.Goals as goal

pub loop-port-preserved : goal.loop-port-preserved
loop-port-preserved g c plain =
    let port = c.loop-port.port in
    let tags : List (Option ℕ) = c.args.self.now.tags.now in
    let line = port_line c.args.self.now.of in
    let highest = get_or tags port None in
    let lines = lines_from line 0 (take port tags) in
    let before = c.loop-port.invariant plain in
    let inside : port < length tags = omega (arith, c.loop-port-test.true) in
    put_two g.W.Write.write_str_gives c.args.f.now c.loop-port.f c.write.new.self lines (line port highest)
    (lines_from line 0 (take (port + 1) tags))
    before (c.in_ok-write.ensures.writes before.plain (refl {a = true}))
    (sym (lines_next line tags port None inside))
