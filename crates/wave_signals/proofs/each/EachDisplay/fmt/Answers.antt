use Rattle.std.proofs.Common.{ℕ, List, Option, Ok, refl, true, subst}
use Rattle.std.proofs.lemmas.Grind.{put_two}
use Rattle.std.specs.Fmt.{DisplaysOnOk}
use Rattle.wave_signals.proofs.Ranges.{each_more}
use Rattle.wave_signals.proofs.each.EachDisplay.fmt.Goals as goal

pub loop-number-preserved : goal.loop-number-preserved
loop-number-preserved g c plain =
    let took = g.W.Write.write_str_gives in
    let so_far = c.loop-number.invariant plain in
    let writes = subst (λ (o : Option (List ℕ)). DisplaysOnOk took c.loop-number.f (Ok c.in_ok-write.field-0) o
    c.write.new.self) c.at-part.ensures c.in_ok-write.ensures.writes in
    put_two took c.args.f.now c.loop-number.f c.write.new.self _ _ _ so_far (writes so_far.plain (refl {a = true}))
    (each_more (g.P.Numbered.text_at c.args.self.now.part) c.loop-number.number)
