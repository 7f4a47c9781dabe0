use Rattle.std.proofs.Common.{◌≡◌, ℕ, length, rules, subst}
use Rattle.run_stream.specs.Counted.{account_of}
use Rattle.run_stream.specs.Gathered.{IsAllRead}
use Rattle.text_dump.specs.Dump.{HasFault, piece_len}
use Rattle.lf_codec.specs.Reading.{reading_of}
use Rattle.wave_draw.specs.Ordering.{IsOrdered}
use Rattle.wave_draw.proofs.ordering.order_of_no.Goals as goal

pub returns-in-Ok-order_to : goal.returns-in-Ok-order_to
returns-in-Ok-order_to g c =
    let told = c.in-Ok-gather.ensures in
    let piece : length c.as_mut_slice.result.now ≡ piece_len = search rules in
    let old = account_of g.R.Read.remaining c.args.reader.now in
    let new = account_of g.R.Read.remaining c.gather.new.source in
    let ordered : IsOrdered c.args.times.now c.args.sought old new c.in-Ok-order_to.front = record {
      bytes = told.all.0;
      all = subst (λ (n : ℕ). IsAllRead HasFault n old new told.all.0) piece told.all.2;
      order = c.in-Ok-order_to.ensures (reading_of told.all.0).records told.all.1.left;
    } in
    search (rules, ordered)
