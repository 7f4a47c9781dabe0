use Rattle.std.proofs.Common.{◌≤◌, ℕ, List, length, ◌∙◌, subst, rules}
use Rattle.lf_codec.specs.Reader.{HasRead}
use Rattle.explain_why.proofs.Taken.{up_to}
use Rattle.explain_why.proofs.parts.read_all.Goals as goal

pub loop-at-preserved : goal.loop-at-preserved
loop-at-preserved c =
    let bytes = c.args.bytes.now in
    let fed = c.in_ok-feed.ensures _ _ _ c.loop-at.invariant.taken.read in
    let read = c.in_ok-take_records.ensures.taken _ _ (c.in_ok-take_memory.ensures.taken _ _ fed) in
    let within : c.min-end.result ≤ length bytes = search rules in
    let le : c.loop-at.at ≤ c.min-end.result = search rules in
    record {
      within = within;
      taken = record {
        read = subst (λ (fed : List ℕ). HasRead c.take_records.new.reader fed c.take_memory.new.memory.items
            c.take_records.new.records.items) (up_to bytes c.loop-at.at c.min-end.result le) read;
        no_memory = c.take_records.ensures.memory ∙ c.in_ok-take_memory.ensures.none;
        no_records = c.in_ok-take_records.ensures.none;
      };
    }
