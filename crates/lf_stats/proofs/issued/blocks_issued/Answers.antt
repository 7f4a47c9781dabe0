use Rattle.std.proofs.Common.{◌≡◌, ℕ, ◌/◌, List, [], ◌∷◌, ◌++◌, map, length, take, set, get_or, eqb, sym, ap, ◌∙◌}
use Rattle.std.proofs.Common.{arith}
use Rattle.std.specs.List.{cons_option}
use Rattle.std.specs.Global.{Vec}
use Rattle.std.proofs.lemmas.List.{length-set}
use Rattle.lf_rules.specs.Address.{block_of}
use Rattle.lf_rules.specs.Lists.{lists_of}
use Rattle.lf_logs.specs.Places.{records_at}
use Rattle.trace_views.specs.Views.{event_of}
use Rattle.lf_stats.specs.Statistics.{issued, block_issued}
use Rattle.lf_stats.proofs.Blocks.{block_if, not_issue, issued_same, issued_new, placed}
use Rattle.lf_stats.proofs.issued.blocks_issued.Goals as goal
use Rattle.lf_stats.proofs.issued.blocks_issued.Goals.{in-Issue+in_ok-push, in_default}

pub loop-place-preserved : goal.loop-place-preserved
loop-place-preserved g c =
    let logs = g.L.LogRecords.lists c.args.logs.now in
    let places = c.args.places.now in
    let at = c.loop-place.place-index in
    let item = c.lend.new.room in
    let vecs : List (Vec ℕ) = c.loop-place.lists.items in
    elim c.match-event.branch [
      | in-Issue+in_ok-push w ↦
          let log = w.from-in-Issue.result in
          let own : log ≡ item.log = w.from-in-Issue.ensures ∙ w.log.ensures in
          let event_is = sym c.event.ensures.shown ∙ ap event_of w.in-Issue.is in
          let block = w.in-Issue.address / w.from.result in
          let is : block ≡ block_of c.args.shape.now w.in-Issue.address =
          ap (λ n. w.in-Issue.address / n) w.from.ensures in
          let pushed : w.push.new.self.items ≡ w.index_mut.result.now.items ++ block ∷ [] =
          w.in_ok-push.ensures.items in
          let changed : c.match-event.lists.items ≡ set vecs log w.push.new.self =
          ap (λ (v : Vec (Vec ℕ)). v.items) w.lists-is in
          record {
            len = ap length changed ∙ length-set vecs log w.push.new.self ∙ c.loop-place.invariant.len;
            issued = λ port h.
                ap (λ (vs : List (Vec ℕ)). get_or (map (λ (v : Vec ℕ). v.items) vs) port []) changed
                ∙ placed vecs log w.index_mut.result.now w.push.new.self block w.index_mut.ensures.value pushed
                (omega (arith, c.loop-place.invariant.len)) port
                ∙ ap (λ xs. xs ++ cons_option (block_if (eqb log port) block) []) (c.loop-place.invariant.issued port h)
                ∙ ap (λ n. issued c.args.shape.now port (records_at logs (take at places))
                ++ cons_option (block_if (eqb n port) block) []) own
                ∙ ap (λ b. issued c.args.shape.now port (records_at logs (take at places))
                ++ cons_option (block_if (eqb item.log port) b) []) is
                ∙ sym (issued_new c.args.shape.now logs places at item c.loop-place-test.true c.lend.ensures
                port _ _ _ _ _ event_is);
          }
      | in_default w ↦ record {
        len = ap (λ (v : Vec (Vec ℕ)). length v.items) w.lists-is ∙ c.loop-place.invariant.len;
        issued = λ port h.
            ap (λ (v : Vec (Vec ℕ)). get_or (lists_of v) port []) w.lists-is ∙ c.loop-place.invariant.issued port h
            ∙ sym (issued_same c.args.shape.now logs places at item c.loop-place-test.true c.lend.ensures port
            (ap (block_issued c.args.shape.now) (sym c.event.ensures.shown)
            ∙ not_issue c.args.shape.now c.event.result.now
            (λ op tag size address bytes e. w.in_default.not-Issue op tag size address bytes e)));
      }
    ]
