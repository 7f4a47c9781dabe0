use Rattle.std.proofs.Common.{◌≡◌, ℕ, [], List, Option, map, sym, ap, ◌∙◌, string_bytes}
use Rattle.std.specs.Option.{option_map}
use Rattle.std.specs.Borrow.{Bor}
use Rattle.explain_lines.specs.declared.times.Times.{Times}
use Rattle.explain_lines.specs.Map.{time_of}
use Rattle.explain_lines.specs.Marks.{besides_in, besides_of, told_by, offsets_of, times_of}
use Rattle.explain_lines.proofs.Marking.{with_times, without_times}
use Rattle.explain_lines.proofs.mark.marks_of.Goals as goal
use Rattle.explain_lines.proofs.mark.marks_of.Goals.{in-Some+in_ok-times-in-Some, in-None}

pub returns : goal.returns
returns c fits =
    let rs = c.args.records.now.records in
    let start = c.args.start in
    let texts : List (Option (List ℕ)) = map (option_map string_bytes) c.match-times.times.items in
    let offsets = ap (λ (os : List ℕ). besides_in os texts) (c.in_ok-offsets.ensures fits) in
    elim c.match-times.branch [
      | in-Some+in_ok-times-in-Some w ↦
          let times : texts ≡ times_of (time_of w.in-Some.times.now) rs =
          rw w.times-is w.in_ok-times-in-Some.ensures in
          offsets
          ∙ ap (besides_in (offsets_of start rs)) times
          ∙ with_times (time_of w.in-Some.times.now) start rs
          ∙ ap (λ (t : Option (Bor Times)). besides_of (told_by t) start rs) (sym w.in-Some.is)
      | in-None w ↦
          let times : texts ≡ [] = rw w.times-is (ap (map (option_map string_bytes)) w.new-times.ensures.items) in
          offsets
          ∙ ap (besides_in (offsets_of start rs)) times
          ∙ without_times start rs
          ∙ ap (λ (t : Option (Bor Times)). besides_of (told_by t) start rs) (sym w.in-None.is)
    ]
