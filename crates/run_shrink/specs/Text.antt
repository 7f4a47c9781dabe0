-- The lines of a search for a smaller trace.
use Rattle.std.specs.Prelude.{ℕ, List, ◌∷◌, ◌++◌, codes}
use Rattle.std.specs.Fmt.{decimal}
use Rattle.lf_verdict.specs.Text.{fault_text}
use Rattle.run_engine.specs.Line.{outcome_text}
use Rattle.run_shrink.specs.declared.shrink.Shrunk.{Shrunk}
use Rattle.run_shrink.specs.declared.shrink.Shrinking.{Shrinking}
use Rattle.run_shrink.specs.declared.shrink.Shrinking.TheVariants as shrinkings
use Rattle.run_shrink.specs.Broken.{fault_of}

-- what was searched for: how many events there were, how many are left, how many traces were judged, and the fault of
-- the trace that was read
abbrev pub search_text : Shrunk → List ℕ
search_text shrunk =
    codes "shrunk events=" ++ decimal shrunk.events ++ codes " to=" ++ decimal shrunk.left ++ codes " checks="
    ++ decimal shrunk.checks ++ codes " was " ++ fault_text (fault_of shrunk.before)

-- the line of the verdict of the smallest trace, and that of the search
abbrev pub shrunk_text : Shrunk → List ℕ
shrunk_text shrunk = codes "no " ++ fault_text (fault_of shrunk.fault) ++ 10 ∷ search_text shrunk

abbrev pub shrinking_text : Shrinking → List ℕ
shrinking_text (shrinkings.Judged outcome) = outcome_text outcome
shrinking_text (shrinkings.Shrunk shrunk) = shrunk_text shrunk
