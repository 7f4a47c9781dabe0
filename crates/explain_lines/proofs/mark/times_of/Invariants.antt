-- The first records have their times, and those of each log are counted.
use Rattle.std.proofs.Common.{◌≡◌, ℕ, ◌<◌, get_or, length, map, string_bytes, take}
use Rattle.std.specs.Option.{option_map}
use Rattle.explain_lines.specs.Map.{time_of}
use Rattle.explain_lines.specs.Marks.{count_in, times_of}
use Rattle.explain_lines.proofs.mark.times_of.Given as goal

abbrev pub invariant-loop-place : goal.invariant-loop-place
invariant-loop-place l = record {
  long : length l.counts ≡ 256;
  counts : (log : ℕ) → log < 256 → get_or l.counts log 0 ≡ count_in (take l.place l.records.records) log;
  found : map (option_map string_bytes) l.found.items ≡ times_of (time_of l.times) (take l.place l.records.records);
}
