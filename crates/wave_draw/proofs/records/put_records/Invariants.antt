-- What was drawn and what is still to draw are the whole wave.
use Rattle.std.proofs.Common.{◌≡◌, ◌+◌, ◌++◌, length, string_bytes}
use Rattle.wave_signals.specs.Wave.{drawn_after, wave_from}
use Rattle.wave_draw.proofs.records.put_records.Given as goal

abbrev pub invariant-loop-item : goal.invariant-loop-item
invariant-loop-item l = record {
  reader : l.reader ≡ record l.initial.reader { records = l.reader.records };
  shown : string_bytes l.text ++ wave_from l.times l.wave l.reader.records ≡ string_bytes l.initial.text
      ++ wave_from l.times l.initial.wave l.initial.reader.records;
  wave : drawn_after l.wave l.reader.records ≡ drawn_after l.initial.wave l.initial.reader.records;
  place : l.wave.place + length l.reader.records ≡ l.initial.wave.place + length l.initial.reader.records;
}

abbrev pub decreases-loop-item : goal.decreases-loop-item
decreases-loop-item l = length l.reader.records
