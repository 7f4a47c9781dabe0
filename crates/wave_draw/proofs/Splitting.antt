-- What one more piece adds to the records that were read.
use Rattle.std.proofs.Common.{◌≡◌, ℕ, List, [], ◌++◌, sym, ap, subst}
use Rattle.lf_codec.specs.declared.reader.Reader.{Reader}
use Rattle.lf_codec.specs.Reader.{HasRead}
use Rattle.lf_codec.specs.Reading.{Reading, reading_of}
use Rattle.text_dump.proofs.Pieces.{all_taken}
use Rattle.wave_order.specs.Left.{HasLeft}
use Rattle.wave_draw.specs.declared.ordering.Split.{Split}
use Rattle.wave_draw.specs.Ordering.{IsSplit}

pub split_now : (bytes piece : List ℕ) (new : Split) (mid : Reader)
    → HasRead mid (bytes ++ piece) (reading_of bytes).memory (reading_of bytes).records
    → new.reader ≡ record mid { memory = []; records = [] }
    → HasLeft new.left [] ((reading_of bytes).records ++ mid.records) → IsSplit new (bytes ++ piece)
split_now bytes piece new mid has taken left = record {
  read = subst (λ (r : Reader). HasRead r (bytes ++ piece) (reading_of (bytes ++ piece)).memory
      (reading_of (bytes ++ piece)).records) (sym taken)
      (all_taken (bytes ++ piece) (reading_of bytes).memory (reading_of bytes).records mid has);
  no_memory = ap (λ (r : Reader). r.memory) taken;
  no_records = ap (λ (r : Reader). r.records) taken;
  left = subst (HasLeft new.left []) (sym (ap (λ (q : Reading). q.records) has.same)) left;
}
