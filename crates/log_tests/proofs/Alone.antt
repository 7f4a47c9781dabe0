-- The bytes of a record alone, in a trace of this one.
use Rattle.std.proofs.Common.{◌≡◌, ℕ, ◌+◌, ◌-◌, ◌≤◌, List, [], ◌∷◌, ◌++◌, length, take, drop, refl, ap, ◌∙◌}
use Rattle.std.proofs.Common.{append_assoc}
use Rattle.std.proofs.Common.{arith}
use Rattle.std.specs.List.{flat_map}
use Rattle.std.proofs.lemmas.List.{take_at, drop_at, length-append, append-nil}
use Rattle.std.proofs.lemmas.List.Concat.{flat_map-cons}
use Rattle.lf_rules.specs.Fits.{Bytes}
use Rattle.lf_rules.specs.declared.event.Record.{Record}
use Rattle.lf_codec.specs.declared.header.Header.{Header}
use Rattle.lf_codec.specs.Layout.{u16_bytes, u32_bytes, header_bytes, memory_bytes, record_bytes, end_bytes, spelling}

length-header : (h : Header) → length (header_bytes h) ≡ 16
unfolding u16_bytes u32_bytes
length-header h = refl

length-end : (count : ℕ) → length (end_bytes count) ≡ 8
unfolding u32_bytes
length-end count = refl

module _ (h : Header) (memory : List (ℕ × Bytes)) (x : Record) (bytes : List ℕ) (none : memory ≡ [])
    (is : bytes ≡ spelling h memory (x ∷ [])) where
  parts : bytes ≡ header_bytes h ++ (record_bytes x ++ end_bytes 1)
  parts =
      is
      ∙ ap (λ (m : List (ℕ × Bytes)). header_bytes h ++ flat_map memory_bytes m ++ flat_map record_bytes (x ∷ [])
      ++ end_bytes 1) none
      ∙ ap (λ (t : List ℕ). t ++ flat_map record_bytes (x ∷ []) ++ end_bytes 1) (append-nil (header_bytes h))
      ∙ ap (λ (t : List ℕ). header_bytes h ++ t ++ end_bytes 1)
      (flat_map-cons record_bytes x [] ∙ append-nil (record_bytes x))
      ∙ append_assoc (header_bytes h) (record_bytes x) (end_bytes 1)

  len : length bytes ≡ 16 + length (record_bytes x) + 8
  len = omega (
    arith,
    ap length parts,
    length-append (header_bytes h) (record_bytes x ++ end_bytes 1),
    length-append (record_bytes x) (end_bytes 1),
    length-header h,
    length-end 1,
  )

  pub long : 16 ≤ length bytes - 8
  long = omega (arith, len)

  pub alone : take (length bytes - 8 - 16) (drop 16 bytes) ≡ record_bytes x
  alone =
      ap (λ (t : List ℕ). take (length bytes - 8 - 16) (drop 16 t)) parts
      ∙ ap (take (length bytes - 8 - 16))
      (drop_at (header_bytes h) (record_bytes x ++ end_bytes 1) 16 (length-header h))
      ∙ take_at (record_bytes x) (end_bytes 1) (length bytes - 8 - 16) (omega (arith, len))
