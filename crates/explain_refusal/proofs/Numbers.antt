-- A number of several bytes in two halves.
use Rattle.std.proofs.Common.{◌≡◌, ℕ, ◌+◌, ◌*◌, List, ap, arith, get_or}
use Rattle.std.proofs.lemmas.List.{get_or-drop}
use Rattle.lf_codec.specs.Checks.{u16_at, u32_at, u64_at}

pub halves_of_four : (bytes : List ℕ) (i : ℕ) → u16_at i bytes + 65536 * u16_at (i + 2) bytes ≡ u32_at i bytes
unfolding u16_at u32_at
halves_of_four bytes i =
    omega (
      arith,
      get_or-drop i bytes 0 0,
      get_or-drop i bytes 1 0,
      get_or-drop i bytes 2 0,
      get_or-drop i bytes 3 0,
      get_or-drop (i + 2) bytes 0 0,
      get_or-drop (i + 2) bytes 1 0,
      ap (λ n. get_or bytes n 0) (let e : i + 2 + 0 ≡ i + 2 = omega arith in e),
      ap (λ n. get_or bytes n 0) (let e : i + 2 + 1 ≡ i + 3 = omega arith in e),
    )

pub halves_of_eight : (bytes : List ℕ) (i : ℕ) → u32_at i bytes + 4294967296 * u32_at (i + 4) bytes ≡ u64_at i bytes
unfolding u32_at u64_at
halves_of_eight bytes i =
    omega (
      arith,
      get_or-drop i bytes 0 0,
      get_or-drop i bytes 1 0,
      get_or-drop i bytes 2 0,
      get_or-drop i bytes 3 0,
      get_or-drop i bytes 4 0,
      get_or-drop i bytes 5 0,
      get_or-drop i bytes 6 0,
      get_or-drop i bytes 7 0,
      get_or-drop (i + 4) bytes 0 0,
      get_or-drop (i + 4) bytes 1 0,
      get_or-drop (i + 4) bytes 2 0,
      get_or-drop (i + 4) bytes 3 0,
      ap (λ n. get_or bytes n 0) (let e : i + 4 + 0 ≡ i + 4 = omega arith in e),
      ap (λ n. get_or bytes n 0) (let e : i + 4 + 1 ≡ i + 5 = omega arith in e),
      ap (λ n. get_or bytes n 0) (let e : i + 4 + 2 ≡ i + 6 = omega arith in e),
      ap (λ n. get_or bytes n 0) (let e : i + 4 + 3 ≡ i + 7 = omega arith in e),
    )
