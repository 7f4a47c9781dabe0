-- A block, or none, as one number.
use Rattle.std.specs.Prelude.{◌≡◌, ℕ, zero, suc, Option, Some, None}
use Rattle.std.proofs.Common.{refl}

-- the key of this code: none where it is 0, and otherwise the number below it
abbrev pub key_of_code : ℕ → Option ℕ
key_of_code zero = None
key_of_code (suc block) = Some block

abbrev pub code_of_key : Option ℕ → ℕ
code_of_key None = 0
code_of_key (Some block) = suc block

-- no two codes are of one key
pub code_again : (code : ℕ) → code_of_key (key_of_code code) ≡ code
code_again zero = refl
code_again (suc block) = refl
