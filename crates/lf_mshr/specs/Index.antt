-- What a word and arrays say of what the registers of a file hold: which are in use, by which block and by how many
-- targets, and the bytes that their stores write.
use Rattle.std.specs.Prelude.{◌≡◌, ℕ, ◌+◌, ◌*◌, ◌<◌, ◌≤◌, Bool, true, false, ◌==◌}
use Rattle.std.specs.Prelude.{◌&&◌, nat_le, nat_lt, List, length, slice_index, count_by, filter, bit_or}
use Rattle.std.specs.List.{list_all, list_any, fold}
use Rattle.lf_rules.specs.declared.mask.Mask.{Mask}
use Rattle.lf_rules.specs.Address.{is_under}
use Rattle.lf_rules.specs.Registers.{Held, holds_in}
use Rattle.lf_mshr.specs.Places.{held_of}
use Rattle.lf_mshr.specs.RegisterFile.{store_mask}

pub record IsIndexed {T : Type 0} (registers used : ℕ) (blocks : List ℕ) (held : List (Held T)) : Type 0 where
  pub long : length blocks ≡ registers
  pub word : registers ≤ 64
  pub in_use : (r : ℕ) → r < registers → is_under used r ≡ list_any (λ h. h.register == r) held
  pub no_others : (r : ℕ) → registers ≤ r → r < 64 → is_under used r ≡ false
  pub of_block : (r block : ℕ) → r < registers → holds_in held r block ≡ true → slice_index blocks r ≡ block

pub record IsCounted {T : Type 0} (registers : ℕ) (counts : List ℕ) (held : List (Held T)) : Type 0 where
  pub long : length counts ≡ registers
  pub counted : (r : ℕ) → r < registers → slice_index counts r ≡ count_by (λ h. h.register == r) held

-- what a register holds
abbrev pub held_in : {T : Type 0} → List (Held T) → ℕ → List (Held T)
held_in held register = filter (λ h. h.register == register) held

module _ {T : Type 0} (is_store : T → Bool) (bytes : T → Mask) where
  -- the bytes that the stores among these write
  abbrev pub stored_bytes : List (Held T) → ℕ
  stored_bytes held = fold (λ mask h. bit_or mask (store_mask is_store bytes h.target)) 0 held

  -- each register has the bytes that its stores write
  pub record IsStored (registers : ℕ) (stores : List ℕ) (held : List (Held T)) : Type 0 where
    pub long : length stores ≡ registers
    pub stored : (r : ℕ) → r < registers → slice_index stores r ≡ stored_bytes (held_in held r)

-- is each place in its register's row of entries, among those that the register uses?
abbrev pub are_in_rows : {T : Type 0} → ℕ → List (ℕ × Held T) → Bool
are_in_rows entries order =
    list_all (λ q. nat_le (q.1.register * entries) q.0
    && nat_lt q.0 (q.1.register * entries + count_by (λ h. h.register == q.1.register) (held_of order))) order
