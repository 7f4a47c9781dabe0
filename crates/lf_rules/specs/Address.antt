-- Where a byte lies, and the bytes of a block under a mask.
use Rattle.std.specs.Prelude.{◌≡◌, ℕ, ◌+◌, ◌-◌, ◌*◌, ◌/◌, ◌%◌, ◌^◌, Bool, true, ◌||◌, ◌==◌, if◌then◌else◌}
use Rattle.std.specs.Prelude.{List, [], ◌∷◌, length, map, filter, take, drop, slice_index, slice_index_or}
use Rattle.std.specs.List.{range_with_len, list_all, flat_map}
use Rattle.std.specs.Int.{bit_at}
use Rattle.arrayvec.specs.ArrayVec.{ArrayVec}
use Rattle.lf_rules.specs.declared.mask.Mask.{Mask}
use Rattle.lf_rules.specs.declared.shape.Shape.{Shape}

-- what a record has for a bank where it names none
abbrev pub no_bank : ℕ
no_bank = 255

abbrev pub block_of : Shape → ℕ → ℕ
block_of shape address = address / shape.block

abbrev pub offset_of : Shape → ℕ → ℕ
offset_of shape address = address % shape.block

-- the second-level block of a block, and which of its sub-blocks the block is
abbrev pub second_of : Shape → ℕ → ℕ
second_of shape block = block / shape.factor

abbrev pub place_of : Shape → ℕ → ℕ
place_of shape block = block % shape.factor

-- the sub-blocks of a second-level block, by their places
abbrev pub sub_block : Shape → ℕ → ℕ → ℕ
sub_block shape second place = second * shape.factor + place

abbrev pub places : Shape → List ℕ
places shape = range_with_len 0 shape.factor

-- a block and its second-level block have one bank
abbrev pub bank_of : Shape → ℕ → ℕ
bank_of shape block = second_of shape block % shape.banks

-- the set of a block in level one: the blocks of a bank, counted in order, go round the sets
abbrev pub set1_of : ℕ → ℕ → ℕ → ℕ → ℕ
set1_of banks factor sets block = (block / factor / banks * factor + block % factor) % sets

-- the set of a second-level block in level two
abbrev pub set2_of : ℕ → ℕ → ℕ → ℕ
set2_of banks sets second = second / banks % sets

-- Memory is flat: the byte of each block at each place.
abbrev pub FlatMemory : Type 0
FlatMemory = ℕ → ℕ → ℕ

-- the memory that a trace names: blocks by their numbers, all others zero
abbrev pub flat_memory : List (ℕ × ArrayVec ℕ) → FlatMemory
flat_memory [] block place = 0
flat_memory (m ∷ memory) block place = if m.0 == block then slice_index m.1.items place else flat_memory memory block
    place

abbrev pub block_bytes : Shape → FlatMemory → ℕ → List ℕ
block_bytes shape memory block = map (memory block) (range_with_len 0 shape.block)

-- the bytes of a second-level block
abbrev pub wide_bytes : Shape → FlatMemory → ℕ → List ℕ
wide_bytes shape memory second = flat_map (λ place. block_bytes shape memory (sub_block shape second place))
    (places shape)

-- the bytes of the sub-block at a place, where blocks have so many bytes
abbrev pub part_at : ℕ → List ℕ → ℕ → List ℕ
part_at size bytes place = take size (drop (place * size) bytes)

-- the mask of a request: a bit for each byte
abbrev pub mask_of : ℕ → ℕ → ℕ
mask_of offset size = (2 ^ size - 1) * 2 ^ offset

abbrev pub is_under : ℕ → ℕ → Bool
is_under mask place = bit_at mask place == 1

-- each byte of the other mask is one of this
abbrev pub Covers : ℕ → ℕ → Type 0
Covers mask other = (i : ℕ) → is_under other i ≡ true → is_under mask i ≡ true

-- of so many bytes, equal at each whose bit is clear
abbrev pub agree_off : ℕ → List ℕ → List ℕ → ℕ → Bool
agree_off size xs ys mask = list_all (λ i. is_under mask i || slice_index xs i == slice_index ys i)
    (range_with_len 0 size)

-- the bytes whose bit is set, rising
abbrev pub masked : List ℕ → ℕ → List ℕ
masked xs mask = map (slice_index xs) (filter (is_under mask) (range_with_len 0 (length xs)))

-- a mask for each block of a second-level block
abbrev pub Masks : Type 0
Masks = ArrayVec Mask

abbrev pub clean_mask : Mask
clean_mask = record { 0 = 0 }

abbrev pub mask_at : Masks → ℕ → ℕ
mask_at masks place = (slice_index_or masks.items place clean_mask).0

-- the bytes of a second-level block whose bit is set, block by block
abbrev pub wide_masked : Shape → FlatMemory → ℕ → Masks → List ℕ
wide_masked shape memory second masks =
    flat_map (λ place. masked (block_bytes shape memory (sub_block shape second place)) (mask_at masks place))
    (places shape)

-- new where the bit is set, old elsewhere
abbrev pub overlay : (ℕ → ℕ) → (ℕ → ℕ) → ℕ → ℕ → ℕ
overlay old new mask place = if is_under mask place then new place else old place
