-- When a fill and an eviction are refused.
use Rattle.std.specs.Prelude.{◌≡◌, ◌≢◌, ℕ, Bool, true, false, unwrap_or}
use Rattle.lf_levels.specs.declared.fault.LineFault.{LineFault}
use Rattle.lf_levels.specs.declared.fault.LineFault.TheVariants.{SetFull, EvictAbsent, EvictMask}
use Rattle.lf_rules.specs.Address.{Masks}
use Rattle.lf_rules.specs.Lines.{line_at, has_line, dirty_mask, dirty_masks, same_masks}
use Rattle.lf_levels.specs.LineTable.{LineTable, is_full}

-- a fill is refused for a full set alone
abbrev pub FillRefusal : {M : Type 0} → (ℕ → ℕ → ℕ → ℕ → ℕ) → LineTable M → ℕ → LineFault → Type 0
FillRefusal set table block SetFull = is_full set table block ≡ true
FillRefusal set table block EvictAbsent = ⊥
FillRefusal set table block EvictMask = ⊥

-- an eviction is refused where there is no such line, and otherwise where its mask is not the line's
abbrev pub EvictRefusal : LineTable ℕ → ℕ → ℕ → LineFault → Type 0
EvictRefusal table block mask EvictAbsent = has_line table.lines block ≡ false
EvictRefusal table block mask EvictMask = (has_line table.lines block ≡ true) × (mask ≢ dirty_mask table.lines block)
EvictRefusal table block mask SetFull = ⊥

-- the same of level two, where one of the masks is not the line's
abbrev pub WideEvictRefusal : LineTable Masks → ℕ → Masks → LineFault → Type 0
WideEvictRefusal table second masks EvictAbsent = has_line table.lines second ≡ false
WideEvictRefusal table second masks EvictMask = (has_line table.lines second ≡ true) ×
    (same_masks table.factor masks (dirty_masks table.lines second) ≡ false)
WideEvictRefusal table second masks SetFull = ⊥

-- The same of either level: the test says whether the mask is this that is dirty of the line.
abbrev pub TakeOutRefusal : {M : Type 0} → (M → Bool) → M → LineTable M → ℕ → LineFault → Type 0
TakeOutRefusal same clean table block EvictAbsent = has_line table.lines block ≡ false
TakeOutRefusal same clean table block EvictMask = (has_line table.lines block ≡ true) ×
    (same (unwrap_or (line_at table.lines block) clean) ≡ false)
TakeOutRefusal same clean table block SetFull = ⊥
