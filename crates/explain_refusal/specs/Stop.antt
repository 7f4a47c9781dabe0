-- Where a text stops to be TOML.
use Rattle.std.specs.Prelude.{◌≡◌, ℕ, ◌≤◌, List, length, Option, Some, None, IsSome}
use Rattle.toml.specs.Parse.{parse_document}
use Rattle.explain_refusal.specs.declared.stop.TomlFault.{TomlFault}

-- A text with such a fault is no TOML, and the place is one of the text. A text without one is TOML.
abbrev pub IsTomlFault : List ℕ → Option TomlFault → Type 0
IsTomlFault text None = IsSome (parse_document text)
IsTomlFault text (Some fault) = (parse_document text ≡ None) × (fault.offset ≤ length text)
