-- What stands for the fields that a line leaves out: the version, and the next number of each bank.
use Rattle.std.specs.Prelude.{ℕ, ◌+◌, ◌==◌, if◌then◌else◌, replicate, slice_set}
use Rattle.text_parse.specs.declared.line.Line.{Line}
use Rattle.text_parse.specs.declared.line.Line.TheVariants as lines
use Rattle.text_parse.specs.declared.defaults.Defaults.{Defaults}

-- before the first line
abbrev pub starting : ℕ → Defaults
starting version = record { version = version; next = replicate 256 0 }

-- only version 3 has another factor than 1
abbrev pub default_version : Defaults → ℕ → ℕ
default_version defaults factor = if factor == 1 then defaults.version else 3

-- behind this line: a record's number is the last one of its bank
abbrev pub defaults_after : Defaults → Line → Defaults
defaults_after defaults (lines.Event r) = record defaults { next = slice_set defaults.next r.bank (r.number + 1) }
defaults_after defaults line = defaults
