-- What a text says: a shape, or the first fault.
use Rattle.std.specs.Prelude.{◌≡◌, ℕ, List, Option, Some, None, Result, Ok, Err, string_bytes}
use Rattle.std.specs.Option.{option_map}
use Rattle.toml.specs.Data.{Members}
use Rattle.toml.specs.Parse.{parse_document}
use Rattle.lf_rules.specs.declared.shape.Shape.{Shape}
use Rattle.lf_config.specs.declared.fault.ConfigFault.{ConfigFault}
use Rattle.lf_config.specs.declared.fault.ConfigFault.TheVariants as told
use Rattle.lf_config.specs.declared.key.Key.{Key}
use Rattle.lf_config.specs.Rules.{first_missing, first_misfit, first_out_of_range}
use Rattle.lf_config.specs.Unknown.{first_unknown}
use Rattle.lf_config.specs.Told.{shape_of}

-- a fault of a text
pub data Fault : Type 0 where
  not_toml : Fault
  unknown : List ℕ → Fault
  missing : Key → Fault
  kind : Key → Fault
  range : Key → Fault

-- the fault where there is one, or what comes after
infixr 10 ◌otherwise◌
abbrev pub ◌otherwise◌ : Option Fault → Result Shape Fault → Result Shape Fault
(Some fault) otherwise later = Err fault
None otherwise later = later

-- what a document says
abbrev pub said_by : Members → Result Shape Fault
said_by document =
    option_map unknown (first_unknown document)
    otherwise option_map missing (first_missing document)
    otherwise option_map kind (first_misfit document)
    otherwise option_map range (first_out_of_range document)
    otherwise Ok (shape_of document)

abbrev pub of_document : Option Members → Result Shape Fault
of_document None = Err not_toml
of_document (Some document) = said_by document

-- what a text says
unfoldable pub configuration_of : List ℕ → Result Shape Fault
configuration_of text = of_document (parse_document text)

-- The fault that is told is the one due, unless memory ran out.
abbrev pub Tells : ConfigFault → Result Shape Fault → Type 0
Tells told.NotToml due = due ≡ Err not_toml
Tells (told.Unknown name) due = due ≡ Err (unknown (string_bytes name))
Tells (told.Missing key) due = due ≡ Err (missing key)
Tells (told.Kind key) due = due ≡ Err (kind key)
Tells (told.Range key) due = due ≡ Err (range key)
Tells told.NoMemory due = Unit {0}

-- What is answered is what is due, unless memory ran out.
abbrev pub Answers : Result Shape ConfigFault → Result Shape Fault → Type 0
Answers (Ok shape) due = due ≡ Ok shape
Answers (Err fault) due = Tells fault due
