-- A field comes next where it can be read.
use Rattle.std.proofs.Common.{◌≡◌, ℕ, List, Option, Some, None, Result, Ok, Err, refl}
use Rattle.std.specs.Option.{is_some}
use Rattle.std.specs.Result.{is_ok}
use Rattle.text_parse.specs.declared.fault.Lack.{Lack}
use Rattle.text_parse.specs.declared.fault.Name.{Name}
use Rattle.text_parse.specs.Words.{Gives, without_blanks, word_of, without_front}
use Rattle.text_parse.specs.Text.{name_text}
use Rattle.text_parse.specs.Fields.{valued, field_at, is_field}

found : {X : Type 0} (view : X → List ℕ × List ℕ) (name : Name) (text : List ℕ) (value : Option (List ℕ))
    (read : Result X Lack)
    → Gives view read (valued name text value) → is_ok read ≡ is_some value
found view name text (Some value) (Ok x) gives = refl
found view name text (Some value) (Err lack) gives = absurd cc
found view name text None (Ok x) gives = absurd cc
found view name text None (Err lack) gives = refl

pub field_found : {X : Type 0} (read : Result X Lack) (view : X → List ℕ × List ℕ) (name : Name) (text : List ℕ)
    → Gives view read (field_at name text) → is_ok read ≡ is_field name text
unfolding field_at
field_found read view name text gives =
    found view name (without_blanks text) (without_front (name_text name) (word_of (without_blanks text))) read gives
