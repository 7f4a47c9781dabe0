-- What an answer in JSON says.
use Rattle.std.specs.Prelude.{◌≡◌, ℕ, Bool, true, false, List, [], ◌∷◌, ◌++◌, Some, codes}
use Rattle.json.specs.Lex.{tokens}
use Rattle.json.specs.Print.{print}
use Rattle.lf_verdict.specs.declared.answer.Outcome.{Outcome}
use Rattle.lf_verdict.specs.declared.answer.Outcome.TheVariants.{Yes, No, Refused}
use Rattle.serde_json.specs.Data.{Data, string, object, Members, put}
use Rattle.serde_json.specs.Find.{get}
use Rattle.serde_json.specs.Written.{IsInOrder, has_float, compact_text}

-- the word that an answer begins with: that of the verdict, and "no" where a legal trace is not complete
abbrev pub word_of : Outcome → Bool → List ℕ
word_of (Yes events) true = codes "yes"
word_of (Yes events) false = codes "no"
word_of (No fault) complete = codes "no"
word_of (Refused refusal) complete = codes "refused"

-- an object with the line of a verdict and its word
abbrev pub told : List ℕ → List ℕ → Members → Data
told line word others =
    object (put (codes "verdict") (string word) (put (codes "line") (string line) others))

-- The text is the value as JSON with no space, and then one newline.
pub record IsTextOf (value : Data) (text : List ℕ) : Type 0 where
  pub json : List ℕ
  pub ends : text ≡ json ++ 10 ∷ []
  pub compact : json ≡ print (tokens json)
  pub tells : IsInOrder json value
  pub exact : has_float value ≡ false → json ≡ compact_text value

-- The text is an object with this line and this word of the verdict.
pub record IsAnswer (line word text : List ℕ) : Type 0 where
  pub value : Data
  pub is_text : IsTextOf value text
  pub line_told : get (codes "line") value ≡ Some (string line)
  pub word_told : get (codes "verdict") value ≡ Some (string word)
