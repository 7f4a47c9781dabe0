-- What an object says of a verdict.
use Rattle.std.proofs.Common.{ℕ, List, length, codes, ap, ◌∙◌, arith}
use Rattle.serde_json.specs.Data.{string, Members, put}
use Rattle.serde_json.proofs.Views.{get_member-put, get_member-put_other}
use Rattle.explain_json.specs.Answer.{told, IsTextOf, IsAnswer}

-- The line and the word stand there, whatever stands beside them.
pub is_answer : (line word : List ℕ) (others : Members) (text : List ℕ) → IsTextOf (told line word others) text
    → IsAnswer line word text
is_answer line word others text is = record {
  value = told line word others;
  is_text = is;
  line_told =
      get_member-put_other (codes "line") (codes "verdict") (string word) (put (codes "line") (string line) others)
      (λ same. omega (arith, ap length same))
      ∙ get_member-put (codes "line") (string line) others;
  word_told = get_member-put (codes "verdict") (string word) (put (codes "line") (string line) others);
}
