-- Words and the text behind them, as std cuts them off.
use Rattle.std.proofs.Common.{◌≡◌, ℕ, List, [], length}
use Rattle.std.proofs.Common.{sym, arith}
use Rattle.std.proofs.Math.ListN.{drop_of_length-le}
use Rattle.std.proofs.lemmas.List.{take_all}
use Rattle.std.specs.List.{position_or_len}
use Rattle.explain_lines.specs.Stamp.{is_blank, word_of, after_word}

-- a text without a blank is one word
pub one_word : (text : List ℕ) → position_or_len is_blank text ≡ length text → text ≡ word_of text
one_word text whole = sym (take_all (position_or_len is_blank text) text (omega (arith, whole)))

pub nothing_behind : (text : List ℕ) → position_or_len is_blank text ≡ length text → after_word text ≡ []
nothing_behind text whole = drop_of_length-le text (omega (arith, whole))
