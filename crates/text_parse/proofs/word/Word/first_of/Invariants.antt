use Rattle.std.proofs.Common.{◌≡◌, drop}
use Rattle.text_parse.specs.Words.{named_in}
use Rattle.text_parse.proofs.word.Word.first_of.Given as goal

abbrev pub invariant-loop-word : goal.invariant-loop-word
invariant-loop-word l = named_in l.text (drop l.word-index l.words) ≡ named_in l.text l.words
