use Rattle.std.proofs.Common.{ℕ, List, string_bytes, IfOk, subst}
use Rattle.std.proofs.lemmas.Result.{IfOk-weaker}
use Rattle.serde_json.specs.View.{members_view}
use Rattle.explain_json.specs.Answer.{IsAnswer}
use Rattle.explain_json.proofs.Answering.{is_answer}
use Rattle.explain_json.proofs.answer.explained_json.Goals as goal

pub returns : goal.returns
returns c =
    subst (λ (word : List ℕ). IfOk c.answer_text.result
    (λ text. IsAnswer c.args.answer.now.line.now word (string_bytes text))) c.word_of-word.ensures
    (IfOk-weaker c.answer_text.result _ _ (λ text is.
    is_answer _ _ (members_view c.match-answer.object.members.entries) _ is) c.answer_text.ensures)
