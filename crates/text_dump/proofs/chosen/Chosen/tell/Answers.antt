use Rattle.std.proofs.Common.{◌≡◌, ◌++◌, [], ℕ, List, map, ap, append-nil, rules, string_bytes}
use Rattle.std.specs.List.{concat}
use Rattle.text_dump.proofs.Kept.{cut_behind, cut_before, if_err}
use Rattle.text_dump.proofs.chosen.Chosen.tell.Goals as goal

pub returns-in_err-put-clause-prefix : goal.returns-in_err-put-clause-prefix
returns-in_err-put-clause-prefix g c =
    let text : c.as_bytes.result.now ≡ string_bytes c.args.self.now.text = search rules in
    let prefix = rw text at c.in_err-put.ensures.prefix in
    if_err _ _ (cut_before _ _ (string_bytes c.args.self.now.text)
    (concat (map string_bytes c.args.self.now.lines.items)) prefix.0 prefix.1)

pub returns-in_err-put_lines-clause-prefix : goal.returns-in_err-put_lines-clause-prefix
returns-in_err-put_lines-clause-prefix g c =
    let text : c.as_bytes.result.now ≡ string_bytes c.args.self.now.text = search rules in
    let whole = rw text at c.in_ok-put.ensures.whole in
    let prefix = c.in_err-put_lines.ensures.prefix in
    let rest = concat (map string_bytes c.args.self.now.lines.items) in
    if_err _ _ (cut_behind _ _ _ (string_bytes c.args.self.now.text) rest [] _ prefix.0 whole prefix.1
    (ap (λ (l : List ℕ). string_bytes c.args.self.now.text ++ l) (append-nil rest)))
