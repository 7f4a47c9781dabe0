use Rattle.std.proofs.Common.{◌≡◌, ◌++◌, ◌∙◌, ℕ, List, map, ap, sym, rules, string_bytes}
use Rattle.std.specs.List.{concat}
use Rattle.text_dump.proofs.Kept.{cut_behind, first_of, if_err}
use Rattle.text_dump.proofs.chosen.put_lines.Goals as goal

pub returns-in_err-put-clause-prefix : goal.returns-in_err-put-clause-prefix
returns-in_err-put-clause-prefix g c =
    let so_far = c.loop-line.invariant in
    let line = c.in-Some.line in
    let text : c.as_bytes.result.now ≡ string_bytes line = search rules in
    let prefix = rw text at c.in_err-put.ensures.prefix in
    let all = ap (λ (l : List ℕ). so_far.done ++ l) (sym (first_of _ _ line c.in-Some.ensures.items)) ∙ so_far.all in
    if_err _ _ (cut_behind _ _ _ so_far.done (string_bytes line)
    (concat (map string_bytes c.pop_front.new.self.items)) _ prefix.0 so_far.out prefix.1 all)
