use Rattle.std.proofs.Common.{◌≡◌, ◌<◌, ◌++◌, ◌∷◌, [], length, rules}
use Rattle.text_dump.proofs.Kept.{keeps_newest}
use Rattle.text_dump.proofs.chosen.Chosen.keep.Goals as goal

pub returns-then-len-most-clause-kept : goal.returns-then-len-most-clause-kept
returns-then-len-most-clause-kept c lines so_far =
    let pushed : c.push_back.new.self.items ≡ c.args.self.now.lines.items ++ c.in_ok-text.text ∷ [] = search rules in
    let many : c.args.most < length c.push_back.new.self.items = search rules in
    keeps_newest c.args.most c.args.self.now.lines.items c.push_back.new.self.items c.pop_front.new.self.items
    c.in_ok-text.text lines _ c.in_ok-text.ensures pushed
    c.pop_front.ensures.rest many so_far
