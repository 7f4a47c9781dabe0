use Rattle.std.proofs.Common.{◌≡◌, take, ap, ◌∙◌}
use Rattle.lf_codec.specs.declared.stage.Head.{Head}
use Rattle.lf_codec.specs.Steps.{head_at}
use Rattle.lf_codec.specs.Lent.{record_in}
use Rattle.lf_codec.proofs.Again.{head_in, front_long, front_head, front_parts}
use Rattle.lf_codec.proofs.layout.lend_any.Goals as goal

pub split_at-requires : goal.split_at-requires
split_at-requires c =
    front_long c.args.header.now c.args.bytes.now c.requires.begins.0 c.requires.begins.1

pub parts_view-requires-clause-parts : goal.parts_view-requires-clause-parts
parts_view-requires-clause-parts c =
    let h = c.args.header.now in let bytes = c.args.bytes.now in
    let x = c.requires.begins.0 in let front = c.requires.begins.1 in
    let head : c.head_at-head.result ≡ head_in x =
    c.head_at-head.ensures ∙ ap head_at c.split_at.ensures.front ∙ front_head h bytes x front in
    rw (head, c.split_at.ensures.back) (front_parts h bytes x c.requires.range front)

pub returns : goal.returns
returns c =
    let h = c.args.header.now in
    c.parts_view.ensures
    ∙ ap (λ (found : Head). record_in h found c.split_at.result.1.now)
    (c.head_at-head.ensures ∙ ap head_at c.split_at.ensures.front)
    ∙ ap (record_in h (head_at (take 8 c.args.bytes.now))) c.split_at.ensures.back
