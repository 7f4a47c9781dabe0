use Rattle.std.proofs.Common.{ℕ, List, ap, ◌∙◌}
use Rattle.lf_codec.specs.Packed.{slice_of}
use Rattle.lf_codec.proofs.Again.{begin_alone}
use Rattle.lf_codec.proofs.Packing.{stands_in}
use Rattle.lf_codec.proofs.packed.Packed.lend_view.Goals as goal

pub lend_any-requires-clause-begins : goal.lend_any-requires-clause-begins
lend_any-requires-clause-begins c =
    let s = c.self.inside in let f = c.in-Spelled in
    let here = stands_in c.args.self.now s.header s.bytes.items s.forms.items c.args.at c.index.result.now
    f.start f.len c.slice_of.result.now c.self.view_is c.self.invariant c.requires c.index.ensures f.is
    (c.slice_of.ensures ∙ ap (λ (xs : List ℕ). slice_of xs f.start f.len) c.deref.ensures.value) in
    (here.one.item, begin_alone s.header c.slice_of.result.now here.one)

pub returns-in-Spelled : goal.returns-in-Spelled
returns-in-Spelled c d =
    let s = c.self.inside in let f = c.in-Spelled in
    let here = stands_in c.args.self.now s.header s.bytes.items s.forms.items c.args.at c.index.result.now
    f.start f.len c.slice_of.result.now c.self.view_is c.self.invariant c.requires c.index.ensures f.is
    (c.slice_of.ensures ∙ ap (λ (xs : List ℕ). slice_of xs f.start f.len) c.deref.ensures.value) in
    c.lend_any.ensures ∙ here.is d
