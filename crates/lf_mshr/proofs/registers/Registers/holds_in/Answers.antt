use Rattle.std.proofs.Common.{◌≡◌, Bool, true, false, refl, eq-eqb, ◌&&◌, ◌==◌, slice_index, ◌∙◌, sym, arith}
use Rattle.std.proofs.lemmas.List.{get_or_default}
use Rattle.lf_rules.specs.Address.{is_under}
use Rattle.lf_mshr.specs.Places.{held_of}
use Rattle.lf_mshr.proofs.Indexed.{holds_in-is}
use Rattle.lf_mshr.proofs.registers.Registers.holds_in.Goals as goal

pub returns-then-index-block : goal.returns-then-index-block
returns-then-index-block g c =
    let file = c.args.self.now in
    let long = file.index.long in
    let read : c.index.result.now ≡ slice_index file.blocks.items c.args.register = c.index.ensures
    ∙ get_or_default file.blocks.items c.args.register c.index.result.now 0 (omega (arith, c.requires, long)) in
    let same : (slice_index file.blocks.items c.args.register == c.args.block) ≡ true =
    eq-eqb (slice_index file.blocks.items c.args.register) c.args.block (sym read ∙ c.if-index-block.true) in
    c.has_bit.ensures ∙ own (is_under file.used c.args.register)
    (slice_index file.blocks.items c.args.register == c.args.block) same
    ∙ holds_in-is file.registers file.used file.blocks.items (held_of file.places.order) file.index c.args.register
    c.args.block c.requires
  where
    own : (a b : Bool) → b ≡ true → a ≡ (a && b)
    own true b e = sym e
    own false b e = refl
