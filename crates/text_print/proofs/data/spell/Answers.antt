use Rattle.std.proofs.Common.{subst, sym}
use Rattle.std.specs.Str.{IsUtf8}
use Rattle.text_print.proofs.Digits.{digits_are_text, from_ok}
use Rattle.text_print.proofs.data.spell.Goals as goal

pub unreachable-requires : goal.unreachable-requires
unreachable-requires c =
    let written = from_ok c.encode_to_slice.result (c.encode_to_slice.ensures.fits.1 c.requires)
    c.encode_to_slice.ensures.written in
    c.in-Err.ensures.cases.0 (subst IsUtf8 (sym written) (digits_are_text c.args.bytes.now))
