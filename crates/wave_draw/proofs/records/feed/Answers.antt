use Rattle.std.proofs.Common.{◌++◌, ◌≢◌, rules, refl}
use Rattle.lf_codec.specs.declared.fault.CodecCause.TheVariants.{NoMemory}
use Rattle.lf_codec.specs.Reader.{fault_in}
use Rattle.text_dump.proofs.Faults.{stands, unless_out}
use Rattle.wave_draw.proofs.records.feed.Goals as goal

pub returns-in_default : goal.returns-in_default
returns-in_default c =
    let f = fault_in c.in-Err.told in
    let other : f.cause ≢ NoMemory = search rules in
    record {
      read = λ bytes memory records has.
          unless_out c.feed.new.self (bytes ++ c.args.piece.now) memory records f
          (c.feed.ensures.pieces bytes memory records has)
          (c.in-Err.ensures.refused bytes memory records has).failed other;
      enough = λ bytes memory records has. (
        λ _.
            stands c.fault_so_far.ensures.other (bytes ++ c.args.piece.now) memory records c.feed.new.self f
            (unless_out c.feed.new.self (bytes ++ c.args.piece.now) memory records f
            (c.feed.ensures.pieces bytes memory records has)
            (c.in-Err.ensures.refused bytes memory records has).failed other)
            (c.in-Err.ensures.refused bytes memory records has).failed,
        λ _. refl,
      );
    }
