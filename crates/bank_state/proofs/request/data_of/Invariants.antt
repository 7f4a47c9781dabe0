use Rattle.std.proofs.Common.{◌≡◌, take}
use Rattle.arrayvec.specs.ArrayVec.{array_vec_len}
use Rattle.bank_state.proofs.request.data_of.Given as goal

abbrev pub invariant-loop-byte : goal.invariant-loop-byte
invariant-loop-byte l = record {
  copied : l.data.items ≡ take l.byte-index l.bytes;
  count : array_vec_len l.data
      ≡ l.byte-index;
}
