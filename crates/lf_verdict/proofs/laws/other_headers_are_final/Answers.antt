use Rattle.lf_verdict.proofs.Finals.{other_final}
use Rattle.lf_verdict.proofs.laws.other_headers_are_final.Goals as goal

pub returns : goal.returns
returns c = other_final c.exact_reading.ensures c.header_of_bytes.ensures
