use Rattle.std.proofs.Common.{sym, ◌∙◌, ap, inl}
use Rattle.lf_codec.specs.Reading.{Reading}
use Rattle.lf_codec.specs.Reader.{with_records}
use Rattle.lf_codec.proofs.Bytes.{read_on-failed}
use Rattle.lf_codec.proofs.reader.Reader.pack_piece.Goals as goal

pub returns-in-Some-clause-read : goal.returns-in-Some-clause-read
returns-in-Some-clause-read c =
    let failed = ap (λ (r : Reading). r.fault) (sym c.self.view_is) ∙ c.in-Some.is in
    inl (inl (sym (read_on-failed c.args.piece.now (with_records c.args.records.now.records c.args.self.now)
    c.in-Some.fault failed)))
