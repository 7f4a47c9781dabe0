use Rattle.std.proofs.Common.{◌≡◌, ◌+◌, ◌++◌, length, subst, arith}
use Rattle.std.proofs.lemmas.List.{length-append}
use Rattle.lf_rules.specs.declared.event.Event.{Event}
use Rattle.lf_codec.specs.Layout.{u32_bytes, fixed_bytes, data_of}
use Rattle.lf_codec.proofs.Numbers.{length-u32_bytes}
use Rattle.lf_codec.specs.Lengths.{fixed_len}
use Rattle.lf_codec.proofs.FixedParts.{fixed_bytes_len}
use Rattle.lf_codec.proofs.len.view_len.Goals as goal

pub returns-clause-len : goal.returns-clause-len
returns-clause-len c =
    let r = c.args.item.now in
    omega (
      arith,
      subst (λ (e : Event). c.event_len.result ≡ fixed_len e + length (data_of e)) c.event.ensures.shown
          c.event_len.ensures.len,
      length-append (u32_bytes r.number ++ fixed_bytes r.event) (data_of r.event),
      length-append (u32_bytes r.number) (fixed_bytes r.event),
      length-u32_bytes r.number,
      fixed_bytes_len r.event,
    )
