use Rattle.std.proofs.Common.{◌≡◌, Err, rules, string_bytes}
use Rattle.wave_draw.specs.declared.fault.ViewFault.TheVariants.{Write}
use Rattle.wave_draw.proofs.viewing.show.Goals as goal

pub returns-in_err-put-clause-shown : goal.returns-in_err-put-clause-shown
returns-in_err-put-clause-shown g c drawing bytes drawn =
    let is : c.from_residual-in_err-put.result ≡ Err Write = search rules in
    let text : c.as_bytes.result.now ≡ string_bytes c.show.new.self.text = search rules in
    rw is (
      string_bytes c.show.new.self.text,
      c.in_ok-enough.ensures.wave drawing bytes drawn,
      rw text at
          c.in_err-put.ensures.prefix,
    )

pub returns-clause-shown : goal.returns-clause-shown
returns-clause-shown g c drawing bytes drawn =
    let text : c.as_bytes.result.now ≡ string_bytes c.show.new.self.text = search rules in (
      c.in_ok-enough.ensures.drawn drawing bytes drawn,
      c.in_ok-enough.ensures.enough drawing bytes drawn,
      (
        string_bytes c.show.new.self.text,
        c.in_ok-enough.ensures.wave drawing bytes drawn,
        rw text at
            c.in_ok-put.ensures.whole,
      ),
    )
