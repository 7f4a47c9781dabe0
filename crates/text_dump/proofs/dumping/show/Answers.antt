use Rattle.std.proofs.Common.{◌≡◌, Err, rules, string_bytes}
use Rattle.text_dump.specs.declared.fault.DumpFault.TheVariants.{Write}
use Rattle.text_dump.proofs.dumping.show.Goals as goal

pub returns-in_err-put-clause-shown : goal.returns-in_err-put-clause-shown
returns-in_err-put-clause-shown g c bytes shown =
    let is : c.from_residual-in_err-put.result ≡ Err Write = search rules in
    let text : c.as_bytes.result.now ≡ string_bytes c.show.new.self.text = search rules in
    rw is (
      string_bytes c.show.new.self.text,
      c.in_ok-enough.ensures.lines bytes shown,
      rw text at
          c.in_err-put.ensures.prefix,
    )

pub returns-clause-shown : goal.returns-clause-shown
returns-clause-shown g c bytes shown =
    let text : c.as_bytes.result.now ≡ string_bytes c.show.new.self.text = search rules in (
      c.in_ok-enough.ensures.shown bytes shown,
      c.in_ok-enough.ensures.enough bytes shown,
      (
        string_bytes c.show.new.self.text,
        c.in_ok-enough.ensures.lines bytes shown,
        rw text at
            c.in_ok-put.ensures.whole,
      ),
    )
