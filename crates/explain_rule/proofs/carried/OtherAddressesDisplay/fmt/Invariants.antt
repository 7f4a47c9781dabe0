-- What has been written since the loop began is the addresses so far.
use Rattle.std.proofs.Common.{take}
use Rattle.std.specs.Fmt.{HasWritten, IsPlainFormatter}
use Rattle.explain_rule.specs.Carried.{other_addresses}
use Rattle.explain_rule.proofs.carried.OtherAddressesDisplay.fmt.Given as goal

abbrev pub invariant-loop-address : goal.invariant-loop-address
invariant-loop-address g l =
    IsPlainFormatter l.initial.f
    → HasWritten g.W.Write.write_str_gives l.initial.f
    (other_addresses l.self.others.now (take l.address-index l.self.addresses.now)) l.f
