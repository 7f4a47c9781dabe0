-- What a bank of any two organisations is seen as.
use Rattle.lf_replay.specs.declared.any_bank.AnyBank.{AnyBank}
use Rattle.lf_replay.specs.declared.any_bank.AnyBank.TheVariants as any
use Rattle.lf_replay.specs.declared.any_bank.SecondBank.{SecondBank}
use Rattle.lf_replay.specs.declared.any_bank.SecondBank.TheVariants as second
use Rattle.bank_events.specs.BankView.{BankView}

abbrev pub second_view_of : {O1 File1 : Type 0} → SecondBank O1 File1 → BankView
second_view_of (second.Implicit bank) = bank
second_view_of (second.Explicit bank) = bank
second_view_of (second.Inverted bank) = bank

abbrev pub view_of : AnyBank → BankView
view_of (any.Implicit bank) = second_view_of bank
view_of (any.Explicit bank) = second_view_of bank
view_of (any.Inverted bank) = second_view_of bank
