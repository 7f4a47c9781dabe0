-- What each rule asks, as it is told.
use Rattle.std.specs.Prelude.{ℕ, List, codes}
use Rattle.lf_rules.specs.declared.rule.Rule.{Rule}
use Rattle.lf_rules.specs.declared.rule.Rule.TheVariants as rules

abbrev pub sentence : Rule → List ℕ
sentence rules.TagRange = codes "the tag is below the number of tags of a port"
sentence rules.TagBusy = codes "the tag is not in use"
sentence rules.NotOutstanding = codes "the tag is owed a reply by this bank"
sentence rules.NotReady = codes "the bank has a reply ready for the tag"
sentence rules.ReplySize = codes "the reply has the size of its request"
sentence rules.ReplyData = codes "the reply has the bytes that its request found"
sentence rules.NotHead = codes "the request is the oldest of its port at this bank"
sentence rules.NotPresent = codes "level one has the block"
sentence rules.Present = codes "level one does not have the block"
sentence rules.PrimaryInFlight = codes "no register holds the block"
sentence rules.NotInFlight = codes "a register holds the block"
sentence rules.RegisterRange = codes "the register exists"
sentence rules.WrongRegister = codes "the register is the one that the organisation wants"
sentence rules.RegisterBusy = codes "the register is free"
sentence rules.MergeFull = codes "the register has room for a further target"
sentence rules.NeedlessStall = codes "there is no room for the target"
sentence rules.NotSupplied = codes "level two has supplied the block"
sentence rules.SetFull = codes "the set has a free way"
sentence rules.FillData = codes "the bytes are those of memory, off the bytes of waiting stores"
sentence rules.EvictAbsent = codes "the level has the line"
sentence rules.EvictMask = codes "the mask is the dirty mask of the line"
sentence rules.EvictData = codes "the bytes are those of memory under the mask"
sentence rules.NotAsked = codes "level one has asked for the block"
sentence rules.SecondAbsent = codes "level two has the second-level block"
sentence rules.SecondPresent = codes "level two does not have the second-level block"
sentence rules.NotFetched = codes "a level-two register holds the second-level block"
sentence rules.Inclusion = codes "level one has no line and no register on the second-level block"
sentence rules.FenceBusy = codes "no tag of the port is busy"
