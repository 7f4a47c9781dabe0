-- The shares that workers judge.
use Rattle.std.proofs.Common.{◌≡◌, List}
use Rattle.std.specs.Prelude.{Ok}
use Rattle.lf_rules.specs.declared.shape.Shape.{Shape}
use Rattle.lf_rules.specs.declared.event.Record.{Record}
use Rattle.lf_rules.specs.Address.{FlatMemory}
use Rattle.lf_verdict.specs.declared.session.share.Share.{Share}
use Rattle.lf_verdict.specs.declared.session.share.Share.TheVariants as shares
use Rattle.lf_verdict.specs.declared.session.share.ShareKind.TheVariants as kinds
use Rattle.lf_verdict.specs.declared.session.standing.Standing.{Standing}
use Rattle.lf_verdict.specs.Standing.{StandsAfterAll}
use Rattle.lf_verdict.specs.inner.Shares.{AreBanksAt, IsShareAfter, Takes, CanTake, MayFollow}

-- ---- the entries

pub entries_after : (start : Standing) (records : List Record) (new : Share) →
    Takes records (shares.Entries start.entries (Ok tt)) new → IsShareAfter start records kinds.Entries new
entries_after start records new takes = record {
  is = takes.kind;
  keeps = λ is. takes.keeps;
  judged = λ shape memory before stands may. takes.judged shape memory before may stands.entered;
}

-- ---- the banks

banks_stand : (start : Standing) (shape : Shape) (memory : FlatMemory) (before : List Record) →
    StandsAfterAll shape memory before start → AreBanksAt shape memory before start.banks.items
banks_stand start shape memory before stands = record {
  count = stands.count_banks;
  each = λ bank d lt fine. (_, stands.banks bank d lt);
}

pub banks_can_take : (start : Standing) (records : List Record) → MayFollow start records →
    CanTake records (shares.Banks start.banks)
banks_can_take start records m =
    (m.shape, (m.memory, (m.before, (m.may, banks_stand start m.shape m.memory m.before m.stands))))

pub banks_after : (start : Standing) (records : List Record) (new : Share) →
    Takes records (shares.Banks start.banks) new → IsShareAfter start records kinds.Banks new
banks_after start records new takes = record {
  is = takes.kind;
  keeps = λ (is : kinds.Banks ≡ kinds.Entries). absurd (cc);
  judged = λ shape memory before stands may.
      takes.judged shape memory before may (banks_stand start shape memory before stands);
}
