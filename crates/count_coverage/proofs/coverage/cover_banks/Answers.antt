use Rattle.std.proofs.Common.{◌≡◌, ℕ, subst, arith}
use Rattle.count_coverage.specs.Coverage.{AreOfBanks}
use Rattle.count_coverage.proofs.coverage.cover_banks.Goals as goal

pub cover_bank-requires-clause-whole : goal.cover_bank-requires-clause-whole
cover_bank-requires-clause-whole g c = c.requires.whole c.loop-bank.bank c.loop-bank-test.true

pub returns : goal.returns
returns g c =
    let all : c.loop-bank.bank ≡ c.args.shape.now.banks = omega arith in
    subst
    (λ (n : ℕ). AreOfBanks c.args.shape.now (g.L.LogRecords.lists c.args.logs.now) n c.loop-bank.tallies.items) all
    c.loop-bank.invariant
