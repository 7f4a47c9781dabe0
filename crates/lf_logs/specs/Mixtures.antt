-- Lists of the records of logs, in any mixture that keeps each log's order.
use Rattle.std.specs.Prelude.{◌≡◌, List, length}
use Rattle.lf_rules.specs.declared.event.Record.{Record}
use Rattle.lf_rules.specs.Numbers.{all_records}
use Rattle.lf_rules.specs.Run.{NameTheirLogs, Interleaves}
use Rattle.lf_logs.specs.Lists.{logs_of}

-- Log after log is such a mixture.
abbrev pub LogAfterLogIsAMixture : Type 0
LogAfterLogIsAMixture = (logs : List (List Record)) → NameTheirLogs logs → Interleaves logs (all_records logs)

-- Each such mixture has the logs again.
abbrev pub MixturesHaveTheirLogs : Type 0
MixturesHaveTheirLogs = (logs : List (List Record)) (rs : List Record) → Interleaves logs rs →
    logs_of (length logs) rs ≡ logs
