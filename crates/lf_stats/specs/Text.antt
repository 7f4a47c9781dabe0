-- The lines of statistics.
use Rattle.std.specs.Prelude.{ℕ, ◌+◌, List, [], ◌∷◌, ◌++◌, codes}
use Rattle.std.specs.Fmt.{decimal}
use Rattle.lf_stats.specs.declared.counts.BankStats.{BankStats}
use Rattle.lf_stats.specs.declared.counts.Stats.{Stats}

abbrev pub bank_text : BankStats → List ℕ
bank_text counts =
    codes "hits=" ++ decimal counts.hits ++ codes " primary=" ++ decimal counts.primary ++ codes " merges="
    ++ decimal counts.merges
    ++ codes " stalls=" ++ decimal counts.stalls ++ codes " peak=" ++ decimal counts.peak

-- each line ends with a newline
abbrev pub bank_line : ℕ → BankStats → List ℕ
bank_line bank counts = codes "bank=" ++ decimal bank ++ codes " " ++ bank_text counts ++ 10 ∷ []

abbrev pub port_line : ℕ → ℕ → List ℕ
port_line port unanswered = codes "port=" ++ decimal port ++ codes " unanswered=" ++ decimal unanswered ++ 10 ∷ []

-- the line of each, numbered from here on
abbrev pub lines_from : {X : Type 0} → (ℕ → X → List ℕ) → ℕ → List X → List ℕ
lines_from line number [] = []
lines_from line number (x ∷ xs) = line number x ++ lines_from line (number + 1) xs

-- a line for each bank, then one for each port
abbrev pub stats_text : Stats → List ℕ
stats_text stats = lines_from bank_line 0 stats.banks.items ++ lines_from port_line 0 stats.unanswered.items
