-- How many records name a bank, one record after another.
use Rattle.std.proofs.Common.{◌≡◌, ℕ, ◌+◌, ◌<◌, Bool, true, false, ◌==◌, List, ◌∷◌, length, get_or, drop, ap}
use Rattle.std.proofs.Common.{◌∙◌, if◌then◌else◌, arith}
use Rattle.std.proofs.lemmas.List.{drop_more}
use Rattle.lf_rules.specs.declared.event.Record.{Record}
use Rattle.lf_rules.specs.Run.{of_bank}
use Rattle.explain_history.proofs.Records.{no_record}

-- one record, by whether it names the bank
count_one : (bank : ℕ) (r : Record) (rs : List Record) (b : Bool) → (r.bank == bank) ≡ b
    → length (of_bank bank (r ∷ rs)) ≡ (if b then 1 else 0) + length (of_bank bank rs)
count_one bank r rs true is = rw is (omega arith)
count_one bank r rs false is = rw is (omega arith)

pub count_from : (bank : ℕ) (rs : List Record) (k : ℕ) (b : Bool) → k < length rs
    → ((get_or rs k no_record).bank == bank) ≡ b
    → length (of_bank bank (drop k rs)) ≡ (if b then 1 else 0) + length (of_bank bank (drop (k + 1) rs))
count_from bank rs k b lt is =
    ap (λ (xs : List Record). length (of_bank bank xs)) (drop_more rs k no_record lt)
    ∙ count_one bank (get_or rs k no_record) (drop (k + 1) rs) b is
