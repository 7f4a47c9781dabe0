-- The records at some places, one more.
use Rattle.std.proofs.Common.{◌≡◌, ℕ, ◌+◌, ◌<◌, List, [], ◌∷◌, ◌++◌, length, get_or, take, Option, None, refl, sym, ap}
use Rattle.std.proofs.Common.{◌∙◌, append_assoc, append-nil}
use Rattle.std.specs.Prelude.{option_to_list}
use Rattle.std.proofs.lemmas.List.{take_more}
use Rattle.lf_rules.specs.declared.event.Record.{Record}
use Rattle.explain_history.specs.BankOrder.{records_at}
use Rattle.explain_history.specs.Touching.{record_at}

pub records_append : (rs : List Record) (xs ys : List (Option ℕ)) →
    records_at rs (xs ++ ys) ≡ records_at rs xs ++ records_at rs ys
records_append rs [] ys = refl
records_append rs (at ∷ xs) ys =
    ap (λ (zs : List Record). option_to_list (record_at rs at) ++ zs) (records_append rs xs ys)
    ∙ sym (append_assoc (option_to_list (record_at rs at)) (records_at rs xs) (records_at rs ys))

-- with the record at one place more
pub taken_more : (rs : List Record) (places : List (Option ℕ)) (i : ℕ) (o : Option Record) → i < length places →
    record_at rs (get_or places i None) ≡ o
    → records_at rs (take (i + 1) places) ≡ records_at rs (take i places) ++ option_to_list o
taken_more rs places i o lt here =
    ap (records_at rs) (take_more places i None lt) ∙ records_append rs (take i places) (get_or places i None ∷ [])
    ∙ ap (λ (zs : List Record). records_at rs (take i places) ++ zs)
    (append-nil (option_to_list (record_at rs (get_or places i None))) ∙ ap option_to_list here)
