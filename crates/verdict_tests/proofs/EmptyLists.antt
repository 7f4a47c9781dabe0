-- The jobs of logs that are empty.
use Rattle.std.proofs.Common.{rules, arith, ◌≡◌, ◌≤◌, ◌^◌, ℕ, List, [], zero, suc, length, replicate, sym, ◌∙◌, ap}
use Rattle.std.proofs.Common.{refl}
use Rattle.std.specs.Global.{Vec}
use Rattle.std.specs.List.{All}
use Rattle.std.proofs.lemmas.List.{length-map, get_or-map}
use Rattle.lf_rules.specs.declared.event.Record.{Record}
use Rattle.lf_rules.specs.Lists.{lists_of}
use Rattle.lf_rules.specs.Order.{log_at}
use Rattle.lf_logs.specs.Places.{ArePlacesOfBank}

pub nothing_at : {X : Type 0} (n log : ℕ) → log_at (replicate {A = List X} n []) log ≡ []
nothing_at zero log = refl
nothing_at (suc n) zero = refl
nothing_at (suc n) (suc log) = nothing_at n log

-- as many vectors as lists
pub as_many : {X : Type 0} (vecs : Vec (Vec X)) (n : ℕ) → lists_of vecs ≡ replicate n [] →
    length vecs.items ≡ length (replicate {A = List X} n [])
as_many vecs n same = sym (length-map vecs.items (λ v. v.items)) ∙ ap length same

pub none_long : {X : Type 0} (vecs : Vec (Vec X)) (n : ℕ) → lists_of vecs ≡ replicate n [] →
    All (λ v. length v.items ≤ 2 ^ 24) vecs.items
none_long vecs n same = λ log d below.
    let none = sym (get_or-map (λ v. v.items) vecs.items log d [] below) ∙ ap (λ lists. log_at lists log) same
    ∙ nothing_at n log in
    omega (arith, ap length none)

-- no records are the order of each bank
pub in_order : (bank : ℕ) → ArePlacesOfBank (replicate {A = List Record} 5 []) bank []
in_order bank = record { named = search rules; numbered = record { numbers = refl; same = search rules } }
