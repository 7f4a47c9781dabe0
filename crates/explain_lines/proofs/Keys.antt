-- One more time in a map.
use Rattle.std.proofs.Common.{◌≡◌, ℕ, Bool, true, false, ◌&&◌, Option, Some, refl, ap, ◌∙◌}
use Rattle.std.proofs.Common.{String, string_bytes, arith, cond}
use Rattle.std.proofs.lemmas.Bool.Decides.{nat_tests}
use Rattle.std.specs.BTreeMap.{BTreeMap, get, is_at}
use Rattle.std.specs.Global.{Global}
use Rattle.std.specs.Option.{option_map}
use Rattle.std.specs.Prelude.{◌==◌, if◌then◌else◌}
use Rattle.explain_lines.specs.Map.{place_cmp, time_at}

same_place : (a b n p : ℕ) → is_at (place_cmp (a, b)) (n, p) ≡ (a == n && b == p)
same_place a b n p = grind (arith, nat_tests)

chosen : (t : Bool) (time : String Global) (old : Option (String Global))
    → option_map string_bytes (cond t (Some time) old)
    ≡ (if t then Some (string_bytes time) else option_map string_bytes old)
chosen true time old = refl
chosen false time old = refl

pub put_at : (old new : BTreeMap (ℕ × ℕ) (String Global)) (number place : ℕ) (time : String Global) (n p : ℕ)
    → get place_cmp new (n, p) ≡ cond (is_at (place_cmp (number, place)) (n, p)) (Some time) (get place_cmp old (n, p))
    → time_at new n p ≡ (if number == n && place == p then Some (string_bytes time) else time_at old n p)
put_at old new number place time n p h =
    ap (option_map string_bytes) h
    ∙ chosen (is_at (place_cmp (number, place)) (n, p)) time (get place_cmp old (n, p))
    ∙ ap (λ (t : Bool). if t then Some (string_bytes time) else time_at old n p) (same_place number place n p)
