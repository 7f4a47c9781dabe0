-- One more record, point or port.
use Rattle.std.proofs.Common.{◌≡◌, ℕ, zero, suc, ◌+◌, ◌<◌, ◌≤◌, Bool, true, false, cond, List, [], ◌∷◌, ◌++◌, map}
use Rattle.std.proofs.Common.{length, take, get_or, sym, ap, ◌∙◌, arith, add-one}
use Rattle.std.proofs.Common.{Option, Some, Result, Ok, Err, append_assoc}
use Rattle.std.specs.Prelude.{OnOk}
use Rattle.std.specs.List.{slice_get, filter, flat_map, range_with_len}
use Rattle.std.proofs.lemmas.List.{take_more, map-append, flat_map_more}
use Rattle.std.proofs.lemmas.List.Elements.{filter-append}
use Rattle.std.proofs.lemmas.List.FromFn.{map-range_with_len_more}
use Rattle.lf_rules.specs.declared.shape.Shape.{Shape}
use Rattle.lf_rules.specs.declared.event.Record.{Record}
use Rattle.lf_stats.specs.Statistics.{held_count}
use Rattle.count_coverage.specs.declared.point.BankPoint.{BankPoint}
use Rattle.count_coverage.specs.Sights.{sight}
use Rattle.count_coverage.specs.Points.{reaches, reaches_at, reaches_next, reached}

bit_le : (b : Bool) → cond {A = ℕ} b 1 0 ≤ 1
bit_le true = omega arith
bit_le false = omega arith

pub reached_le : (shape : Shape) (rs : List Record) (point : BankPoint) (n : ℕ) → reached shape rs point n ≤ n
reached_le shape rs point zero = omega arith
reached_le shape rs point (suc n) =
    let here = bit_le (reaches_next shape rs point n) in
    omega (arith, here, reached_le shape rs point n)

pub reached_at : (shape : Shape) (rs : List Record) (point : BankPoint) (n : ℕ) (r : Record) → slice_get rs n ≡ Some r
    → reached shape rs point (n + 1)
    ≡ reached shape rs point n + cond (reaches shape point (held_count shape rs n) (held_count shape rs (n + 1))
    (sight shape rs n) r.event) 1 0
reached_at shape rs point n r e =
    ap (reached shape rs point) (add-one n)
    ∙ ap (λ (o : Option Record). reached shape rs point n + cond {A = ℕ}
    (reaches_at shape point (held_count shape rs n) (held_count shape rs (suc n)) (sight shape rs n) o) 1 0) e
    ∙ ap (λ (k : ℕ). reached shape rs point n + cond {A = ℕ}
    (reaches shape point (held_count shape rs n) (held_count shape rs k) (sight shape rs n) r.event) 1 0)
    (sym (add-one n))

-- ---- a list to which one more is added, or a list of more

module _ {Y : Type 0} (before now after : List Y) where
  pub more_pushed : (more next : List Y) → now ≡ before ++ more → after ≡ now ++ next → after ≡ before ++ (more ++ next)
  more_pushed more next e p = p ∙ ap (λ zs. zs ++ next) e ∙ append_assoc before more next

  -- the value of one more element
  pub mapped_next : {X : Type 0} (f : X → Y) (xs : List X) (n : ℕ) (d : X) (y : Y) → n < length xs
      → now ≡ before ++ map f (take n xs) → after ≡ now ++ y ∷ [] → y ≡ f (get_or xs n d) →
      after ≡ before ++ map f (take (n + 1) xs)
  mapped_next f xs n d y inside e p is =
      more_pushed (map f (take n xs)) (y ∷ []) e p
      ∙ ap (λ z. before ++ (map f (take n xs) ++ z ∷ [])) is
      ∙ ap (λ zs. before ++ zs) (sym (ap (map f) (take_more xs n d inside)
      ∙ map-append f (take n xs) (get_or xs n d ∷ [])))

  module _ {X : Type 0} (f : X → Y) where
    -- the value of one more element, where it is kept
    pub kept_next : (p : X → Bool) (xs : List X) (n : ℕ) (d : X) → n < length xs
        → now ≡ before ++ map f (filter p (take n xs)) → after ≡ now ++ map f (filter p (get_or xs n d ∷ []))
        → after ≡ before ++ map f (filter p (take (n + 1) xs))
    kept_next p xs n d inside e q =
        more_pushed (map f (filter p (take n xs))) (map f (filter p (get_or xs n d ∷ []))) e q
        ∙ ap (λ zs. before ++ zs) (sym (ap (λ ys. map f (filter p ys)) (take_more xs n d inside)
        ∙ ap (map f) (filter-append p (take n xs) (get_or xs n d ∷ []))
        ∙ map-append f (filter p (take n xs)) (filter p (get_or xs n d ∷ []))))

    -- the value of one more number, where it is kept
    pub kept_more : (p : X → Bool) (g : ℕ → X) (n : ℕ)
        → now ≡ before ++ map f (filter p (map g (range_with_len 0 n))) → after ≡ now ++ map f (filter p (g n ∷ []))
        → after ≡ before ++ map f (filter p (map g (range_with_len 0 (n + 1))))
    kept_more p g n e q =
        more_pushed (map f (filter p (map g (range_with_len 0 n)))) (map f (filter p (g n ∷ []))) e q
        ∙ ap (λ zs. before ++ zs) (sym (ap (λ ys. map f (filter p ys)) (map-range_with_len_more g 0 n n (omega arith))
        ∙ ap (map f) (filter-append p (map g (range_with_len 0 n)) (g n ∷ []))
        ∙ map-append f (filter p (map g (range_with_len 0 n))) (filter p (g n ∷ []))))

    -- the values of one more list
    pub flattened_next : {Z : Type 0} (g : Z → List X) (zs : List Z) (n : ℕ) (d : Z) → n < length zs
        → now ≡ before ++ map f (flat_map g (take n zs)) → after ≡ now ++ map f (g (get_or zs n d))
        → after ≡ before ++ map f (flat_map g (take (n + 1) zs))
    flattened_next g zs n d inside e q =
        more_pushed (map f (flat_map g (take n zs))) (map f (g (get_or zs n d))) e q
        ∙ ap (λ ys. before ++ ys) (sym (ap (λ ys. map f (flat_map g ys)) (take_more zs n d inside)
        ∙ ap (map f) (sym (flat_map_more g [] (take n zs) (get_or zs n d)))
        ∙ map-append f (flat_map g (take n zs)) (g (get_or zs n d))))

    -- two lists, one after the other
    pub both : (xs ys : List X) → now ≡ before ++ map f xs → after ≡ now ++ map f ys
        → after ≡ before ++ map f (xs ++ ys)
    both xs ys e q = more_pushed (map f xs) (map f ys) e q ∙ ap (λ zs. before ++ zs) (sym (map-append f xs ys))

-- ---- a result

pub on_ok : {T E : Type 0} {A B : Type 0} (r : Result T E) → (A → B) → OnOk r A → OnOk r B
on_ok (Ok x) f a = f a
on_ok (Err e) f a = tt
