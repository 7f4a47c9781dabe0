-- Items that pass a test, while they are moved to the front of their list.
use Rattle.std.proofs.Common.{◌≡◌, ℕ, ◌+◌, ◌<◌, ◌≤◌, Bool, true, false, cond, List, [], ◌∷◌, ◌++◌, length, take}
use Rattle.std.proofs.Common.{drop, filter, get_or, set, length-set, sym, ap, ◌∙◌, arith}
use lib.Seq.{drop-set-lt, get_or-drop, take-set-le}
use Rattle.std.proofs.lemmas.List.{take_more_set, append-nil}
use Rattle.std.proofs.lemmas.List.Elements.{filter_more}
use Rattle.std.proofs.lemmas.Grind.{drop_more_same}

module _ {X : Type 0} (p : X → Bool) where
  -- Of the items before this place those that pass stand in front, and those from it on stand where they stood.
  pub record AreMoved (old now : List X) (at kept : ℕ) : Type 0 where
    pub long : length now ≡ length old
    pub within : kept ≤ at
    pub front : take kept now ≡ filter p (take at old)
    pub rest : drop at now ≡ drop at old

  same_there : (old now : List X) (at : ℕ) (d : X) → drop at now ≡ drop at old → get_or old at d ≡ get_or now at d
  same_there old now at d rest =
      let none : at + 0 ≡ at = omega arith in
      sym (ap (λ n. get_or old n d) none) ∙ sym (get_or-drop at old 0 d) ∙ ap (λ xs. get_or xs 0 d) (sym rest)
      ∙ get_or-drop at now 0 d ∙ ap (λ n. get_or now n d) none

  front_more : (old now : List X) (at kept : ℕ) (d x : X) (passes : Bool) → AreMoved old now at kept → at < length now
      → get_or now at d ≡ x → p x ≡ passes →
      filter p (take (at + 1) old) ≡ take kept now ++ cond passes (x ∷ []) []
  front_more old now at kept d x passes moved lt is tested =
      let here : get_or old at d ≡ x = same_there old now at d moved.rest ∙ is in
      let all : at < length old = omega (arith, lt, moved.long) in
      filter_more p old at d all ∙ ap (λ y. filter p (take at old) ++ cond (p y) (y ∷ []) []) here
      ∙ ap (λ b. filter p (take at old) ++ cond b (x ∷ []) []) tested
      ∙ ap (λ xs. xs ++ cond passes (x ∷ []) []) (sym moved.front)

  rest_more : (old now : List X) (at kept : ℕ) (x : X) → AreMoved old now at kept →
      drop (at + 1) (set now kept x) ≡ drop (at + 1) old
  rest_more old now at kept x moved =
      drop-set-lt (at + 1) now kept x (omega (arith, moved.within)) ∙ drop_more_same now old at moved.rest

  -- The next item passes, and is moved.
  pub moved_more : (old now : List X) (at kept : ℕ) (d x : X) → AreMoved old now at kept → at < length now →
      get_or now at d ≡ x → p x ≡ true → AreMoved old (set now kept x) (at + 1) (kept + 1)
  moved_more old now at kept d x moved lt is passes = record {
    long = length-set now kept x ∙ moved.long;
    within = omega (arith, moved.within);
    front = take_more_set now kept x (omega (arith, lt, moved.within))
        ∙ sym (front_more old now at kept d x true moved lt is passes);
    rest = rest_more old now at kept x moved;
  }

  -- The next item fails. It is written to the same place, over which another one comes.
  pub moved_past : (old now : List X) (at kept : ℕ) (d x : X) → AreMoved old now at kept → at < length now →
      get_or now at d ≡ x → p x ≡ false → AreMoved old (set now kept x) (at + 1) kept
  moved_past old now at kept d x moved lt is fails = record {
    long = length-set now kept x ∙ moved.long;
    within = omega (arith, moved.within);
    front = take-set-le kept now kept x (omega arith) ∙ sym (append-nil (take kept now))
        ∙ sym (front_more old now at kept d x false moved lt is fails);
    rest = rest_more old now at kept x moved;
  }
