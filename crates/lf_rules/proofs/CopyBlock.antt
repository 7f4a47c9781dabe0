-- What holds of one block in a copy run: its copies, its line masks and its waiting targets agree with flat memory.
use Rattle.std.proofs.Common.{◌≡◌, ℕ, ◌<◌, Bool, true, false, cond, ◌||◌, List, [], ◌∷◌, ◌++◌, length, map, Option}
use Rattle.std.proofs.Common.{Some, None}
use Rattle.std.proofs.Common.{inl, inr, is_some, refl, sym, ap, ◌∙◌, subst, arith, get_or-set_same, get_or-set_other}
use mathlib.Core.Path.{ap₂, fun_ext}
use Rattle.std.specs.Prelude.{bit_or, unwrap_or}
use Rattle.std.specs.List.{fold}
use Rattle.std.proofs.lemmas.Bool.{both_ways, cond-false, or_cases}
use Rattle.std.proofs.lemmas.List.{length-set, length-replicate}
use Rattle.lf_rules.specs.declared.mask.Mask.{Mask}
use Rattle.lf_rules.specs.Address.{Masks, clean_mask, mask_at, is_under, overlay}
use Rattle.lf_rules.specs.Lines.{no_masks, clean_masks, marked}
use Rattle.lf_rules.specs.Registers.{Held}
use Rattle.lf_rules.specs.State.{Request, Missed, Ready}
use Rattle.lf_rules.specs.Table.{read, written, store_mask, reply_of}
use Rattle.lf_rules.specs.Copies.{serve, served}
use Rattle.lf_rules.proofs.Masks.{under_or, written_off, serve_off}

-- what there is about one block
pub record Around : Type 0 where
  pub line1 : Option ℕ
  pub place : ℕ  -- in its second-level block
  pub line2 : Option Masks
  pub targets : List (Held Missed)
  pub asked : Bool
  pub fetched : Bool
  pub in_register : Bool  -- a register of level two holds its second-level block
  pub supplied : Bool
  pub memory : ℕ → ℕ
  pub one : ℕ → ℕ
  pub two : ℕ → ℕ
  pub below : ℕ → ℕ

abbrev pub some_wait : List (Held Missed) → Bool
some_wait [] = false
some_wait (h ∷ held) = true

-- the bytes that a fill of level one would find
abbrev pub base : Option Masks → (ℕ → ℕ) → (ℕ → ℕ) → ℕ → ℕ
base (Some mask) two below = two
base None two below = below

abbrev pub mask_of_stores : List (Held Missed) → ℕ
mask_of_stores held = fold (λ mask h. bit_or mask (store_mask h.target.request)) 0 held

-- a line of level one: level two has the block, nothing waits, it is memory, and off its mask it is the level below
pub record InOne (a : Around) (mask : ℕ) : Type 0 where
  pub inner : is_some a.line2 ≡ true
  pub idle : a.targets ≡ []
  pub same : a.one ≡ a.memory
  pub clean : (o : ℕ) → is_under mask o ≡ false → a.one o ≡ a.two o

-- a line of level two: it has a mask for the block, and off that mask the block is as below
pub record InTwo (a : Around) (masks : Masks) : Type 0 where
  pub inside : a.place < length masks.items
  pub clean : (o : ℕ) → is_under (mask_at masks a.place) o ≡ false → a.two o ≡ a.below o

pub record BlockOk (a : Around) : Type 0 where
  pub held1 : (mask : ℕ) → a.line1 ≡ Some mask → InOne a mask
  pub held2 : (masks : Masks) → a.line2 ≡ Some masks → InTwo a masks
  pub waits : a.line1 ≡ None → serve a.targets (base a.line2 a.two a.below) ≡ a.memory
  pub values : a.line1 ≡ None → served a.targets (base a.line2 a.two a.below) ≡ map reply_of a.targets
  pub is_asked : a.asked ≡ true → (a.fetched ≡ false) × (a.supplied ≡ false) × (some_wait a.targets ≡ true)
  pub is_fetched : a.fetched ≡ true → (a.supplied ≡ false) × (some_wait a.targets ≡ true) × (a.in_register ≡ true)
  pub is_held : a.in_register ≡ true → a.line2 ≡ None
  pub is_supplied : a.supplied ≡ true → (some_wait a.targets ≡ true) × (is_some a.line2 ≡ true)

-- ---- serving

serve-push : (held : List (Held Missed)) (h : Held Missed) (bytes : ℕ → ℕ) →
    serve (held ++ h ∷ []) bytes ≡ written h.target.request (serve held bytes)
serve-push [] h bytes = refl
serve-push (g ∷ held) h bytes = serve-push held h (written g.target.request bytes)

abbrev pub answer : Held Missed → (ℕ → ℕ) → Ready
answer h bytes = record { port = h.target.port; tag = h.target.request.tag; value = read h.target.request bytes }

served-push : (held : List (Held Missed)) (h : Held Missed) (bytes : ℕ → ℕ) →
    served (held ++ h ∷ []) bytes ≡ served held bytes ++ answer h (serve held bytes) ∷ []
served-push [] h bytes = refl
served-push (g ∷ held) h bytes = ap (λ rs. answer g bytes ∷ rs) (served-push held h (written g.target.request bytes))

replies-push : (held : List (Held Missed)) (h : Held Missed) →
    map reply_of (held ++ h ∷ []) ≡ map reply_of held ++ reply_of h ∷ []
replies-push [] h = refl
replies-push (g ∷ held) h = ap (λ rs. reply_of g ∷ rs) (replies-push held h)

some_wait-push : (held : List (Held Missed)) (h : Held Missed) → some_wait (held ++ h ∷ []) ≡ true
some_wait-push [] h = refl
some_wait-push (g ∷ held) h = refl

pub none_waits : (held : List (Held Missed)) → some_wait held ≡ false → held ≡ []
none_waits [] e = refl
none_waits (h ∷ held) e = absurd (both_ways true e refl)

pub some_is : {X : Type 0} (o : Option X) → is_some o ≡ true → (x : X) × (o ≡ Some x)
some_is None e = absurd (both_ways false refl e)
some_is (Some x) e = (x, refl)

pub none_is : {X : Type 0} (o : Option X) → is_some o ≡ false → o ≡ None
none_is None e = refl
none_is (Some x) e = absurd (both_ways true e refl)

pub base-some : (o : Option Masks) (two below : ℕ → ℕ) → is_some o ≡ true → base o two below ≡ two
base-some None two below e = absurd (both_ways false refl e)
base-some (Some mask) two below e = refl

pub base-none : (o : Option Masks) (two below : ℕ → ℕ) → o ≡ None → base o two below ≡ below
base-none None two below e = refl
base-none (Some mask) two below e = cc

-- ---- masks of a line of level two

marked_here : (masks : Masks) (place mask : ℕ) → place < length masks.items →
    mask_at (marked masks place mask) place ≡ bit_or (mask_at masks place) mask
marked_here masks place mask inside = ap (λ (m : Mask). m.0)
    (get_or-set_same masks.items place (record { 0 = bit_or (mask_at masks place) mask }) clean_mask inside)

marked_other : (masks : Masks) (place other mask : ℕ) → (place ≡ other → ⊥) →
    mask_at (marked masks place mask) other ≡ mask_at masks other
marked_other masks place other mask apart = ap (λ (m : Mask). m.0)
    (get_or-set_other masks.items place other (record { 0 = bit_or (mask_at masks place) mask }) clean_mask
    (λ e. apart (sym e)))

-- ---- what each event does to its block

module _ (a : Around) (ok : BlockOk a) where
  -- where targets wait there is no line in level one
  pub waiting_absent : some_wait a.targets ≡ true → a.line1 ≡ None
  waiting_absent w = go a.line1 refl
    where
      go : (o : Option ℕ) → a.line1 ≡ o → o ≡ None
      go None e = refl
      go (Some mask) e = absurd (both_ways (some_wait a.targets) (ap some_wait (ok.held1 mask e).idle) w)

  -- nothing waits: the block is not on its way
  idle_asked : some_wait a.targets ≡ false → (a.asked ≡ true) → ⊥
  idle_asked w e = both_ways (some_wait a.targets) w (ok.is_asked e).2

  idle_fetched : some_wait a.targets ≡ false → (a.fetched ≡ true) → ⊥
  idle_fetched w e = both_ways (some_wait a.targets) w (ok.is_fetched e).1

  idle_supplied : some_wait a.targets ≡ false → (a.supplied ≡ true) → ⊥
  idle_supplied w e = both_ways (some_wait a.targets) w (ok.is_supplied e).0

  pub hit_ok : (q : Request) (mask : ℕ) → a.line1 ≡ Some mask
      → BlockOk (record a {
        line1 = Some (bit_or mask (store_mask q));
        one = written q a.one;
        memory =
            written q a.memory;
      })
  hit_ok q mask there =
      let in_one = ok.held1 mask there in
      record {
        held1 = λ m e. record {
          inner = in_one.inner;
          idle = in_one.idle;
          same = ap (written q) in_one.same;
          clean = λ o off.
              let off' : is_under (bit_or mask (store_mask q)) o ≡ false = ap (λ k. is_under k o) (same_some e) ∙ off in
              let parts = under_or mask (store_mask q) o off' in
              written_off q a.one o parts.1 ∙ in_one.clean o parts.0;
        };
        held2 = λ masks e. let k = ok.held2 masks e in record { inside = k.inside; clean = k.clean };
        is_held = ok.is_held;
        waits = λ e. cc;
        values = λ e. cc;
        is_asked = ok.is_asked;
        is_fetched = ok.is_fetched;
        is_supplied = ok.is_supplied;
      }
    where
      same_some : {m : ℕ} → ◌≡◌ {A = Option ℕ} (Some (bit_or mask (store_mask q))) (Some m) →
          bit_or mask (store_mask q) ≡ m
      same_some e = cc

  -- a target is placed, and the block may be asked for
  placed_ok : (h : Held Missed) (asked : Bool) → a.line1 ≡ None → h.target.value ≡ read h.target.request a.memory
      → (asked ≡ true → (a.fetched ≡ false) × (a.supplied ≡ false))
      → BlockOk (record a { targets = a.targets ++ h ∷ []; asked = asked; memory = written h.target.request a.memory })
  placed_ok h asked absent value free = record {
    held1 = λ mask e. cc;
    held2 = λ masks e. let k = ok.held2 masks e in record { inside = k.inside; clean = k.clean };
    is_held = ok.is_held;
    waits = λ e. serve-push a.targets h _ ∙ ap (written h.target.request) (ok.waits absent);
    values = λ e. served-push a.targets h _
        ∙ ap₂ (λ (rs : List Ready) (r : Ready). rs ++ r ∷ []) (ok.values absent) (answered (ok.waits absent))
        ∙ sym (replies-push a.targets h);
    is_asked = λ e. ((free e).0, (free e).1, some_wait-push a.targets h);
    is_fetched = λ e. let f = ok.is_fetched e in (f.0, some_wait-push a.targets h, f.2);
    is_supplied = λ e. let s = ok.is_supplied e in (some_wait-push a.targets h, s.1);
  }
    where
      answered : {bytes : ℕ → ℕ} → bytes ≡ a.memory → answer h bytes ≡ reply_of h
      answered e = λ i. record {
        port = h.target.port;
        tag = h.target.request.tag;
        value =
            (ap (read h.target.request) e ∙ sym value) i;
      }

  pub primary_ok : (h : Held Missed) → a.line1 ≡ None → some_wait a.targets ≡ false →
      h.target.value ≡ read h.target.request a.memory
      → BlockOk (record a { targets = a.targets ++ h ∷ []; asked = true; memory = written h.target.request a.memory })
  primary_ok h absent idle value =
      placed_ok h true absent value (λ _. (
        false_from a.fetched (idle_fetched idle),
        false_from a.supplied
            (idle_supplied idle),
      ))
    where
      false_from : (b : Bool) → (b ≡ true → ⊥) → b ≡ false
      false_from true f = absurd (f refl)
      false_from false f = refl

  pub merge_ok : (h : Held Missed) → some_wait a.targets ≡ true → h.target.value ≡ read h.target.request a.memory
      → BlockOk (record a { targets = a.targets ++ h ∷ []; memory = written h.target.request a.memory })
  merge_ok h waiting value = placed_ok h a.asked (waiting_absent waiting) value
      (λ e. let k = ok.is_asked e in (k.0, k.1))

  pub fill1_ok : a.supplied ≡ true
      → BlockOk (record a {
        line1 = Some (mask_of_stores a.targets);
        targets = [];
        supplied = false;
        one =
            serve a.targets a.two;
      })
  fill1_ok there =
      let s = ok.is_supplied there in
      let absent : a.line1 ≡ None = waiting_absent s.0 in
      record {
        held1 = λ mask e. record {
          inner = s.1;
          idle = refl;
          same = ap (serve a.targets) (sym (base-some a.line2 a.two a.below s.1)) ∙ ok.waits absent;
          clean = λ o off. (serve_off a.targets 0 a.two o (ap (λ m. is_under m o) (same_some e) ∙ off)).1;
        };
        held2 = λ masks e. let k = ok.held2 masks e in record { inside = k.inside; clean = k.clean };
        is_held = ok.is_held;
        waits = λ e. cc;
        values = λ e. cc;
        is_asked = λ e. absurd (both_ways a.supplied (ok.is_asked e).1 there);
        is_fetched = λ e. absurd (both_ways a.supplied (ok.is_fetched e).0 there);
        is_supplied = λ e. absurd (both_ways false refl e);
      }
    where
      same_some : {m : ℕ} → ◌≡◌ {A = Option ℕ} (Some (mask_of_stores a.targets)) (Some m) → mask_of_stores a.targets ≡ m
      same_some e = cc

  pub evict1_ok : (mask : ℕ) → a.line1 ≡ Some mask
      → BlockOk (record a {
        line1 = None;
        line2 = Some (marked (unwrap_or a.line2 no_masks) a.place mask);
        two =
            overlay a.two a.one mask;
      })
  evict1_ok mask there =
      let in_one = ok.held1 mask there in
      let idle : some_wait a.targets ≡ false = ap some_wait in_one.idle in
      let under : (x : Masks) × (a.line2 ≡ Some x) = some_is a.line2 in_one.inner in
      let in_two = ok.held2 under.0 under.1 in
      let is : unwrap_or a.line2 no_masks ≡ under.0 = ap (λ (o : Option Masks). unwrap_or o no_masks) under.1 in
      record {
        held1 = λ m e. cc;
        held2 = λ m e.
            let same : marked under.0 a.place mask ≡ m = ap (λ (x : Masks). marked x a.place mask) (sym is)
            ∙ same_some e in
            record {
              inside =
                  subst (λ (x : Masks). a.place < length x.items) same
                  (let long = length-set under.0.items a.place (record { 0 = bit_or (mask_at under.0 a.place) mask })
                  in let lt = in_two.inside in omega (arith, long, lt));
              clean = λ o off.
                  let off' : is_under (bit_or (mask_at under.0 a.place) mask) o ≡ false =
                  ap (λ k. is_under k o) (sym (marked_here under.0 a.place mask in_two.inside)
                  ∙ ap (λ (x : Masks). mask_at x a.place) same) ∙ off in
                  let parts = under_or (mask_at under.0 a.place) mask o off' in
                  cond-false (is_under mask o) (a.one o) (a.two o) parts.1 ∙ in_two.clean o parts.0;
            };
        waits = λ _. ap (λ held. serve held (overlay a.two a.one mask)) in_one.idle
            ∙ fun_ext (λ o. at in_one o (is_under mask o) refl);
        values = λ _. ap (λ held. served held (overlay a.two a.one mask)) in_one.idle
            ∙ sym (ap (map reply_of) in_one.idle);
        is_asked = λ e. absurd (idle_asked idle e);
        is_fetched = λ e. absurd (idle_fetched idle e);
        is_held = λ e. absurd (both_ways (is_some a.line2) (ap is_some (ok.is_held e)) in_one.inner);
        is_supplied = λ e. absurd (idle_supplied idle e);
      }
    where
      same_some : {m : Masks} → ◌≡◌ {A = Option Masks} (Some (marked (unwrap_or a.line2 no_masks) a.place mask))
          (Some m) → marked (unwrap_or a.line2 no_masks) a.place mask ≡ m
      same_some e = cc

      at : InOne a mask → (o : ℕ) (b : Bool) → is_under mask o ≡ b → cond b (a.one o) (a.two o) ≡ a.memory o
      at in_one o true e = ap (λ (f : ℕ → ℕ). f o) in_one.same
      at in_one o false e = sym (in_one.clean o e) ∙ ap (λ (f : ℕ → ℕ). f o) in_one.same

  -- the mask of another block of its second-level block changes
  pub other_marked_ok : (place mask : ℕ) → (place ≡ a.place → ⊥) → is_some a.line2 ≡ true →
      BlockOk (record a { line2 = Some (marked (unwrap_or a.line2 no_masks) place mask) })
  other_marked_ok place mask apart there =
      let under : (x : Masks) × (a.line2 ≡ Some x) = some_is a.line2 there in
      let in_two = ok.held2 under.0 under.1 in
      let is : unwrap_or a.line2 no_masks ≡ under.0 = ap (λ (o : Option Masks). unwrap_or o no_masks) under.1 in
      let one_base : base a.line2 a.two a.below ≡ a.two = base-some a.line2 a.two a.below there in
      record {
        held1 = λ m e. let k = ok.held1 m e in record { inner = refl; idle = k.idle; same = k.same; clean = k.clean };
        held2 = λ m e.
            let same : marked under.0 place mask ≡ m = ap (λ (x : Masks). marked x place mask) (sym is) ∙ same_some e in
            record {
              inside =
                  subst (λ (x : Masks). a.place < length x.items) same
                  (let long = length-set under.0.items place (record { 0 = bit_or (mask_at under.0 place) mask }) in
                  let lt = in_two.inside in omega (arith, long, lt));
              clean = λ o off. in_two.clean o (ap (λ k. is_under k o)
                  (sym (marked_other under.0 place a.place mask apart) ∙ ap (λ (x : Masks). mask_at x a.place) same)
                  ∙ off);
            };
        waits = λ e. ap (serve a.targets) (sym one_base) ∙ ok.waits e;
        values = λ e. ap (served a.targets) (sym one_base) ∙ ok.values e;
        is_asked = ok.is_asked;
        is_fetched = ok.is_fetched;
        is_held = λ e. absurd (both_ways (is_some a.line2) (ap is_some (ok.is_held e)) there);
        is_supplied = λ e. ((ok.is_supplied e).0, refl);
      }
    where
      same_some : {m : Masks} → ◌≡◌ {A = Option Masks} (Some (marked (unwrap_or a.line2 no_masks) place mask))
          (Some m) → marked (unwrap_or a.line2 no_masks) place mask ≡ m
      same_some e = cc

  pub second_hit_ok : a.asked ≡ true → is_some a.line2 ≡ true → BlockOk (record a { asked = false; supplied = true })
  second_hit_ok there line = record {
    held1 = λ mask e. let k = ok.held1 mask e in record {
      inner = k.inner;
      idle = k.idle;
      same = k.same;
      clean =
          k.clean;
    };
    held2 = λ masks e. let k = ok.held2 masks e in record { inside = k.inside; clean = k.clean };
    waits = ok.waits;
    values = ok.values;
    is_asked = λ e. absurd (both_ways false refl e);
    is_fetched = λ e. absurd (both_ways a.fetched (ok.is_asked there).0 e);
    is_held = ok.is_held;
    is_supplied = λ e. ((ok.is_asked there).2, line);
  }

  pub second_miss_ok : a.asked ≡ true → a.line2 ≡ None → BlockOk
      (record a { asked = false; fetched = true; in_register = true })
  second_miss_ok there line = record {
    held1 = λ mask e. let k = ok.held1 mask e in record {
      inner = k.inner;
      idle = k.idle;
      same = k.same;
      clean =
          k.clean;
    };
    held2 = λ masks e. let k = ok.held2 masks e in record { inside = k.inside; clean = k.clean };
    waits = ok.waits;
    values = ok.values;
    is_asked = λ e. absurd (both_ways false refl e);
    is_fetched = λ e. ((ok.is_asked there).1, (ok.is_asked there).2, refl);
    is_held = λ e. line;
    is_supplied = λ e. absurd (both_ways a.supplied (ok.is_asked there).1 e);
  }

  -- another block of its second-level block is placed in a register
  pub other_held_ok : a.line2 ≡ None → BlockOk (record a { in_register = true })
  other_held_ok line = record {
    held1 = λ mask e. let k = ok.held1 mask e in record {
      inner = k.inner;
      idle = k.idle;
      same = k.same;
      clean =
          k.clean;
    };
    held2 = λ masks e. let k = ok.held2 masks e in record { inside = k.inside; clean = k.clean };
    waits = ok.waits;
    values = ok.values;
    is_asked = ok.is_asked;
    is_fetched = λ e. let f = ok.is_fetched e in (f.0, f.1, refl);
    is_held = λ e. line;
    is_supplied = ok.is_supplied;
  }

  -- where a register holds its second-level block, there is no line of the block
  pub held_absent : a.in_register ≡ true → a.line1 ≡ None
  held_absent there = go a.line1 refl
    where
      go : (o : Option ℕ) → a.line1 ≡ o → o ≡ None
      go None e = refl
      go (Some mask) e = absurd (both_ways (is_some a.line2) (ap is_some (ok.is_held there)) (ok.held1 mask e).inner)

  pub fill2_ok : (factor : ℕ) → a.place < factor → a.in_register ≡ true
      → BlockOk (record a {
        line2 = Some (clean_masks factor);
        fetched = false;
        in_register = false;
        supplied =
            a.supplied || a.fetched;
        two = a.below;
      })
  fill2_ok factor inside there =
      let absent : a.line1 ≡ None = held_absent there in
      let from_below : base a.line2 a.two a.below ≡ a.below = base-none a.line2 a.two a.below (ok.is_held there) in
      record {
        held1 = λ mask e. absurd (both_ways (is_some a.line2) (ap is_some (ok.is_held there)) (ok.held1 mask e).inner);
        held2 = λ masks e. record {
          inside = subst (λ (x : Masks). a.place < length x.items) (same_some e)
              (let long = length-replicate factor clean_mask in omega (arith, long, inside));
          clean = λ o off. refl;
        };
        waits = λ e. ap (serve a.targets) (sym from_below) ∙ ok.waits e;
        values = λ e. ap (served a.targets) (sym from_below) ∙ ok.values e;
        is_asked = λ e. let k = ok.is_asked e in (refl, ap₂ (λ x y. x || y) k.1 k.0, k.2);
        is_fetched = λ e. absurd (both_ways false refl e);
        is_held = λ e. absurd (both_ways false refl e);
        is_supplied = λ e. (elim (or_cases a.supplied a.fetched e) [
          | inl s ↦ ((ok.is_supplied s).0, refl)
          | inr f ↦ ((ok.is_fetched f).1, refl)
        ]);
      }
    where
      same_some : {m : Masks} → ◌≡◌ {A = Option Masks} (Some (clean_masks factor)) (Some m) → clean_masks factor ≡ m
      same_some e = cc

  pub evict2_ok : (masks : Masks) → a.line2 ≡ Some masks → a.line1 ≡ None → some_wait a.targets ≡ false
      → BlockOk (record a { line2 = None; below = overlay a.below a.two (mask_at masks a.place) })
  evict2_ok masks there absent idle = record {
    held1 = λ m e. cc;
    held2 = λ m e. cc;
    waits = λ _. ap (λ held. serve held (overlay a.below a.two (mask_at masks a.place))) none
        ∙ fun_ext (λ o. at o (is_under (mask_at masks a.place) o) refl);
    values = λ _. ap (λ held. served held (overlay a.below a.two (mask_at masks a.place))) none
        ∙ sym (ap (map reply_of) none);
    is_asked = λ e. absurd (idle_asked idle e);
    is_fetched = λ e. absurd (idle_fetched idle e);
    is_held = λ e. refl;
    is_supplied = λ e. absurd (idle_supplied idle e);
  }
    where
      none : a.targets ≡ []
      none = none_waits a.targets idle

      two_is : a.two ≡ a.memory
      two_is = sym (base-some a.line2 a.two a.below (ap is_some there))
          ∙ sym (ap (λ held. serve held (base a.line2 a.two a.below)) none) ∙ ok.waits absent

      at : (o : ℕ) (b : Bool) → is_under (mask_at masks a.place) o ≡ b → cond b (a.two o) (a.below o) ≡ a.memory o
      at o true e = ap (λ (f : ℕ → ℕ). f o) two_is
      at o false e = sym ((ok.held2 masks there).clean o e) ∙ ap (λ (f : ℕ → ℕ). f o) two_is
