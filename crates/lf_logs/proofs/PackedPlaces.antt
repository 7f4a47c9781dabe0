-- Records that are found by their spots among all records of a trace.
use Rattle.std.proofs.Common.{◌≡◌, ℕ, ◌<◌, List, [], ◌∷◌, ◌++◌, length, get_or, set, Option, IsSome, Some, is_some}
use Rattle.std.proofs.Common.{sym, ap, ◌∙◌, subst, arith}
use Rattle.std.specs.List.{All, filter_map, slice_get, cons_option}
use Rattle.std.specs.Global.{Vec}
use Rattle.std.proofs.lemmas.List.{get_or-map}
use Rattle.std.proofs.lemmas.List.Elements.{All-set, All-push, filter_map-append}
use Rattle.std.proofs.lemmas.Option.{get_or_from_slice_get}
use Rattle.lf_rules.specs.declared.event.Record.{Record}
use Rattle.lf_logs.specs.declared.order.Place.{Place}
use Rattle.lf_logs.specs.declared.packed_logs.Spot.{Spot}
use Rattle.lf_logs.specs.Places.{record_at, Names}
use Rattle.lf_logs.specs.PackedLogs.{found_at, lists_at, IsSpotOf, AreSpotsOf}
use Rattle.lf_logs.proofs.Found.{length_found, get_found}
use Rattle.lf_logs.proofs.Reading.{at_inside, log_inside, log_is, place_inside}

abbrev AreAllSpots : List Record → Vec Spot → Type 0
AreAllSpots rs spots = All (IsSpotOf rs) spots.items

abbrev find : List Record → Spot → Option Record
find rs spot = slice_get rs spot.at

-- each spot of a log gives a record
each_found : (rs : List Record) (spots : Vec Spot) → AreAllSpots rs spots → All (λ s. IsSome (find rs s)) spots.items
each_found rs spots all k d h = ap is_some (all k d h).there

pub length_at : (rs : List Record) (logs : Vec (Vec Spot)) (log : ℕ) (spots : Vec Spot) → AreSpotsOf rs logs →
    log < length logs.items → spots ≡ get_or logs.items log spots →
    length (get_or (lists_at rs logs) log []) ≡ length spots.items
length_at rs logs log spots all inside read =
    let here : get_or (lists_at rs logs) log [] ≡ found_at rs spots =
    get_or-map (found_at rs) logs.items log spots [] inside ∙ ap (found_at rs) (sym read) in
    let these : AreAllSpots rs spots = subst (AreAllSpots rs) (sym read) (all log spots inside) in
    ap length here ∙ length_found (find rs) spots.items (each_found rs spots these)

module _ (rs : List Record) (logs : Vec (Vec Spot)) (all : AreSpotsOf rs logs)
    (lists : List (List Record)) (seen : lists_at rs logs ≡ lists) (place : Place)
    (named : IsSome (record_at lists place)) (i : ℕ) (log : i ≡ place.log) (spots : Vec Spot)
    (read_at : spots ≡ get_or logs.items i spots) where
  there : IsSome (record_at (lists_at rs logs) place)
  there = subst (λ (ls : List (List Record)). IsSome (record_at ls place)) (sym seen) named

  read : spots ≡ get_or logs.items place.log spots
  read = read_at ∙ ap (λ n. get_or logs.items n spots) log

  these : AreAllSpots rs spots
  these = subst (AreAllSpots rs) (sym read) (all place.log spots (log_inside (found_at rs) logs.items place there))

  pub inside : place.at < length spots.items
  inside = omega (
    arith,
    place_inside (found_at rs) logs.items place there spots read,
    length_found (find rs) spots.items (each_found rs spots these),
  )

  module _ (spot : Spot) (is : spot ≡ get_or spots.items place.at spot) where
    spot_is : IsSpotOf rs spot
    spot_is = subst (IsSpotOf rs) (sym is) (these place.at spot inside)

    pub is_below : spot.at < length rs
    is_below = at_inside rs spot.at (ap is_some spot_is.there)

    found : record_at lists place ≡ slice_get rs spot.at
    found =
        ap (λ (ls : List (List Record)). record_at ls place) (sym seen)
        ∙ ap (λ xs. slice_get xs place.at) (log_is (found_at rs) logs.items place there spots read)
        ∙ get_found (find rs) spots.items place.at spot (each_found rs spots these) inside
        ∙ ap (find rs) (sym is)

    pub found_is : (item : Record) → ((d : Record) → item ≡ get_or rs spot.at d) → record_at lists place ≡ Some item
    found_is item same =
        let one = spot_is in
        found ∙ one.there ∙ ap (λ (r : Record). Some r)
        (sym (same one.item ∙ get_or_from_slice_get rs spot.at one.item one.item one.there))

    pub names_it : Names lists spot.bank spot.number place
    names_it =
        let one = spot_is in
        record {
          item = one.item;
          there = found ∙ one.there;
          of_bank = one.of_bank;
          numbered = one.numbered;
        }

-- ---- one more spot

-- the record at the new spot joins the log
pub found_more : (rs : List Record) (v w : Vec Spot) (spot : Spot) (r : Record) → w.items ≡ v.items ++ spot ∷ [] →
    slice_get rs spot.at ≡ Some r → found_at rs w ≡ found_at rs v ++ r ∷ []
found_more rs v w spot r pushed is =
    ap (filter_map (find rs)) pushed
    ∙ filter_map-append (find rs) v.items (spot ∷ [])
    ∙ ap (λ o. found_at rs v ++ cons_option o []) is

pub spots_more : (rs : List Record) (logs : List (Vec Spot)) (i : ℕ) (v w : Vec Spot) (spot : Spot) →
    All (AreAllSpots rs) logs → i < length logs → v ≡ get_or logs i v → w.items ≡ v.items ++ spot ∷ [] →
    IsSpotOf rs spot → All (AreAllSpots rs) (set logs i w)
spots_more rs logs i v w spot all inside read pushed here =
    let old : AreAllSpots rs v = subst (AreAllSpots rs) (sym read) (all i v inside) in
    All-set (AreAllSpots rs) logs i w
    (subst (All (IsSpotOf rs)) (sym pushed) (All-push (IsSpotOf rs) v.items spot old here)) all
