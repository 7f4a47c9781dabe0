-- The seat comes out of the struct.
use Rattle.atomic_table.proofs.Names.{◌≡◌, List, [], ◌∷◌, refl, Val, SProp, emp, ‵, raw, ◌⊛◌, ◌$◌, ◌∵◌, !, qed, by}
use Rattle.atomic_table.proofs.Names.{move, keep, drop}
use Rattle.atomic_table.proofs.Names.{split, fsplit, fsplit3, fjoin, fpick, use0, rewrite, stop, fld, of_opd, returns}
use Rattle.atomic_table.proofs.Names.{enter, alloc_all}
use Rattle.atomic_table.proofs.Names.{pass_all, free_all, look_at, get, get_in, sets, sub, whole, tables, yes}
use Rattle.atomic_table.proofs.Names.{RattleType, owns, types_at}
use Rattle.atomic_table.proofs.Names.{plain, nothing, alive, Stays, stay_dropped, walk_of, fact, fact_i, Is, shows}
use Rattle.atomic_table.proofs.Names.{peeks}
use Rattle.atomic_table.proofs.Walks.{proved, leaves}
use Rattle.atomic_table.proofs.Fields.{token_val, token_told}
use denote.Builtin.{unit}
use Rattle.lf_recorder.specs.contracts.rule.View as view
use Rattle.lf_recorder.specs.contracts.desk_seat.DeskSeat as desk_seat
use Rattle.lf_recorder.proofs.DeskSeats.{seat_row, aside_val, aside_told, blank_goes}
use Rattle.lf_recorder.specs.contracts.desk_seat.DeskSeat.into_seat.{ended, clauses}
use Rattle.lf_recorder.specs.contracts.desk_seat.DeskSeat.into_seat.Key.{name as key}
use Rattle.lf_recorder.proofs.desk_seat.DeskSeat.into_seat.Statement.{statement}
use Rattle.lf_recorder.proofs.desk_seat.DeskSeat.into_seat.Code as code

pub into_seat_spec : {M : Type 1} → statement M
into_seat_spec 𝓤 𝓛 𝓜 𝓡 wired =
    let H = 𝓛.H in let 𝓣 = tables 𝓤 H 𝓜 𝓡 𝓡.env in let c = clauses 𝓛 𝓜.mem 𝓡.returns in let fn = code.function in
    let Lr : RattleType = seat_row in let Rr : RattleType = desk_seat.the_row in
    let hs : Stays ended.signature.params ended.kept = (stay_dropped (plain (λ _. Rr)) yes, tt) in
    proved 𝓛 ended hs c 𝓜 𝓡 (blank_goes 𝓛 0 (plain (λ _. Rr)) yes (λ κs x f. tt), tt) key fn
    (code.unfolded 𝓤 H 𝓜 𝓡 wired)
    (λ κs. ((λ x. aside_val ∷ []), tt)) (λ κs. ((λ x vs so. aside_told x vs so), tt)) (λ κs qs bounds a gh are.
    let x : Lr.Denot = a.0.seat in
    let y : (walk_of 𝓛 ended hs c).Ghost = ((κs, qs, bounds, a, (aside_val ∷ [], tt)), gh) in let Post : Val →
    SProp 𝓤 = (walk_of 𝓛 ended hs c).post y in
    qed 𝓛 ((raw (alive 𝓛 ended.signature κs qs) ⊛ ‵ (owns (types_at ended.signature.params κs) a y.0.4))
    ∷ raw ((c κs a).requires gh) ∷ []) ∵
    split ! $ move ! (1 ∷ []) $ fsplit ! $ fsplit ! $ fpick !
    (λ vss. fsplit3 ! $ drop ! $ peeks ! Lr (Is Lr) (shows 𝓛 Lr) x vss.0 (λ so.
    rewrite ! 0 (λ (ws : List Val). ‵ (Lr.own_val x ws)) (token_told unit view.the_row vss.0 so.0) refl $ keep !
    (0 ∷ 4 ∷ []) $
    enter ! 𝓣.C 𝓣.Λ fn (aside_val ∷ []) Post $ alloc_all ! (λ l. pass_all ! refl ((tt, ((tt, tt), tt)), tt) $
    sets ! (of_opd ! (get_in ! (fld ! refl (stop !)) (sub ! 0 refl (whole !)))) refl (tt, (tt, tt)) $ sets !
    (of_opd ! (get ! refl)) refl (tt, (tt, tt)) $
    use0 𝓛 (raw (fact 𝓤 (x ≡ x))) (fact_i 𝓤 (x ≡ x) (emp 𝓤) refl) $ nothing ! $ nothing ! $ fjoin ! $
    returns ! (look_at ! 0 refl) $ free_all ! refl $ keep ! (3 ∷ 0 ∷ 2 ∷ 1 ∷ []) $ by !
    (leaves 𝓛 ended hs c y token_val x ((tt, tt), tt) (tt, tt))))))
