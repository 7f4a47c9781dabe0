-- The seat goes into the struct.
use Rattle.atomic_table.proofs.Names.{◌≡◌, List, [], ◌∷◌, ◌++◌, refl, Val, vstruct, SProp, emp, fsep, ‵, raw, ◌⊛◌}
use Rattle.atomic_table.proofs.Names.{◌$◌, ◌∵◌, !, qed, by}
use Rattle.atomic_table.proofs.Names.{move, keep, split, fjoin, fpack, use0, feq_i, of_opd, no_more, and_then}
use Rattle.atomic_table.proofs.Names.{returns, enter, alloc_all}
use Rattle.atomic_table.proofs.Names.{pass_all, free_all, look_at, get, sets, agg, tables, yes, RattleType, owns}
use Rattle.atomic_table.proofs.Names.{Valss, types_at, plain}
use Rattle.atomic_table.proofs.Names.{nothing, alive, Stays, stay_dropped, walk_of, Goes-dropped, fact, fact_i, of_list}
use Rattle.atomic_table.proofs.Walks.{proved, leaves}
use Rattle.atomic_table.proofs.Fields.{token_val, token_told}
use denote.Builtin.{unit}
use Rattle.lf_recorder.specs.contracts.rule.View as view
use Rattle.lf_recorder.specs.contracts.desk_seat.DeskSeat as desk_seat
use Rattle.lf_recorder.proofs.DeskSeats.{seat_row, aside_val}
use Rattle.lf_recorder.specs.contracts.desk_seat.DeskSeat.new.{ended, clauses}
use Rattle.lf_recorder.specs.contracts.desk_seat.DeskSeat.new.Key.{name as key}
use Rattle.lf_recorder.proofs.desk_seat.DeskSeat.new.Statement.{statement}
use Rattle.lf_recorder.proofs.desk_seat.DeskSeat.new.Code as code

pub new_spec : {M : Type 1} → statement M
new_spec 𝓤 𝓛 𝓜 𝓡 wired =
    let H = 𝓛.H in let 𝓣 = tables 𝓤 H 𝓜 𝓡 𝓡.env in let c = clauses 𝓛 𝓜.mem 𝓡.returns in let fn = code.function in
    let Lr : RattleType = seat_row in let Rr : RattleType = desk_seat.the_row in
    let hs : Stays ended.signature.params ended.kept = (stay_dropped (plain (λ _. Lr)) yes, tt) in
    proved 𝓛 ended hs c 𝓜 𝓡 (Goes-dropped 𝓛 0 (plain (λ _. Lr)) yes (λ κs x f. refl), tt) key fn
    (code.unfolded 𝓤 H 𝓜 𝓡 wired)
    (λ κs. ((λ x. token_val ∷ []), tt)) (λ κs. ((λ x vs so. token_told unit view.the_row vs so.0), tt))
    (λ κs qs bounds a gh are.
    let x : Lr.Denot = a.0 in let r : Rr.Denot = record { seat = x } in
    let y : (walk_of 𝓛 ended hs c).Ghost = ((κs, qs, bounds, a, (token_val ∷ [], tt)), gh) in let Post : Val →
    SProp 𝓤 = (walk_of 𝓛 ended hs c).post y in
    qed 𝓛 ((raw (alive 𝓛 ended.signature κs qs) ⊛ ‵ (owns (types_at ended.signature.params κs) a y.0.4))
    ∷ raw ((c κs a).requires gh) ∷ []) ∵
    split ! $ keep ! (1 ∷ 0 ∷ []) $ feq_i ! (List Val) (aside_val ∷ []) (aside_val ∷ []) refl $ fjoin ! $
    fpack ! (Valss (Lr ∷ [])) (λ vss. fsep (base.Fml.feq (List Val) (aside_val ∷ [])
    (vstruct (of_list (vss.0 ++ [])) ∷ [])) (owns (Lr ∷ []) (x, tt) vss))
    (token_val ∷ [], tt) $ nothing ! $ move ! (1 ∷ 0 ∷ []) $ fjoin ! $
    enter ! 𝓣.C 𝓣.Λ fn (token_val ∷ []) Post $ alloc_all ! (λ l. pass_all ! refl ((tt, (tt, tt)), tt) $
    sets ! (of_opd ! (get ! refl)) refl (tt, (tt, tt)) $ sets ! (agg ! (and_then ! (get ! refl) (no_more !))) refl
    (tt, ((tt, tt), tt)) $
    use0 𝓛 (raw (fact 𝓤 (x ≡ x))) (fact_i 𝓤 (x ≡ x) (emp 𝓤) refl) $ nothing ! $ nothing ! $ fjoin ! $
    returns ! (look_at ! 0 refl) $ free_all ! refl $ keep ! (3 ∷ 0 ∷ 2 ∷ 1 ∷ []) $ by !
    (leaves 𝓛 ended hs c y aside_val r (tt, tt) (tt, tt))))
