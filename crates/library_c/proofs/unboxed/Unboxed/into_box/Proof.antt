-- `into_box` is `Box::from_raw` of the parts.
use Rattle.std.proofs.Common.{◌≡◌, List, [], ◌∷◌, ◌++◌, refl, sym, ap, subst}
use mir.Syntax.{Args, Dict, Fn, a_type, dcons, dnil}
use mir.Val.{Val, vptr}
use mir.MapTy.{inst_fn}
use base.Logic.{SProp, ent, id⊢}
use base.Fml.{ftrue, flft}
use prog.Wp.{WpFn}
use types.Kit.{Item, ‵, raw, ◌⊛◌, some, later, at_ret, ◌$◌, ◌∵◌, !, qed, by, move, keep, drop, split, split3, join}
use types.Kit.{fsplit, fjoin, pick, suffices, use1, await, rewrite, feq_i}
use types.Run.{stop, fld, of_opd, no_more, and_then, first, blocks, exec, returns, enter}
use types.ByLocal.{alloc_all, pass_all, free_all, look_at, get, get_in, sets, lands_last, env}
use types.Part.{sub, whole}
use contract.Monad.{fact}
use contract.BorrowLft.{◌⊑◌}
use contract.Running.{tables}
use denote.Exit.{no}
use denote.RattleType.{RattleType, owns}
use denote.Signature.{types_at, plain}
use denote.RawPtr.{block_ptr}
use denote.Steps.{nothing, only}
use denote.Param.{param, layout, bounded}
use denote.Param.Laws.{Laws, param_laws}
use denote.Triple.Clauses.{Lasts, lasts}
use denote.Triple.Spec.{triple_of}
use denote.Triple.Call.{calls_at_last}
use denote.Triple.Walked.{Stays, stay_dropped, walk_of}
use Rattle.core.proofs.alloc.Calls.{Goes-blank}
use Rattle.core.proofs.alloc.Shapes.{after}
use Rattle.core.proofs.atomic.Steps.{fm}
use Rattle.core.proofs.cell.Inside.{Good}
use Rattle.std_alloc.proofs.BoxSteps.Form as box
use Rattle.std_alloc.proofs.BoxSteps.Steps.{box_out, box_in}
use Rattle.std.proofs.raw_atomic.Walks.{proved_at, leaves}
use Rattle.std_alloc.specs.contracts.boxed.Box.from_raw as callee
use Rattle.std_alloc.proofs.boxed.Box.from_raw.Met.{met}
use Rattle.library_c.proofs.Values.{word, Unboxed, unboxed_good, unboxed_out}
use Rattle.library_c.specs.contracts.unboxed.Unboxed.into_box.{ended, clauses}
use Rattle.library_c.specs.contracts.unboxed.Unboxed.into_box.Key as key
use Rattle.library_c.proofs.unboxed.Unboxed.into_box.Statement.{statement}
use Rattle.library_c.proofs.unboxed.Unboxed.into_box.Code as code

-- what a call passes for the two types
abbrev passed : RattleType → RattleType → Dict → Dict → Dict → Args
passed T A d dx dd = bounded (a_type ∷ a_type ∷ []) (T, (A, tt)) (dcons d (dcons dx (dcons dd dnil)))

pub into_box_spec : {M : Type 1} → statement M
into_box_spec 𝓤 𝓛 𝓜 𝓡 wired T A L LA g d dx dd allocator glue glued =
    let 𝓣 = tables 𝓤 𝓛.H 𝓜 𝓡 𝓡.env in
    let R : RattleType = param 0 T in
    let Z : RattleType = param 1 A in
    let LZ : Laws Z = param_laws 1 A LA in
    let U : RattleType = Unboxed R Z LZ g in
    let boxed : box.Bx = record { row = T; laws = L; al = record { row = A; laws = LA; g = g; d = d; drops = dd } } in
    let B : RattleType = box.B boxed in
    let En = ended T A g d dx dd in
    let c = clauses T A g d dx dd 𝓛 𝓜.mem 𝓡.returns in
    let fn : Fn = inst_fn (passed T A d dx dd) code.function in
    let stayed : Stays En.signature.params En.kept = (stay_dropped (plain (λ _. U)) no, tt) in
    proved_at 𝓛 En stayed c 𝓜 𝓡 (Goes-blank 𝓛 2 (plain (λ _. U)) no (λ κs x f. tt), tt)
    (key.name (passed T A d dx dd)) fn (code.unfolded 𝓤 𝓛.H 𝓜 𝓡 wired (T, (A, tt)) d dx dd) (λ z are.
    let κs = z.0.0 in let qs = z.0.1 in let u = z.0.3.0 in
    let Post : Val → SProp 𝓤 = (walk_of 𝓛 En stayed c).post z in
    let Runs : List Val → SProp 𝓤 = λ ws. WpFn 𝓤 𝓛.H 𝓣.C 𝓣.Λ fn ws Post in
    let alive : Item 𝓤 = ‵ (flft κs.0 qs.0) ⊛ ‵ (flft κs.1.0 qs.1.0) ⊛ ‵ ftrue in
    let callee_is = triple_of 𝓛 (callee.signature T A g d dd) (callee.spec T A g d dd 𝓛 𝓜.mem 𝓡.returns) in
    let Last : Type 0 = Lasts (callee.ended T A g d dd) κs (u.alloc, (u.at, tt)) in
    qed 𝓛 ((alive ⊛ ‵ (owns (types_at En.signature.params κs) z.0.3 z.0.4)) ∷ raw ((c κs z.0.3).requires z.1) ∷ []) ∵
    split ! $ move ! (1 ∷ []) $ fsplit ! $ unboxed_out R Z LZ g ! u z.0.4.0 (λ b o h at is good.
    let w : Val = word (vptr b o) h in let fits = unboxed_good R Z LZ g b o h good in
    let y : callee_is.Ghost = ((κs, qs, tt, (u.alloc, (block_ptr b o, tt)), (h ∷ [], (vptr b o ∷ [], tt))), u.value) in
    -- [what the box owns; the handle; nothing; the tokens; what is asked]
    move ! (4 ∷ []) $
    use1 𝓛 (raw (fact 𝓤 (κs.0 ⊑ T.lives)) ⊛ raw (fact 𝓤 (κs.1.0 ⊑ A.lives)) ⊛ ‵ ftrue) (id⊢ 𝓤 _) $
    split3 ! $ move ! (2 ∷ []) $ drop ! $ move ! (1 ∷ 2 ∷ []) $ join ! $ move ! (1 ∷ 0 ∷ []) $ join ! $
    -- [what the callee asks; the handle; nothing; the tokens]
    move ! (2 ∷ []) $ feq_i ! (List Val) (vptr b o ∷ []) (vptr b o ∷ []) refl $ fjoin ! $
    move ! (2 ∷ 0 ∷ []) $ fjoin ! $ move ! (2 ∷ 0 ∷ []) $ join ! $ join ! $ use1 𝓛 (raw (callee_is.pre y)) (id⊢ 𝓤 _) $
    suffices ! (Runs (w ∷ [])) (subst (λ (us : List Val). ent 𝓤 (Runs (w ∷ [])) (Runs us)) (sym (λ i. is i ++ []))
    (id⊢ 𝓤 (Runs (w ∷ [])))) $
    enter ! 𝓣.C 𝓣.Λ fn (w ∷ []) Post $ alloc_all ! (λ l. pass_all ! refl (fits, tt) $
    let locals_now = env fn.locals l in
    sets ! (of_opd ! (get_in ! (fld ! refl (stop !)) (sub ! 0 refl (whole !)))) refl (tt, tt) $
    sets ! (of_opd ! (get_in ! (fld ! refl (stop !)) (sub ! 1 refl (whole !)))) refl good $
    first ! $ blocks ! $ sets ! (of_opd ! (get ! refl)) refl good $
    calls_at_last ! (fm 𝓛 𝓜 𝓡) callee_is
    (met 𝓤 𝓛 𝓜 𝓡 (code.calls-std_alloc::boxed::Box::from_raw 𝓡.env wired) T A L LA g d dd allocator glued) y
    (and_then ! (get ! refl) (and_then ! (get ! refl) (no_more !))) (λ v.
    use1 𝓛 (later (some (λ (r : B.Denot). (alive ⊛ ‵ (B.own_val r (v ∷ [])))
    ⊛ some (λ (ls : Last). ‵ (lasts (callee.ended T A g d dd) κs (u.alloc, (u.at, tt)) ls)
    ⊛ (raw (fact 𝓤 (r.value ≡ u.value)) ⊛ raw (fact 𝓤 (r.alloc ≡ u.alloc))))))) (id⊢ 𝓤 (callee_is.post y v)) $
    await ! tt $ pick ! (λ r. split ! $ move ! (1 ∷ []) $ pick !
    (λ _. split3 ! $ drop ! $ move ! (2 ∷ []) $ split ! $ move ! (1 ∷ []) $
    -- [what the box owns; the tokens; its value is the one that was there; ..]
    box_out boxed ! r (v ∷ []) (λ b' o' h' at' is' good'. box_in boxed ! r b' o' r.value at' refl $
    rewrite ! 0 (λ (vs : List Val). ‵ (B.own_val r vs)) (sym is') refl $
    let made : Good (layout B) v = subst (Good (layout B)) (sym (ap only is')) (unboxed_good R Z LZ g b' o' h' good') in
    lands_last ! refl made $ exec ! 𝓣.C 𝓣.Λ locals_now (after 3 fn.body) (at_ret locals_now Post) $
    sets ! (of_opd ! (get ! refl)) refl made $ nothing ! $ nothing ! $ fjoin ! $
    returns ! (look_at ! 0 refl) $ free_all ! refl $ keep ! (2 ∷ 0 ∷ 1 ∷ 3 ∷ []) $
    by ! (leaves 𝓛 En stayed c z v r ((tt, (tt, tt)), tt) (tt, tt)))))))))
