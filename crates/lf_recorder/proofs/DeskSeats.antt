-- The machine values of a `Seat` and of a `DeskSeat`.
use Rattle.std.proofs.Common.{◌≡◌, ℕ, T, List, [], ◌∷◌, ◌++◌, ap, ◌∙◌}
use seplogic.Ra.Ura.{Ura}
use base.Logic.{via}
use types.Logic.{Logic}
use contract.Lifetimes.{Lfts}
use denote.Exit.{Kept, Last, left}
use denote.Param.Mute.{blank, had}
use denote.Signature.{Slot}
use denote.Triple.Walked.{Goes, stay_dropped}
use mir.Val.{Val, vstruct, vcons, vnil, of_list}
use denote.RattleType.{RattleType}
use denote.Builtin.{unit}
use denote.Laws.{Is}
use denote.Param.Send.{IsSend, sendable}
use Rattle.atomic_table.proofs.Fields.{token_val, token_told}
use Rattle.atomic_table.proofs.Sent.{seat_keyless}
use Rattle.atomic_table.specs.contracts.shared.Seat as seat
use Rattle.lf_recorder.specs.contracts.rule.View as view
use Rattle.lf_recorder.specs.contracts.desk_seat.DeskSeat as desk_seat

abbrev pub seat_row : RattleType
seat_row = seat.the_row unit view.the_row

abbrev pub aside_val : Val
aside_val = vstruct (vcons token_val vnil)

pub aside_told : (d : desk_seat.the_row.Denot) (vs : List Val) → Is desk_seat.the_row d vs → vs ≡ aside_val ∷ []
aside_told d vs so = let is = so.0 in is.1.0 ∙ ap (λ (ws : List Val). vstruct (of_list (ws ++ [])) ∷ [])
    (token_told unit view.the_row is.0.0 is.1.1.0.0)

pub aside_send : IsSend desk_seat.the_row
aside_send =
    record {
      owned = λ d vs. (
        (λ vss. (
          tt,
          (
            (
              (λ uss. (tt, ((λ wss. (tt, tt)), tt))),
              seat_keyless unit (search sendable) view.the_row.coded.code
                  d.seat.table_id d.seat.id d.seat.me,
            ),
            tt,
          ),
        )),
        tt,
      );
      leaving = λ k x vs. (tt, tt);
    }

-- a struct that is used up leaves nothing
pub blank_goes : {M : Type 1} {𝓤 : Ura M} (𝓛 : Logic 𝓤) (n : ℕ) (s : Slot n) (k : Kept)
    → ((κs : Lfts n) (x : (s.row κs).Denot) (f : Last ((s.row κs).exit k) x) →
    T (blank (left ((s.row κs).exit k) x f))) → Goes 𝓛 n s k (stay_dropped s k)
blank_goes {𝓤 = 𝓤} 𝓛 n s k is κs x f vs ok = via 𝓤 _ (had 𝓛 (left ((s.row κs).exit k) x f) (is κs x f))
    (𝓛.laws.⇛_intro _)
