use Rattle.std.proofs.Common.{ℕ, List, [], ◌∷◌, arith}
use Rattle.trace_early.proofs.Keeping.{keeps_swapped}
use Rattle.trace_tests.proofs.places.each_place_has_its_bytes.Goals as goal

abbrev one : List ℕ
one = 111 ∷ 110 ∷ 101 ∷ []

abbrev three : List ℕ
three = 116 ∷ 104 ∷ 114 ∷ 101 ∷ 101 ∷ []

pub drop-requires : goal.drop-requires
drop-requires g c =
    let first = c.in-Ok.ensures.one_more [] c.new-chunks.ensures in
    let both = c.in-Ok-put.ensures.one_more ((c.in-Ok.first, one) ∷ []) first in (
      one,
      (c.in-Ok-put.second, []) ∷ [],
      keeps_swapped c.put-2.new.self (c.in-Ok-put.second, []) (c.in-Ok.first, one) []
          both,
    )

pub get-requires : goal.get-requires
get-requires g c =
    let first = c.in-Ok.ensures.one_more [] c.new-chunks.ensures in
    let both = c.in-Ok-put.ensures.one_more ((c.in-Ok.first, one) ∷ []) first in
    let left = c.drop.ensures one ((c.in-Ok-put.second, []) ∷ [])
    (keeps_swapped c.put-2.new.self (c.in-Ok-put.second, []) (c.in-Ok.first, one) [] both) in
    let all = c.in-Ok-put-2.ensures.one_more ((c.in-Ok-put.second, []) ∷ []) left in
    ([], all.each 1 (0, []) (omega arith))

pub get-requires-2 : goal.get-requires-2
get-requires-2 g c =
    let first = c.in-Ok.ensures.one_more [] c.new-chunks.ensures in
    let both = c.in-Ok-put.ensures.one_more ((c.in-Ok.first, one) ∷ []) first in
    let left = c.drop.ensures one ((c.in-Ok-put.second, []) ∷ [])
    (keeps_swapped c.put-2.new.self (c.in-Ok-put.second, []) (c.in-Ok.first, one) [] both) in
    let all = c.in-Ok-put-2.ensures.one_more ((c.in-Ok-put.second, []) ∷ []) left in
    (three, all.each 0 (0, []) (omega arith))
