use Rattle.std.proofs.Common.{◌≡◌, ℕ, List, [], Option, slice_index, ap, sym, ◌∙◌}
use mathlib.Core.Path.{fun_ext}
use Rattle.std.specs.Prelude.{unwrap_or}
use Rattle.std.proofs.lemmas.List.{nil_from_length}
use Rattle.bank_state.specs.Bytes.{flat_of}
use Rattle.bank_state.proofs.Bytes.{zeros}
use Rattle.bank_state.proofs.memory.far_bytes.Goals as goal

pub returns-then-is_empty : goal.returns-then-is_empty
returns-then-is_empty c =
    let none : c.args.far.now.entries ≡ [] =
    nil_from_length c.args.far.now.entries (c.is_empty.ensures.0 c.if-is_empty.true) in
    fun_ext (λ place. zeros 64 place
    ∙ ap (λ (blocks : List (ℕ × List ℕ)). flat_of blocks c.args.block place) (sym none))

pub returns-in-None : goal.returns-in-None
returns-in-None c = fun_ext (λ place. zeros 64 place
    ∙ ap (λ (o : Option (List ℕ)). slice_index (unwrap_or o []) place) c.in-None.ensures.value)
