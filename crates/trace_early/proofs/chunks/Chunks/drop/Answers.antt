use Rattle.std.proofs.Common.{List, ℕ, ◌<◌, ◌∷◌, sym, subst, length}
use Rattle.trace_early.specs.Kept.{Keeps}
use Rattle.trace_early.proofs.Keeping.{goes_from, counts_some, keeps_the_rest}
use Rattle.trace_early.proofs.chunks.Chunks.drop.Goals as goal

pub index_mut-chunk-requires : goal.index_mut-chunk-requires
index_mut-chunk-requires c =
    let items = c.self.inside.chunks.items in
    let below : c.chunk.result < length items =
    goes_from items c.chunk.result c.args.place c.chunk.ensures c.requires.0 c.requires.1
    (subst (λ (chunks : List (List ℕ × ℕ)). Keeps chunks ((c.args.place, c.requires.0) ∷ c.requires.1))
    (sym c.self.view_is) c.requires.2) in
    subst (λ (n : ℕ). c.chunk.result < n) (sym c.self.inside.chunks.ok.0) below

pub let_one_go-requires : goal.let_one_go-requires
let_one_go-requires c =
    counts_some c.self.inside.chunks.items c.chunk.result c.args.place c.index_mut-chunk.result.now c.chunk.ensures
    c.index_mut-chunk.ensures.value c.requires.0 c.requires.1
    (subst (λ (chunks : List (List ℕ × ℕ)). Keeps chunks ((c.args.place, c.requires.0) ∷ c.requires.1))
    (sym c.self.view_is) c.requires.2)

pub returns-then-is_empty : goal.returns-then-is_empty
returns-then-is_empty c item kept keeps =
    keeps_the_rest c.self.inside.chunks.items c.chunk.result c.args.place c.index_mut-chunk.result.now c.chunk.ensures
    c.index_mut-chunk.ensures.value item kept
    (subst (λ (chunks : List (List ℕ × ℕ)). Keeps chunks ((c.args.place, item) ∷ kept)) (sym c.self.view_is) keeps)
    c.let_one_go.new.self c.let_one_go.ensures.count c.let_one_go.ensures.bytes

pub returns-else-is_empty : goal.returns-else-is_empty
returns-else-is_empty c item kept keeps =
    keeps_the_rest c.self.inside.chunks.items c.chunk.result c.args.place c.index_mut-chunk.result.now c.chunk.ensures
    c.index_mut-chunk.ensures.value item kept
    (subst (λ (chunks : List (List ℕ × ℕ)). Keeps chunks ((c.args.place, item) ∷ kept)) (sym c.self.view_is) keeps)
    c.let_one_go.new.self c.let_one_go.ensures.count c.let_one_go.ensures.bytes
