use Rattle.std.proofs.Common.{◌≡◌, ◌+◌, List, ℕ, [], ◌++◌, take, drop, get_or, subst, ◌∙◌, ap, rules}
use Rattle.std.specs.Borrow.{Bor}
use Rattle.lf_verdict.specs.Legal.{joined}
use Rattle.lf_verdict.specs.inner.Gathering.{HasGathered, IsReadStop}
use Rattle.lf_verdict.proofs.Pieces.{joined_more, joined_in_two, joined_all}
use Rattle.lf_verdict.proofs.pool.gathering.Gathered.feed_all.Goals as goal

abbrev none : Bor (List ℕ)
none = record { ref_ptr = (0, 0); now = [] }

pub loop-piece-preserved : goal.loop-piece-preserved
loop-piece-preserved c count was =
    let pieces = c.args.pieces.now in
    let i = c.loop-piece.piece-index in
    subst (HasGathered count c.feed.new.self) (joined_more pieces i none c.loop-piece-test.true)
    (c.in_ok-feed.ensures.ok count (joined (take i pieces)) (c.loop-piece.invariant count was))

pub returns-clause-ok : goal.returns-clause-ok
returns-clause-ok c count was =
    let pieces = c.args.pieces.now in
    let i = c.loop-piece.piece-index in
    subst (HasGathered count c.loop-piece.self) (joined_all pieces i c.loop-piece-test.false)
    (c.loop-piece.invariant count was)

pub returns-in_err-feed-clause-err : goal.returns-in_err-feed-clause-err
returns-in_err-feed-clause-err c count was =
    let pieces = c.args.pieces.now in
    let i = c.loop-piece.piece-index in
    let before = joined (take i pieces) in
    let rest = joined (drop (i + 1) pieces) in
    let whole : (before ++ (get_or pieces i none).now) ++ rest ≡ joined pieces =
    ap (λ (t : List ℕ). t ++ rest) (joined_more pieces i none c.loop-piece-test.true)
    ∙ joined_in_two pieces (i + 1) in
    let said = c.in_err-feed.ensures.err count before rest (c.loop-piece.invariant count was) in
    let moved = subst (λ (bytes : List ℕ). IsReadStop bytes c.in_err-feed.field-0.0) whole said in
    search rules
