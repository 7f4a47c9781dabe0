use Rattle.std.proofs.Common.{◌≡◌, ◌++◌, ℕ, List, [], Option, None, IsSome, slice_index, replicate, sym, ap, ◌∙◌}
use mathlib.Core.Path.{fun_ext}
use Rattle.std.specs.Prelude.{unwrap_or, is_some, nat_eq}
use Rattle.std.specs.Map.{lookup}
use Rattle.std.specs.HashMap.{HashMap}
use Rattle.lf_rules.specs.State.{update}
use Rattle.bank_state.specs.Bytes.{flat_of, put}
use Rattle.bank_state.proofs.Bytes.{zeros}
use Rattle.bank_state.proofs.NearBlocks.{at}
use Rattle.bank_state.proofs.TwoParts.{near_bytes, far_bytes, near_put, far_put}
use Rattle.bank_state.proofs.memory.FlatMemory.store.Goals as goal

pub returns-then-write-clause-ok : goal.returns-then-write-clause-ok
returns-then-write-clause-ok c =
    let near = c.self.inside.near in
    let far = c.self.inside.far.entries in
    let here = c.write.ensures.here c.if-write.true in
    near_put near far c.write.new.self c.args.block here.1.0 here.1.1.2
    ∙ ap (λ (f : ℕ → ℕ). update (flat_of (near ++ far)) c.args.block f)
    (here.1.1.1 ∙ ap (λ (f : ℕ → ℕ). put f c.args.offset c.args.new.now)
    (sym (near_bytes near far c.args.block here.0 here.1.1.0)))
    ∙ ap (λ (blocks : List (ℕ × List ℕ)). update (flat_of blocks) c.args.block
    (put (flat_of blocks c.args.block) c.args.offset c.args.new.now)) c.self.view_is

pub returns-in-Some-clause-ok : goal.returns-in-Some-clause-ok
returns-in-Some-clause-ok c =
    let near = c.write.new.self in
    let far = c.self.inside.far.entries in
    let bytes = c.put.new.bytes in
    let absent = c.write.ensures.absent (λ yes. let no = c.if-write.false in absurd (cc)) in
    let none : at c.args.block near ≡ None = ap (at c.args.block) absent.0 ∙ absent.1 in
    let there : IsSome (lookup (nat_eq c.args.block) far) = sym (ap is_some c.in-Some.ensures.value) in
    let written = (c.get_mut.follows.holds bytes).3 there in
    let found = ap (λ (f : ℕ → ℕ). put f c.args.offset c.args.new.now)
    (ap (λ (o : Option (List ℕ)). slice_index (unwrap_or o [])) c.in-Some.ensures.value
    ∙ sym (far_bytes near far c.args.block none)) in
    far_put near far (c.get_mut.follows.lender bytes).entries c.args.block bytes none written.0
    ∙ ap (λ (f : ℕ → ℕ). update (flat_of (near ++ far)) c.args.block f) (c.put.ensures ∙ found)
    ∙ ap (λ (blocks : List (ℕ × List ℕ)). update (flat_of blocks) c.args.block
    (put (flat_of blocks c.args.block) c.args.offset c.args.new.now))
    (ap (λ (ns : List (ℕ × List ℕ)). ns ++ far) absent.0 ∙ c.self.view_is)

pub returns-in-None-clause-ok : goal.returns-in-None-clause-ok
returns-in-None-clause-ok c =
    let near = c.self.inside.near in
    let far = c.self.inside.far.entries in
    let absent = c.write.ensures.absent (λ yes. let no = c.if-write.false in absurd (cc)) in
    let blank : (place : ℕ) → slice_index (replicate {A = ℕ} 64 0) place ≡ flat_of c.args.self.now c.args.block place =
    λ place. zeros 64 place
    ∙ ap (λ (o : Option (List ℕ)). slice_index (unwrap_or o []) place) c.in-None.ensures.value
    ∙ ap (λ (f : ℕ → ℕ). f place) (sym (far_bytes near far c.args.block absent.1))
    ∙ ap (λ (blocks : List (ℕ × List ℕ)). flat_of blocks c.args.block place) c.self.view_is in
    let put_there : slice_index c.put-in-None.new.bytes ≡ put (flat_of c.args.self.now c.args.block) c.args.offset
    c.args.new.now =
    c.put-in-None.ensures ∙ ap (λ (f : ℕ → ℕ). put f c.args.offset c.args.new.now) (fun_ext blank) in
    let same : c.write.new.self ++ c.get_mut.follows.lender-at-none.entries ≡ c.args.self.now =
    ap (λ (ns : List (ℕ × List ℕ)). ns ++ c.get_mut.follows.lender-at-none.entries) absent.0
    ∙ ap (λ (m : HashMap ℕ (List ℕ) _). near ++ m.entries) c.get_mut.follows.holds-at-none
    ∙ c.self.view_is in
    rw (put_there, same) at c.set.ensures.ok
