use Rattle.std.proofs.Common.{rules, Ok, Err, ◌≡◌, [], ◌++◌, List, ℕ, refl, sym, ap, ◌∙◌, subst, append_assoc, arith}
use Rattle.std.proofs.lemmas.List.{append-nil}
use Rattle.lf_verdict.specs.inner.Ahead.{ReadsOn}
use Rattle.lf_verdict.proofs.Aheads.{reads_none, reads_both, can_still, part_stopped, split_there, none_left}
use Rattle.lf_verdict.proofs.session.ahead.Ahead.read_in_parts.Goals as goal

pub loop-rest-init : goal.loop-rest-init
loop-rest-init g c = record { front = []; cut = refl; read = reads_none c.args.self.now c.requires.can }

pub read-requires-clause-can : goal.read-requires-clause-can
read-requires-clause-can g c κs within =
    let loop = c.loop-rest.invariant in
    can_still c.args.self.now c.loop-rest.self loop.front c.requires.can loop.read

pub returns-in_err-read : goal.returns-in_err-read
returns-in_err-read g c =
    let loop = c.loop-rest.invariant in
    let part = c.split_at.result.0.now in
    let behind = c.split_at.result.1.now in
    let stop = c.in_err-read.field-0.0 in
    let is : c.from_residual.result ≡ Err stop = search rules in
    rw is (part_stopped c.faults_stand.ensures c.args.self.now c.loop-rest.self c.read.new.self c.args.piece.now
    loop.front part behind stop
    (loop.cut ∙ ap (λ (xs : List ℕ). loop.front ++ xs) (split_there c.min.result c.loop-rest.rest.now part behind
    c.split_at.ensures.front c.split_at.ensures.back))
    (λ i. omega (arith, c.type_inv.piece i)) loop.read c.in_err-read.ensures)

pub loop-rest-preserved : goal.loop-rest-preserved
loop-rest-preserved g c =
    let loop = c.loop-rest.invariant in
    let part = c.split_at.result.0.now in
    let behind = c.split_at.result.1.now in
    let split = split_there c.min.result c.loop-rest.rest.now part behind c.split_at.ensures.front
    c.split_at.ensures.back in
    record {
      front = loop.front ++ part;
      cut = loop.cut ∙ ap (λ (xs : List ℕ). loop.front ++ xs) split ∙ sym (append_assoc loop.front part behind);
      read = reads_both c.args.self.now c.loop-rest.self c.read.new.self loop.front part loop.read
          c.in_ok-read.ensures;
    }

pub returns : goal.returns
returns g c =
    let loop = c.loop-rest.invariant in
    let none = none_left c.loop-rest.rest.now c.loop-rest-test.ensures in
    subst (λ (xs : List ℕ). ReadsOn c.args.self.now c.loop-rest.self xs (Ok tt))
    (sym (loop.cut ∙ ap (λ (xs : List ℕ). loop.front ++ xs) none ∙ append-nil loop.front)) loop.read
