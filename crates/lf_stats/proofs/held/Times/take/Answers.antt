use Rattle.std.proofs.Common.{rules, ◌≡◌, ℕ, ◌-◌, ◌<◌, ◌∷◌, Option, true, cond, sym, ap, ◌∙◌, subst, arith}
use Rattle.std.specs.Prelude.{unwrap_or, is_some}
use Rattle.std.specs.BTreeMap.{get}
use Rattle.std.specs.Ordering.{nat_cmp}
use Rattle.lf_rules.specs.Numbers.{times}
use Rattle.lf_stats.specs.Standing.{IsCount}
use Rattle.lf_stats.proofs.Distinct.{times_here, distinct_new, distinct_again}
use Rattle.lf_stats.proofs.Holds.{at_other, count_is, some_kept, each_taken}
use Rattle.lf_stats.proofs.held.Times.take.Goals as goal

pub returns-then-times-lt2 : goal.returns-then-times-lt2
returns-then-times-lt2 c registers told =
    let register = c.args.register in
    let before : ℕ → Option ℕ = get nat_cmp c.args.self.now.0 in
    let after : ℕ → Option ℕ = get nat_cmp c.remove.new.self in
    let updates = c.remove.ensures.updates in
    let kept : c.unwrap_or-times.result ≡ unwrap_or (before register) 0 = search rules in
    let all = times_here register registers in
    let is = count_is (before register) (times register (register ∷ registers)) (told.each register) in
    let last : times register registers ≡ 0 = omega (arith, kept, is, all, c.if-times-lt2.true) in
    let there = some_kept (before register) (times register (register ∷ registers)) (omega (arith, all))
    (told.each register) in
    let taken : cond (is_some c.remove.result) 1 0 ≡ 1 = ap (λ o. cond {A = ℕ} (is_some o) 1 0) c.remove.ensures.value
    ∙ ap (λ b. cond {A = ℕ} b 1 0) there in
    record {
      each = each_taken register registers before after (λ q other. updates.2 q (at_other register q other)) told.each
          (subst (λ o. IsCount o (times register registers)) (sym updates.1) last);
      count = omega (arith, c.remove.ensures.len, taken, told.count, distinct_new registers register last);
    }

pub returns-in-Some : goal.returns-in-Some
returns-in-Some c registers told =
    let register = c.args.register in
    let before : ℕ → Option ℕ = get nat_cmp c.args.self.now.0 in
    let left = c.in-Some.times.now - 1 in
    let after : ℕ → Option ℕ = get nat_cmp (c.get_mut.follows.lender left) in
    let wrote = c.get_mut.follows.holds left in
    let there : is_some (before register) ≡ true = sym (ap is_some c.in-Some.ensures.value) in
    let updates = wrote.3 there in
    let kept : c.unwrap_or-times.result ≡ unwrap_or (before register) 0 = search rules in
    let all = times_here register registers in
    let is = count_is (before register) (times register (register ∷ registers)) (told.each register) in
    let now_is : c.in-Some.times.now ≡ unwrap_or (before register) 0 =
    ap (λ o. unwrap_or o 0) c.in-Some.ensures.value in
    let more : 0 < times register registers = omega (arith, kept, is, all, c.if-times-lt2.false) in
    let same : left ≡ times register registers = omega (arith, now_is, is, all) in
    record {
      each = each_taken register registers before after (λ q other. updates.2 q (at_other register q other)) told.each
          (subst (λ o. IsCount o (times register registers)) (sym updates.1) (same, more));
      count = wrote.2 ∙ told.count ∙ distinct_again registers register more;
    }
