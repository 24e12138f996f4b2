use Rattle.std.proofs.Common.{◌≡◌, ◌<◌, All, List, ℕ, [], ◌∷◌, ◌++◌, length, vec_len, slice_index, get_or, ◌+◌, arith, rules, ap, sym, ◌∙◌, refl, subst}
use Rattle.std.proofs.lemmas.Grind.{common_steps}
use Rattle.std.proofs.lemmas.List.{length_push}
use Rattle.hk_base.specs.Lists.{IsFrontOf}
use Rattle.hk_base.specs.Sets.{Has}
use Rattle.hk_search.specs.inside.Walks.{IsBegun, IsBestAfter}
use Rattle.hk_search.proofs.Begun.{small_from_IsBegun, IsBegun-push}
use Rattle.hk_search.proofs.Trying.{IsBestAfter-settled, priced_after}
use Rattle.hk_search.proofs.Walking.{BeginsBelow, IsBestAfter-nothing, IsBestAfter-skipped, IsBestAfter-more, IsBestAfter-all, front_of_push, pushed_to}
use Rattle.hk_search.proofs.walk.+improve_from.Goals as goal

pub returns-then-is_settled-clause-tried : goal.returns-then-is_settled-clause-tried
returns-then-is_settled-clause-tried t c =
    let settled = c.is_settled.ensures.0 c.if-is_settled.true in
    IsBestAfter-settled c.args.problem.now (IsFrontOf c.args.values.now.items) c.args.best.now settled.0 settled.1 c.requires.priced

pub offer-requires-clause-small : goal.offer-requires-clause-small
offer-requires-clause-small t c =
    subst (All (λ value. value < 128)) (sym c.as_slice.ensures.value) (small_from_IsBegun c.args.problem.now c.args.values.now.items c.domains-domains.ensures.valid c.requires.begun)

pub loop-value-init : goal.loop-value-init
loop-value-init t c = record { same = refl; tried = IsBestAfter-nothing c.args.problem.now c.args.values.now.items c.args.best.now }

pub loop-value-preserved-then-not-has_value : goal.loop-value-preserved-then-not-has_value
loop-value-preserved-then-not-has_value t c =
    let front = c.args.values.now.items in
    let more : length front < length c.args.problem.now.domains = (let same = ap length c.domains-domains.ensures.domains in grind (arith, common_steps)) in
    let size : c.len-2.result ≡ length front = grind (arith, common_steps) in
    let domain : get_or c.domains-domains.result.now c.len-2.result 0 ≡ slice_index c.args.problem.now.domains (length front) =
    ap (λ (domains : List ℕ). get_or domains c.len-2.result 0) c.domains-domains.ensures.domains ∙ ap (λ n. slice_index c.args.problem.now.domains n) size in
    record {
      same = c.loop-value.invariant.same;
      tried = IsBestAfter-skipped c.args.problem.now front c.loop-value.value c.args.best.now c.loop-value.best more
          (λ has. let told = c.has_value.ensures.1 (subst (λ set. Has set c.loop-value.value) (sym domain) has) in let not_told = c.if-not-has_value.true in cc)
          c.loop-value.invariant.tried;
    }

pub improve_from-requires : goal.improve_from-requires
improve_from-requires t c =
    let front = c.args.values.now.items in
    let value = c.loop-value.value in
    let more : length front < length c.args.problem.now.domains = (let same = ap length c.domains-domains.ensures.domains in grind (arith, common_steps)) in
    let pushed : c.push.new.self.items ≡ front ++ value ∷ [] =
    pushed_to front c.loop-value.values.items value c.push.new.self.items c.loop-value.invariant.same c.in_ok-push.ensures.items in
    let longer : length c.push.new.self.items ≡ length front + 1 = ap length pushed ∙ length_push front value in
    let size : c.len-2.result ≡ length front = grind (arith, common_steps) in
    let domain : get_or c.domains-domains.result.now c.len-2.result 0 ≡ slice_index c.args.problem.now.domains (length front) =
    ap (λ (domains : List ℕ). get_or domains c.len-2.result 0) c.domains-domains.ensures.domains ∙ ap (λ n. slice_index c.args.problem.now.domains n) size in
    let has = subst (λ set. Has set value) domain (c.has_value.ensures.0 c.if-not-has_value.false) in (
      search rules,
      (
        subst (IsBegun c.args.problem.now) (sym pushed) (IsBegun-push c.args.problem.now front value c.requires.begun more has),
        priced_after c.args.problem.now (BeginsBelow front value) c.requires.priced c.loop-value.invariant.tried,
      ),
    )

pub loop-value-preserved : goal.loop-value-preserved
loop-value-preserved t c =
    let front = c.args.values.now.items in
    let value = c.loop-value.value in
    let pushed : c.push.new.self.items ≡ front ++ value ∷ [] =
    pushed_to front c.loop-value.values.items value c.push.new.self.items c.loop-value.invariant.same c.in_ok-push.ensures.items in
    let back : c.improve_from.new.values.items ≡ front ++ value ∷ [] = c.in_ok-improve_from.ensures.back ∙ pushed in
    record {
      same = subst (λ (items : List ℕ). c.pop.new.self.items ≡ items) (front_of_push front c.improve_from.new.values.items value (vec_len c.improve_from.new.values) back (grind (arith, common_steps))) c.pop.ensures.rest;
      tried = IsBestAfter-more c.args.problem.now front value c.args.best.now c.loop-value.best c.improve_from.new.best c.loop-value.invariant.tried
          (subst (λ (begun : List ℕ). IsBestAfter c.args.problem.now (IsFrontOf begun) c.loop-value.best c.improve_from.new.best) pushed c.in_ok-improve_from.ensures.tried);
    }

pub returns-clause-tried : goal.returns-clause-tried
returns-clause-tried t c =
    let front = c.args.values.now.items in
    let more : length front < length c.args.problem.now.domains = (let same = ap length c.domains-domains.ensures.domains in grind (arith, common_steps)) in
    let last : c.loop-value.value ≡ 128 = omega arith in
    IsBestAfter-all c.args.problem.now front c.args.best.now c.loop-value.best c.domains-domains.ensures.valid more
    (subst (λ value. IsBestAfter c.args.problem.now (BeginsBelow front value) c.args.best.now c.loop-value.best) last c.loop-value.invariant.tried)
