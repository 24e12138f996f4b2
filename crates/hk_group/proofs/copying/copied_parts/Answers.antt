use Rattle.std.proofs.Common.{◌≡◌, ◌++◌, ◌∷◌, [], ℕ, List, All, sym, ◌∙◌, subst, ap}
use Rattle.std.proofs.lemmas.List.Elements.{All-push}
use Rattle.hk_group.specs.Groups.{Part, IsPart}
use Rattle.hk_group.proofs.PartsMade.{lengths_left, parts_left}
use Rattle.hk_group.proofs.copying.copied_parts.Goals as goal

pub loop-i-preserved : goal.loop-i-preserved
loop-i-preserved c =
    let part : List ℕ → Part = λ scope. record { bound = c.index-specs-i.result; scope = scope } in
    let named : c.push_part.new.parts ≡ c.loop-i.parts ++ part c.index-scopes-i.result ∷ [] = c.in_default.ensures.parts ∙ ap (λ scope. c.loop-i.parts ++ part scope ∷ []) c.as_slice.ensures in
    record {
      parts = parts_left c.args.specs.now c.args.scopes.now c.loop-i.i c.index-specs-i.result c.index-scopes-i.result c.loop-i-test.true c.index-specs-i.is c.index-scopes-i.is c.loop-i.invariant.left _ c.loop-i.parts c.push_part.new.parts c.loop-i.invariant.parts named;
      rules = subst (All IsPart) (sym c.in_default.ensures.parts) (All-push IsPart c.loop-i.parts (part c.as_slice.result.now) c.loop-i.invariant.rules c.in_default.ensures.rules);
      left = lengths_left c.args.specs.now c.args.scopes.now c.loop-i.i c.index-specs-i.result c.index-scopes-i.result c.loop-i-test.true c.index-specs-i.is c.index-scopes-i.is c.loop-i.invariant.left;
    }
