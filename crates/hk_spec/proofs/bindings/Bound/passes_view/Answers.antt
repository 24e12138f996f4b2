use Rattle.std.proofs.Common.{◌≡◌, ℕ, ℤ, Bool, List, arith, ap, ◌∙◌, subst}
use Rattle.std.specs.Int.{w64}
use Rattle.std.proofs.lemmas.Int.{to_z-of_z}
use Rattle.hk_kinds.specs.declared.properties.Prop.{Prop}
use Rattle.hk_spec.specs.Specifications.{BoundSpecification, Specification, IsBound}
use Rattle.hk_spec.specs.Values.{cond_holds}
use Rattle.hk_spec.specs.declared.arguments.Arg.{Arg}
use Rattle.hk_spec.specs.declared.expressions.Cond.{Cond}
use Rattle.hk_spec.proofs.bindings.Bound.passes_view.Goals as goal

abbrev test_at : ℕ → ℕ → ℕ → ℤ → List Arg → List Prop → List Prop → Cond → Bool
test_at value position len best args down up test = cond_holds (record { value = value; position = position; positions = len; best = best; args = args; down = down; up = up }) test

-- a test is told by what it is computed of
same_test : (value position len len' : ℕ) (best best' : ℤ) (args args' : List Arg) (down down' up up' : List Prop) (test test' : Cond) → len ≡ len' → best ≡ best' → args ≡ args' → down ≡ down' → up ≡ up' → test ≡ test' → test_at value position len best args down up test ≡ test_at value position len' best' args' down' up' test'
same_test value position len len' best best' args args' down down' up up' test test' l b a d u t =
    ap (λ x. test_at value position x best args down up test) l
    ∙ (ap (λ x. test_at value position len' x args down up test) b
    ∙ (ap (λ x. test_at value position len' best' x down up test) a
    ∙ (ap (λ x. test_at value position len' best' args' x up test) d
    ∙ (ap (λ x. test_at value position len' best' args' down' x test) u
    ∙ ap (λ x. test_at value position len' best' args' down' up' x) t))))

pub overflow_cast-setting : goal.overflow_cast-setting
overflow_cast-setting c =
    let bound : IsBound c.args.self.now = subst IsBound c.self.view_is c.self.invariant in
    let few = bound.few in
    grind (arith, few, c.requires.position)

pub returns : goal.returns
returns c =
    let len : c.self.inside.len ≡ c.args.self.now.len = ap (λ (b : BoundSpecification). b.len) c.self.view_is in
    let args : c.as_slice.result.now ≡ c.args.self.now.args = c.as_slice.ensures ∙ ap (λ (b : BoundSpecification). b.args) c.self.view_is in
    let test : c.spec.inside.test ≡ c.args.self.now.spec.test = ap (λ (s : Specification). s.test) c.spec.view_is ∙ ap (λ (b : BoundSpecification). b.spec.test) c.self.view_is in
    c.holds.ensures ∙ same_test c.args.value c.args.at _ _ _ _ _ _ _ _ _ _ _ _ len (to_z-of_z w64 c.args.best c.ranges.best) args c.copy.ensures c.copy-2.ensures test
