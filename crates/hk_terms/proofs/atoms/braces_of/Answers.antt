use Rattle.std.proofs.Common.{◌∙◌, ◌∷◌, ap}
use Rattle.std.specs.Prelude.{codes}
use Rattle.hk_terms.specs.Operands.{atom_one}
use Rattle.hk_terms.proofs.atoms.braces_of.Goals as goal

pub returns-in-Some-clause-some : goal.returns-in-Some-clause-some
returns-in-Some-clause-some c =
    atom_one (ap (λ texts. codes "{" ∷ texts) (c.in-Some.ensures.some ∙ ap (λ texts. codes "v" ∷ texts) c.in_ok-rest.ensures.some))
