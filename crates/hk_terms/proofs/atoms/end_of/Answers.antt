use Rattle.std.proofs.Common.{ap, ◌∷◌}
use Rattle.std.specs.Prelude.{codes}
use Rattle.hk_terms.specs.Operands.{atom_low, atom_high}
use Rattle.hk_terms.proofs.atoms.end_of.Goals as goal

pub returns-in-Some-clause-some : goal.returns-in-Some-clause-some
returns-in-Some-clause-some c = atom_low (ap (λ texts. c.args.word.now ∷ codes "." ∷ texts) c.in-Some.ensures.some) c.requires.word

pub returns-clause-some : goal.returns-clause-some
returns-clause-some c = atom_high (ap (λ texts. c.args.word.now ∷ codes "." ∷ texts) c.in_ok-rest.ensures.some) c.requires.word
