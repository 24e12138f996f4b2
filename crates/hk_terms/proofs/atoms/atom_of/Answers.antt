use Rattle.hk_terms.specs.Operands.{atom_number}
use Rattle.hk_terms.proofs.atoms.atom_of.Goals as goal

pub returns-in-Some-number_of-clause-some : goal.returns-in-Some-number_of-clause-some
returns-in-Some-number_of-clause-some c =
    let found = c.in-Some-number_of.ensures in
    atom_number found.some found.number.1
