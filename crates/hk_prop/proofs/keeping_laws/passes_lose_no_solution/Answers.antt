use Rattle.hk_prop.proofs.KeptSolutions.{node_keeps, empty_has_none, empty_where_first}
use Rattle.hk_prop.proofs.keeping_laws.passes_lose_no_solution.Goals as goal
use Rattle.hk_prop.specs.Passes.{node_passes}

pub returns-clause-keeps : goal.returns-clause-keeps
returns-clause-keeps c = λ p width best at valid some keeps. (node_keeps p valid width some best at keeps).0

pub returns-clause-loses_none : goal.returns-clause-loses_none
returns-clause-loses_none c = λ p width best at valid some keeps. (node_keeps p valid width some best at keeps).1

pub returns-clause-empty : goal.returns-clause-empty
returns-clause-empty c = λ p width best at valid some keeps empty values is.
    empty_has_none p best (node_passes p width best at).last.domains (empty_where_first (node_passes p width best at).last.domains empty) values ((node_keeps p valid width some best at keeps).1 values is)
