use Rattle.hk_prop.proofs.FixedNodes.{fewer_stands, node_stands, opening_stands}
use Rattle.hk_prop.proofs.keeping_laws.every_content_stands.Goals as goal

pub returns-clause-opening : goal.returns-clause-opening
returns-clause-opening c = λ p best valid. opening_stands p valid best

pub returns-clause-passes : goal.returns-clause-passes
returns-clause-passes c = λ p width best at valid some stands. node_stands p valid width some best at stands

pub returns-clause-fewer : goal.returns-clause-fewer
returns-clause-fewer c = fewer_stands
