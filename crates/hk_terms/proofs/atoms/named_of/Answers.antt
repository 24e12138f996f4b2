use Rattle.std.proofs.Common.{ap, refl, ◌∙◌, ◌∷◌}
use Rattle.std.specs.Prelude.{codes}
use Rattle.hk_terms.specs.Operands.{atom_item, atom_word}
use Rattle.hk_terms.proofs.atoms.named_of.Goals as goal

pub returns-in-Some-clause-some : goal.returns-in-Some-clause-some
returns-in-Some-clause-some c =
    atom_item (ap (λ texts. c.args.word.now ∷ texts) (c.in-Some.ensures.some ∙ ap (λ texts. codes "[" ∷ texts) (c.in_ok-after.ensures.some ∙ ap (λ texts. codes "i" ∷ texts) c.in_ok-rest.ensures.some))) c.requires.word

pub returns-clause-some : goal.returns-clause-some
returns-clause-some c = atom_word refl c.requires.word (c.in_default.ensures.none refl) (c.in_default-after_text.ensures.none refl)
