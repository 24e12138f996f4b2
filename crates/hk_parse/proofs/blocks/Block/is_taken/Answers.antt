use Rattle.std.proofs.Common.{refl, sym, ◌∙◌, inl, inr}
use Rattle.hk_spec.specs.Names.{reserved_words}
use Rattle.std.proofs.lemmas.Bool.{both_ways}
use Rattle.hk_parse.specs.BlockLines.{part_names}
use Rattle.hk_terms.proofs.NameLists.{listed_found, found_listed}
use Rattle.hk_parse.proofs.blocks.Block.is_taken.Goals as goal

pub returns-then-is_reserved : goal.returns-then-is_reserved
returns-then-is_reserved c =
    (λ _. inl (listed_found reserved_words c.args.name.now (sym c.is_reserved.ensures ∙ c.if-is_reserved.true)), λ _. refl)

pub returns : goal.returns
returns c = (
  λ found. inr (listed_found (part_names c.args.self.now) c.args.name.now (sym c.has_name.ensures ∙ found)),
  λ taken. elim taken [
    | inl reserved ↦ absurd (both_ways _ (sym c.is_reserved.ensures ∙ c.if-is_reserved.false) (found_listed reserved_words c.args.name.now reserved))
    | inr listed ↦ c.has_name.ensures ∙ found_listed (part_names c.args.self.now) c.args.name.now listed
  ],
)
