-- How the steps and the initial values of properties are written.
use Rattle.hk_spec.specs.declared.parts.StepExpr.{StepExpr}
use Rattle.hk_spec.specs.declared.parts.StepExpr.TheVariants as step
use Rattle.hk_kinds.specs.declared.properties.Prop.{Prop}
use Rattle.hk_kinds.specs.declared.properties.Prop.TheVariants as property
use Rattle.hk_parse.specs.LineTexts.{InitText, Single, Pair, Values, StepText, ToNumber, ToPair, ToSet}
use Rattle.hk_terms.specs.Names.{Names}
use Rattle.hk_terms.specs.Trees.{is_negative, digits_of, member_texts, set_text, num_text}

-- how the step of a property is written
abbrev pub step_text : Names → StepExpr → StepText
step_text names (step.Num e) = ToNumber (num_text names e)
step_text names (step.Pair low high) = ToPair (num_text names low) (num_text names high)
step_text names (step.Set e) = ToSet (set_text names e)

-- how an initial value is written
abbrev pub init_text : Prop → InitText
init_text (property.Num n) = Single (is_negative n) (digits_of n)
init_text (property.Pair low high) = Pair (is_negative low) (digits_of low) (is_negative high) (digits_of high)
init_text (property.Bits set) = Values (member_texts set)
