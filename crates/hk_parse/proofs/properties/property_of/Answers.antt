use Rattle.std.proofs.Common.{refl}
use Rattle.hk_parse.proofs.SideTexts.{no_property_name, no_kind_word, no_kind, no_init, property_read}
use Rattle.hk_parse.proofs.properties.property_of.Goals as goal

pub returns-in_err-name-clause-none : goal.returns-in_err-name-clause-none
returns-in_err-name-clause-none c = λ _ name kind init are. no_property_name (c.in_err-name.ensures.none refl) are

pub returns-in_err-word-clause-none : goal.returns-in_err-word-clause-none
returns-in_err-word-clause-none c = λ _ name kind init are. no_kind_word c.in_ok-name.ensures.some (c.in_err-word.ensures.none refl) are

pub returns-in_err-kind-clause-none : goal.returns-in_err-kind-clause-none
returns-in_err-kind-clause-none c = λ _ name kind init are. no_kind c.in_ok-name.ensures.some c.in_ok-word.ensures.some (c.in_err-kind.ensures.none refl) are

pub returns-in_err-init-clause-none : goal.returns-in_err-init-clause-none
returns-in_err-init-clause-none c = λ _ name kind init are. no_init c.in_ok-name.ensures.some c.in_ok-word.ensures.some _ c.in_ok-kind.ensures.some (c.in_err-init.ensures.none refl) are

pub returns-clause-some : goal.returns-clause-some
returns-clause-some c = property_read c.in_ok-name.ensures.some c.in_ok-name.ensures.word c.in_ok-word.ensures.some c.in_ok-kind.ensures.some c.in_ok-init.ensures.some
