-- What is said of a model, by what was found of it.
use Rattle.std.proofs.Common.{◌≡◌, sym, subst, Result, Ok, Err, IfOk, ℕ, ◌<◌, ◌≤◌, List, length}
use Rattle.hk_draft.specs.declared.kinds.RefusalKind.{RefusalKind}
use Rattle.hk_group.specs.Problems.{PlainProblem}
use Rattle.hk_model.specs.Models.{Spells}
use Rattle.hk_model.specs.Refused.{IsRefusal}
use Rattle.hk_search.specs.AnswerTexts.{IsAnswerText}
use Rattle.hkdd.specs.Limits.{most_bytes}
use Rattle.hkdd.specs.declared.due.Due.{Due}
use Rattle.hkdd.specs.Runs.{IsReply, reply_answer, reply_refusal, reply_too_large}
use Rattle.hkdd.specs.Texts.{refusal_text, too_large_text}

pub answers : (bytes text : List ℕ) (problem : PlainProblem) (status : ℕ) → length bytes ≤ most_bytes → Spells bytes problem → IsAnswerText problem text → status ≡ 0 → IsReply bytes status text
answers bytes text problem status short spells is zero = subst (λ n. IsReply bytes n text) (sym zero) (reply_answer short spells is)

-- the answer of a problem, where there was memory for it
pub answered : {E : Type 0} (bytes : List ℕ) (problem : PlainProblem) (made : Result Due E) → length bytes ≤ most_bytes → Spells bytes problem
    → IfOk made (λ due. due.status ≡ 0) → IfOk made (λ due. IsAnswerText problem due.text) → IfOk made (λ due. IsReply bytes due.status due.text)
answered bytes problem (Ok due) short spells zero is = answers bytes due.text problem due.status short spells is zero
answered bytes problem (Err failed) short spells zero is = tt

pub refuses : (bytes text : List ℕ) (line status : ℕ) (kind : RefusalKind) → length bytes ≤ most_bytes → IsRefusal bytes line kind → status ≡ 3 → text ≡ refusal_text line kind → IsReply bytes status text
refuses bytes text line status kind short refused three same =
    subst (λ n. IsReply bytes n text) (sym three) (subst (λ t. IsReply bytes 3 t) (sym same) (reply_refusal short refused))

pub too_large : (bytes text : List ℕ) (status : ℕ) → most_bytes < length bytes → status ≡ 8 → text ≡ too_large_text → IsReply bytes status text
too_large bytes text status long eight same =
    subst (λ n. IsReply bytes n text) (sym eight) (subst (λ t. IsReply bytes 8 t) (sym same) (reply_too_large long))
