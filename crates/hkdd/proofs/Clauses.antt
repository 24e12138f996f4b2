-- What a run's ending says of each kind of file and words.
use Rattle.std.proofs.Common.{◌≡◌, ◌∙◌, sym, refl, ap, subst, inl, inr, arith, ℕ, ◌+◌, ◌<◌, ◌≤◌, List, [], length, take}
use Rattle.std.proofs.lemmas.List.{take_all, length-take-le}
use Rattle.std.specs.Prelude.{◌⊎◌}
use Rattle.hk_base.specs.Hosts.{View, ReadFaulted, WriteFaulted}
use Rattle.hk_draft.specs.declared.kinds.RefusalKind.{RefusalKind}
use Rattle.hk_group.specs.Problems.{PlainProblem}
use Rattle.hk_model.specs.Models.{Spells}
use Rattle.hk_model.specs.Refused.{IsRefusal}
use Rattle.hk_model.proofs.Outcomes.{one_problem, no_refusal, one_refusal}
use Rattle.hk_search.specs.AnswerTexts.{IsAnswerText}
use Rattle.hkdd.specs.Limits.{most_bytes}
use Rattle.hkdd.specs.Texts.{usage_text, refusal_text, too_large_text}
use Rattle.hkdd.specs.Runs.{IsSolve, AreNoCommand, WereRead, IsReply, reply_answer, reply_refusal, reply_too_large, due_usage, due_reply, due_read_fault, IsOut, Ends, ends_whole, ends_write_fault, ends_no_memory, IsStopped, stopped_reading, stopped_writing, stopped_by_memory, Printed, PrintedAnswer, SolvesFile, IsRefused, Takes, Ran}

-- one command names one file
one_file : {words : List (List ℕ)} {a b : List ℕ} → IsSolve words a → IsSolve words b → a ≡ b
one_file x y = cc

-- a file that isn't too long was read whole
read_whole : (n : ℕ) (bytes whole : List ℕ) → bytes ≡ take (n + 1) whole → length whole ≤ n → bytes ≡ whole
read_whole n bytes whole same short = same ∙ take_all (n + 1) whole (omega arith)

-- of a file that is too long enough was read to show it
read_longer : (n : ℕ) (bytes whole : List ℕ) → bytes ≡ take (n + 1) whole → n < length whole → n < length bytes
read_longer n bytes whole same long =
    let enough : n + 1 ≤ length whole = omega arith in
    omega (arith, ap length same, length-take-le (n + 1) whole enough)

-- where no more than a front of bytes was read that isn't too long, they aren't either
read_shorter : (n : ℕ) (bytes whole : List ℕ) → bytes ≡ take (n + 1) whole → length bytes ≤ n → length whole ≤ n
read_shorter n bytes whole same short = grind (arith, ap length same, length-take-le (n + 1) whole)

-- bytes that are too many are those of a file that is too long
longer_whole : (n : ℕ) (bytes whole : List ℕ) → bytes ≡ take (n + 1) whole → n < length bytes → n < length whole
longer_whole n bytes whole same long = grind (arith, ap length same, take_all (n + 1) whole)

-- the bytes that a reply is about, by those that are told
told_bytes : {words : List (List ℕ)} {old : View} {file bytes whole : List ℕ} → IsSolve words file → WereRead old file bytes → SolvesFile words old whole → bytes ≡ take (most_bytes + 1) whole
told_bytes {old = old} solve were solves = were _ (ap old.told (one_file solve solves.solve) ∙ solves.told)

-- what was read of a file that isn't too long is all of it
all_read : {words : List (List ℕ)} {old : View} {file bytes whole : List ℕ} → IsSolve words file → WereRead old file bytes → SolvesFile words old whole → length whole ≤ most_bytes → bytes ≡ whole
all_read {bytes = bytes} {whole = whole} solve were solves short = read_whole most_bytes bytes whole (told_bytes solve were solves) short

answer_of : {bytes whole text : List ℕ} {status : ℕ} {old new : View} (problem : PlainProblem) → bytes ≡ whole → length whole ≤ most_bytes → Spells whole problem → IsReply bytes status text → IsOut old new text → PrintedAnswer problem old status new
answer_of {bytes = bytes} problem same short spells (reply_answer {text = text} {problem = other} _ spelled is) out = record {
  text = text;
  is_answer = subst (λ p. IsAnswerText p text) (one_problem bytes other problem spelled (subst (λ b. Spells b problem) (sym same) spells)) is;
  printed = record { ended = refl; out = out };
}
answer_of {bytes = bytes} problem same short spells (reply_refusal {line = line} {kind = kind} _ refused) out =
    absurd (no_refusal bytes problem line kind (subst (λ b. Spells b problem) (sym same) spells) refused)
answer_of problem same short spells (reply_too_large long) out = absurd (omega (arith, ap length same))

solves : {words : List (List ℕ)} {old new : View} {result : ℕ} (bytes : List ℕ) (problem : PlainProblem) → Ends words old result new → SolvesFile words old bytes → length bytes ≤ most_bytes → Spells bytes problem → PrintedAnswer problem old result new ⊎ IsStopped old new result
solves bytes problem (ends_whole (due_usage unknown) out) file short spells = absurd (unknown file.file file.solve)
solves bytes problem (ends_whole (due_reply solve were reply) out) file short spells =
    inl (answer_of problem (all_read solve were file short) short spells reply out)
solves bytes problem (ends_whole (due_read_fault solve rose) out) file short spells = inr (stopped_reading rose)
solves bytes problem (ends_write_fault due front rose) file short spells = inr (stopped_writing rose)
solves bytes problem (ends_no_memory out) file short spells = inr stopped_by_memory

refusal_of : {bytes whole text : List ℕ} {status : ℕ} {old new : View} (line : ℕ) (kind : RefusalKind) → bytes ≡ whole → length whole ≤ most_bytes → IsRefusal whole line kind → IsReply bytes status text → IsOut old new text → Printed 3 (refusal_text line kind) old status new
refusal_of {bytes = bytes} line kind same short refused (reply_answer {problem = problem} _ spelled is) out =
    absurd (no_refusal bytes problem line kind spelled (subst (λ b. IsRefusal b line kind) (sym same) refused))
refusal_of {bytes = bytes} {old = old} {new = new} line kind same short refused (reply_refusal {line = other} {kind = another} _ was) out =
    let one = one_refusal bytes other line another kind was (subst (λ b. IsRefusal b line kind) (sym same) refused) in
    record {
      ended = refl;
      out = subst (λ n. IsOut old new (refusal_text n kind)) one.0 (subst (λ k. IsOut old new (refusal_text other k)) one.1 out);
    }
refusal_of line kind same short refused (reply_too_large long) out = absurd (omega (arith, ap length same))

refuses : {words : List (List ℕ)} {old new : View} {result : ℕ} (bytes : List ℕ) (line : ℕ) (kind : RefusalKind) → Ends words old result new → SolvesFile words old bytes → length bytes ≤ most_bytes → IsRefusal bytes line kind → Printed 3 (refusal_text line kind) old result new ⊎ IsStopped old new result
refuses bytes line kind (ends_whole (due_usage unknown) out) file short refused = absurd (unknown file.file file.solve)
refuses bytes line kind (ends_whole (due_reply solve were reply) out) file short refused =
    inl (refusal_of line kind (all_read solve were file short) short refused reply out)
refuses bytes line kind (ends_whole (due_read_fault solve rose) out) file short refused = inr (stopped_reading rose)
refuses bytes line kind (ends_write_fault due front rose) file short refused = inr (stopped_writing rose)
refuses bytes line kind (ends_no_memory out) file short refused = inr stopped_by_memory

longer_of : {bytes text : List ℕ} {status : ℕ} {old new : View} → most_bytes < length bytes → IsReply bytes status text → IsOut old new text → Printed 8 too_large_text old status new
longer_of long (reply_answer short spelled is) out = absurd (omega arith)
longer_of long (reply_refusal short was) out = absurd (omega arith)
longer_of long (reply_too_large _) out = record { ended = refl; out = out }

too_large : {words : List (List ℕ)} {old new : View} {result : ℕ} (bytes : List ℕ) → Ends words old result new → SolvesFile words old bytes → most_bytes < length bytes → Printed 8 too_large_text old result new ⊎ IsStopped old new result
too_large bytes (ends_whole (due_usage unknown) out) file long = absurd (unknown file.file file.solve)
too_large bytes (ends_whole (due_reply {bytes = were} solve told reply) out) file long =
    inl (longer_of (read_longer most_bytes were bytes (told_bytes solve told file) long) reply out)
too_large bytes (ends_whole (due_read_fault solve rose) out) file long = inr (stopped_reading rose)
too_large bytes (ends_write_fault due front rose) file long = inr (stopped_writing rose)
too_large bytes (ends_no_memory out) file long = inr stopped_by_memory

shows_usage : {words : List (List ℕ)} {old new : View} {result : ℕ} → Ends words old result new → AreNoCommand words → Printed 2 usage_text old result new ⊎ IsStopped old new result
shows_usage (ends_whole (due_usage _) out) unknown = inl (record { ended = refl; out = out })
shows_usage (ends_whole (due_reply solve were reply) out) unknown = absurd (unknown _ solve)
shows_usage (ends_whole (due_read_fault solve rose) out) unknown = absurd (unknown _ solve)
shows_usage (ends_write_fault due front rose) unknown = inr (stopped_writing rose)
shows_usage (ends_no_memory out) unknown = inr stopped_by_memory

-- the status of a reply is 0, 3 or 8
not_replied : {bytes text : List ℕ} {status : ℕ} → IsReply bytes status text → 0 < status → (status ≡ 3 → ⊥) → (status ≡ 8 → ⊥) → ⊥
not_replied (reply_answer short spelled is) some not_three not_eight = omega arith
not_replied (reply_refusal short was) some not_three not_eight = not_three refl
not_replied (reply_too_large long) some not_three not_eight = not_eight refl

-- bytes of which a reply says 3 are refused, and those of which it says 8 are too many
refused_by : {bytes text : List ℕ} {status : ℕ} (whole : List ℕ) → IsReply bytes status text → status ≡ 3 → bytes ≡ take (most_bytes + 1) whole → IsRefused whole
refused_by whole (reply_answer short spelled is) three same = absurd (omega arith)
refused_by {bytes = bytes} whole (reply_refusal {line = line} {kind = kind} short was) three same =
    let fits = read_shorter most_bytes bytes whole same short in
    record {
      short = fits;
      line = line;
      kind = kind;
      refusal = subst (λ b. IsRefusal b line kind) (read_whole most_bytes bytes whole same fits) was;
    }
refused_by whole (reply_too_large long) three same = absurd (omega arith)

larger_by : {bytes text : List ℕ} {status : ℕ} (whole : List ℕ) → IsReply bytes status text → status ≡ 8 → bytes ≡ take (most_bytes + 1) whole → most_bytes < length whole
larger_by whole (reply_answer short spelled is) eight same = absurd (omega arith)
larger_by whole (reply_refusal short was) eight same = absurd (omega arith)
larger_by {bytes = bytes} whole (reply_too_large long) eight same = longer_whole most_bytes bytes whole same long

refused_alone : {words : List (List ℕ)} {old new : View} {result : ℕ} (bytes : List ℕ) → Ends words old result new → result ≡ 3 → SolvesFile words old bytes → IsRefused bytes
refused_alone bytes (ends_whole (due_usage unknown) out) three file = absurd (omega arith)
refused_alone bytes (ends_whole (due_reply solve were reply) out) three file = refused_by bytes reply three (told_bytes solve were file)
refused_alone bytes (ends_whole (due_read_fault solve rose) out) three file = absurd (omega arith)
refused_alone bytes (ends_write_fault due front rose) three file = absurd (omega arith)
refused_alone bytes (ends_no_memory out) three file = absurd (omega arith)

too_large_alone : {words : List (List ℕ)} {old new : View} {result : ℕ} (bytes : List ℕ) → Ends words old result new → result ≡ 8 → SolvesFile words old bytes → most_bytes < length bytes
too_large_alone bytes (ends_whole (due_usage unknown) out) eight file = absurd (omega arith)
too_large_alone bytes (ends_whole (due_reply solve were reply) out) eight file = larger_by bytes reply eight (told_bytes solve were file)
too_large_alone bytes (ends_whole (due_read_fault solve rose) out) eight file = absurd (omega arith)
too_large_alone bytes (ends_write_fault due front rose) eight file = absurd (omega arith)
too_large_alone bytes (ends_no_memory out) eight file = absurd (omega arith)

usage_alone : {words : List (List ℕ)} {old new : View} {result : ℕ} → Ends words old result new → result ≡ 2 → AreNoCommand words
usage_alone (ends_whole (due_usage unknown) out) two = unknown
usage_alone (ends_whole (due_reply solve were reply) out) two = absurd (not_replied reply (omega arith) (λ three. omega arith) (λ eight. omega arith))
usage_alone (ends_whole (due_read_fault solve rose) out) two = absurd (omega arith)
usage_alone (ends_write_fault due front rose) two = absurd (omega arith)
usage_alone (ends_no_memory out) two = absurd (omega arith)

read_fault_alone : {words : List (List ℕ)} {old new : View} {result : ℕ} → Ends words old result new → result ≡ 4 → ReadFaulted old new
read_fault_alone (ends_whole (due_usage unknown) out) four = absurd (omega arith)
read_fault_alone (ends_whole (due_reply solve were reply) out) four = absurd (not_replied reply (omega arith) (λ three. omega arith) (λ eight. omega arith))
read_fault_alone (ends_whole (due_read_fault solve rose) out) four = rose
read_fault_alone (ends_write_fault due front rose) four = absurd (omega arith)
read_fault_alone (ends_no_memory out) four = absurd (omega arith)

write_fault_alone : {words : List (List ℕ)} {old new : View} {result : ℕ} → Ends words old result new → result ≡ 5 → WriteFaulted old new
write_fault_alone (ends_whole (due_usage unknown) out) five = absurd (omega arith)
write_fault_alone (ends_whole (due_reply solve were reply) out) five = absurd (not_replied reply (omega arith) (λ three. omega arith) (λ eight. omega arith))
write_fault_alone (ends_whole (due_read_fault solve rose) out) five = absurd (omega arith)
write_fault_alone (ends_write_fault due front rose) five = rose
write_fault_alone (ends_no_memory out) five = absurd (omega arith)

no_memory : {words : List (List ℕ)} {old new : View} {result : ℕ} → Ends words old result new → result ≡ 7 → IsOut old new []
no_memory (ends_whole (due_usage unknown) out) seven = absurd (omega arith)
no_memory (ends_whole (due_reply solve were reply) out) seven = absurd (not_replied reply (omega arith) (λ three. omega arith) (λ eight. omega arith))
no_memory (ends_whole (due_read_fault solve rose) out) seven = absurd (omega arith)
no_memory (ends_write_fault due front rose) seven = absurd (omega arith)
no_memory (ends_no_memory out) seven = out

-- all that is known of a run follows from how it ended, and from what it took
pub ran : {words : List (List ℕ)} {old new : View} {result : ℕ} → Ends words old result new → Takes words old new → Ran words old result new
ran ends takes = record {
  ends = ends;
  takes = takes;
  solves = λ bytes problem. solves bytes problem ends;
  refuses = λ bytes line kind. refuses bytes line kind ends;
  refused_alone = λ three bytes. refused_alone bytes ends three;
  too_large = λ bytes. too_large bytes ends;
  too_large_alone = λ eight bytes. too_large_alone bytes ends eight;
  shows_usage = shows_usage ends;
  usage_alone = usage_alone ends;
  read_fault_alone = read_fault_alone ends;
  write_fault_alone = write_fault_alone ends;
  no_memory = no_memory ends;
}
