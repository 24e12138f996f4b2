use Rattle.std.proofs.Common.{◌∙◌, ap, sym, map, string_bytes, ℕ, List, [], ◌∷◌, arith, codes}
use Rattle.std.specs.Cmp.Lexicographic.{same_text}
use Rattle.hkdd.proofs.Words.{two_items}
use Rattle.hkdd.proofs.run.file_of.Goals as goal

pub returns-in-len2-clause-solve : goal.returns-in-len2-clause-solve
returns-in-len2-clause-solve c =
    let both = two_items c.args.words.now c.command-item.result c.file-item.result (omega arith) (omega arith) c.command-item.is c.file-item.is in
    let command = same_text _ _ c.if-eq.ensures in
    ap (map string_bytes) both
    ∙ ap (λ (word : List ℕ). word ∷ string_bytes c.file-item.result ∷ []) (sym c.as_str.ensures.value ∙ command)
    ∙ ap (λ (file : List ℕ). codes "solve" ∷ file ∷ []) (sym c.as_str-in-len2.ensures.value)
