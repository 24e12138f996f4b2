-- What the revisions of all groups make of their diagrams.
use Rattle.std.proofs.Common.{◌≡◌, ℕ, zero, suc, ◌+◌, ◌<◌, List, [], ◌∷◌, length, get_or, refl, ap, ap₂, ◌∙◌, arith}
use Rattle.std.specs.Prelude.{slice_index_or, IsFalse, Result, Ok, Err, OnOk, ⊤}
use Rattle.std.specs.declared.alloc.AllocError.{AllocError}
use Rattle.hk_arena.specs.Diagrams.{DiagramLevels}
use Rattle.hk_group.specs.Groups.{PlainGroup}
use Rattle.hk_prop.specs.Contents.{PlainTable}
use Rattle.hk_prop.specs.Passes.{tight_tables}
use Rattle.hk_prop.specs.Works.{WorkView, IsWorkFor, AreWorksFor, OnlyTablesChange, tables_of}
use Rattle.hk_prop.specs.inside.Revised.{PlainRound, IsRevised, IsTellable}

abbrev pub AreRevised : PlainRound → List PlainGroup → List WorkView → List WorkView → Type 0
AreRevised round groups olds news = (k : ℕ) (g : PlainGroup) (w : WorkView) → k < length olds → IsRevised (slice_index_or groups k g) round (slice_index_or olds k w) (slice_index_or news k w)

abbrev pub NoneRefused : List WorkView → Type 0
NoneRefused works = (k : ℕ) (w : WorkView) → k < length works → IsFalse (slice_index_or works k w).refused

module _ (round : PlainRound) where
  all_tight : (groups : List PlainGroup) (olds news : List WorkView) → length olds ≡ length groups → length news ≡ length olds → AreRevised round groups olds news → NoneRefused news
      → tables_of news ≡ tight_tables groups round.problem.domains round.domains round.best round.width (tables_of olds)
  all_tight [] [] [] one same each none = refl
  all_tight [] [] (y ∷ ys) one same each none = absurd (omega arith)
  all_tight [] (x ∷ xs) news one same each none = absurd (omega arith)
  all_tight (g ∷ gs) [] news one same each none = absurd (omega arith)
  all_tight (g ∷ gs) (x ∷ xs) [] one same each none = absurd (omega arith)
  all_tight (g ∷ gs) (x ∷ xs) (y ∷ ys) one same each none =
      ap₂ (λ (t : PlainTable) (ts : List PlainTable). t ∷ ts) ((each 0 g x (omega arith)).table (none 0 y (omega arith)))
      (all_tight gs xs ys (omega arith) (omega arith) (λ k h w low. each (suc k) h w (omega arith)) (λ k w low. none (suc k) w (omega arith)))

  pub tight_after : (olds news : List WorkView) (result : Result ⊤ AllocError) → length olds ≡ length round.problem.groups → length news ≡ length olds → AreRevised round round.problem.groups olds news → OnOk result (NoneRefused news)
      → OnOk result (tables_of news ≡ tight_tables round.problem.groups round.problem.domains round.domains round.best round.width (tables_of olds))
  tight_after olds news (Ok u) one same each none = all_tight round.problem.groups olds news one same each none
  tight_after olds news (Err e) one same each none = tt

  pub works_after : (olds news : List WorkView) → length news ≡ length olds → AreWorksFor round.problem round.width olds → AreRevised round round.problem.groups olds news → AreWorksFor round.problem round.width news
  works_after olds news same works each = record {
    one_each = same ∙ works.one_each;
    each = λ k g w within.
        let low : k < length olds = omega (arith, within, same) in
        let old = works.each k g w low in
        let turn = each k g w low in
        record {
          shape = ap (λ (d : DiagramLevels). d.shape) turn.others ∙ old.shape;
          wide = ap (λ (d : DiagramLevels). d.width) turn.others ∙ old.wide;
          buffers = turn.buffers;
        };
  }

  no_group : PlainGroup
  no_group = record { vars = []; parts = [] }

  pub tellable_after : (olds news : List WorkView) (result : Result ⊤ AllocError) → length news ≡ length olds → AreRevised round round.problem.groups olds news → OnOk result (NoneRefused news)
      → OnOk result ((k : ℕ) (w : WorkView) → k < length news → IsTellable (slice_index_or news k w).diagram.table)
  tellable_after olds news (Ok u) same each none = λ k w within. (each k no_group w (omega (arith, within, same))).tellable (none k w within)
  tellable_after olds news (Err e) same each none = tt

  pub only_tables : (olds news : List WorkView) → AreRevised round round.problem.groups olds news → OnlyTablesChange olds news
  only_tables olds news each = λ k w within. (each k no_group w within).others
