-- The table of one of several diagrams.
use Rattle.std.proofs.Common.{◌≡◌, ℕ, ◌+◌, ◌<◌, List, [], ◌∷◌, length, drop, get_or, ap, sym, ◌∙◌, arith}
use Rattle.std.proofs.lemmas.List.{drop_more, get_or-map, length-map}
use Rattle.hk_group.specs.Groups.{PlainGroup}
use Rattle.hk_prop.specs.Contents.{PlainTable}
use Rattle.hk_prop.specs.Works.{WorkView, tables_of}

-- the tables from one on are its own and those after it
pub tables_first : (works : List WorkView) (i : ℕ) (work : WorkView) (table : PlainTable) → i < length works → work ≡ get_or works i work → table ≡ work.diagram.table → drop i (tables_of works) ≡ table ∷ drop (i + 1) (tables_of works)
tables_first works i work table within is same =
    drop_more (tables_of works) i [] (omega (arith, within, length-map works (λ (w : WorkView). w.diagram.table)))
    ∙ ap (λ (t : PlainTable). t ∷ drop (i + 1) (tables_of works))
    (get_or-map (λ (w : WorkView). w.diagram.table) works i work [] within ∙ sym (same ∙ ap (λ (w : WorkView). w.diagram.table) is))

pub groups_first : (groups : List PlainGroup) (i : ℕ) (g : PlainGroup) → i < length groups → g ≡ get_or groups i g → drop i groups ≡ g ∷ drop (i + 1) groups
groups_first groups i g within is = drop_more groups i g within ∙ ap (λ (h : PlainGroup). h ∷ drop (i + 1) groups) (sym is)
