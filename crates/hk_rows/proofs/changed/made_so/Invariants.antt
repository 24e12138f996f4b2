use Rattle.hk_rows.proofs.changed.made_so.Given as goal

abbrev pub ghosts-after_changes : goal.ghosts-after_changes
ghosts-after_changes a = record { name = a.blank.name; parts = a.blank.parts }
