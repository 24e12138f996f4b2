use Rattle.hk_basics.proofs.cells.a_write_changes_its_cell_alone.Given as goal

abbrev pub ghosts-changed : goal.ghosts-changed
ghosts-changed g a = record { name = a.blank.name; parts = a.blank.parts }
