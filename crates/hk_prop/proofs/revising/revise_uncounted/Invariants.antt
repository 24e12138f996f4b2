use Rattle.hk_prop.proofs.revising.revise_uncounted.Given as goal

abbrev pub ghosts-revise_counted : goal.ghosts-revise_counted
ghosts-revise_counted a = record { name = a.blank.name; parts = a.blank.parts }
