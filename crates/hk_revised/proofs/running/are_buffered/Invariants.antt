use Rattle.hk_revised.proofs.running.are_buffered.Given as goal

abbrev pub ghosts-are_taken_back : goal.ghosts-are_taken_back
ghosts-are_taken_back a = record { name = a.blank.name; parts = a.blank.parts }
