use Rattle.hk_basics.proofs.trail.a_pop_gives_back_what_a_level_wrote.Given as goal

abbrev pub ghosts-told_from_the_start : goal.ghosts-told_from_the_start
ghosts-told_from_the_start g a = record { name = a.blank.name; parts = a.blank.parts }
