use Rattle.hk_domains.proofs.counted.set_bits.Given as goal

abbrev pub ghosts-set_counted : goal.ghosts-set_counted
ghosts-set_counted a = record { name = a.blank.name; parts = a.blank.parts }
