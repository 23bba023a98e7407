use Rattle.mintcx_cycles.proofs.cycles.at_cycle_uncounted.Given as goal

abbrev pub ghosts-at_cycle_from : goal.ghosts-at_cycle_from
ghosts-at_cycle_from a = record { name = a.blank.name; parts = a.blank.parts }
