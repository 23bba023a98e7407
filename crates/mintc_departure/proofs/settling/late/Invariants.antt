use Rattle.mintc_departure.proofs.settling.late.Given as goal

abbrev pub ghosts-settle : goal.ghosts-settle
ghosts-settle a = record { name = a.blank.name; parts = a.blank.parts }
