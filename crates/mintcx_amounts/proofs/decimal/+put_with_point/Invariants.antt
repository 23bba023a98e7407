use Rattle.mintcx_amounts.proofs.decimal.+put_with_point.Given as goal

abbrev pub decreases-put_with_point : goal.decreases-put_with_point
decreases-put_with_point l = l.places
