use Rattle.mintc_tests_search.proofs.paths.+listed.Given as goal

abbrev pub decreases-listed : goal.decreases-listed
decreases-listed l = l.most
