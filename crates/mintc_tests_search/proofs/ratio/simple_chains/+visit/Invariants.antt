use Rattle.mintc_tests_search.proofs.ratio.simple_chains.+visit.Given as goal

abbrev pub decreases-visit : goal.decreases-visit
decreases-visit l = l.left
