use Rattle.mintc_graph_walks.proofs.walks.greatest_walks_uncounted.Given as goal

abbrev pub ghosts-walks_from_blank : goal.ghosts-walks_from_blank
ghosts-walks_from_blank g a = record { name = a.blank.name; parts = a.blank.parts }
