use Rattle.mintc_edges.proofs.designing.edges.Goals as goal

pub edges_in_shape-requires-clause-shape : goal.edges_in_shape-requires-clause-shape
edges_in_shape-requires-clause-shape c = c.hierarchies_are_in_shape.ensures c.args.sources.now.cells.now c.args.sources.now.hierarchy.now c.requires.hierarchy
