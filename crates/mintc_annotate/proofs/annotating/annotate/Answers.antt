use Rattle.mintc_annotate.proofs.annotating.annotate.Goals as goal

pub annotate_in_shape-requires-clause-shape : goal.annotate_in_shape-requires-clause-shape
annotate_in_shape-requires-clause-shape c = c.hierarchies_are_in_shape.ensures c.args.cells.now c.args.hierarchy.now c.requires.hierarchy
