use Rattle.mintc_annotate.proofs.tracing.trace_phases.Goals as goal

pub trace_in_shape-requires-clause-shape : goal.trace_in_shape-requires-clause-shape
trace_in_shape-requires-clause-shape c = c.hierarchies_are_in_shape.ensures c.args.cells.now c.args.hierarchy.now c.requires.hierarchy
