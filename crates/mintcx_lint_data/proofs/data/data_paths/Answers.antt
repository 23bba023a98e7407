use Rattle.mintcx_lint_data.proofs.data.data_paths.Goals as goal

pub all_paths-requires : goal.all_paths-requires
all_paths-requires c = c.hierarchies_are_in_shape.ensures c.args.cells.now c.args.hierarchy.now c.requires
