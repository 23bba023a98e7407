use Rattle.mintcx_lint.proofs.storage.storage_count.Goals as goal

pub count_storage-requires : goal.count_storage-requires
count_storage-requires c = c.hierarchies_are_in_shape.ensures c.args.cells.now c.args.hierarchy.now c.requires
