use Rattle.std.proofs.Common.{[], ◌∙◌}
use Rattle.mintcx_lint_data.specs.Data.{leaf_paths}
use Rattle.mintcx_lint_data.proofs.DataLaws.{flat_pushed}
use Rattle.mintcx_lint_data.proofs.data.paths_of.Goals as goal

pub loop-leaf-preserved : goal.loop-leaf-preserved
loop-leaf-preserved c =
    flat_pushed (leaf_paths c.args.hierarchy.now c.args.cells.now c.args.sources.now) [] c.loop-leaf.paths.items c.push_leaf.new.paths.items c.loop-leaf.leaf c.loop-leaf.invariant c.in_ok-push_leaf.ensures
