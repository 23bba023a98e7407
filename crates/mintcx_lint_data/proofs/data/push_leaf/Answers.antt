use Rattle.mintcx_lint_data.specs.Data.{path_at}
use Rattle.mintcx_lint_data.proofs.DataLaws.{flat_pushed}
use Rattle.mintcx_lint_data.proofs.data.push_leaf.Goals as goal

pub loop-pin-preserved : goal.loop-pin-preserved
loop-pin-preserved c =
    flat_pushed (path_at c.args.hierarchy.now c.args.cells.now c.args.sources.now c.args.leaf) c.args.paths.now.items c.loop-pin.paths.items c.push_path.new.paths.items c.loop-pin.pin c.loop-pin.invariant c.in_ok-push_path.ensures
