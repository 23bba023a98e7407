use Rattle.std.proofs.Common.{◌&&◌, not, ℕ}
use Rattle.std.specs.Option.{option_copied}
use Rattle.mintc_flatten_hierarchy.specs.Sources.{source_of, module_at, is_stub}
use Rattle.mintc_flatten_hierarchy.specs.Refusals.{may_be_top}
use Rattle.mintc_flatten.proofs.TopLaws.{tops_step}
use Rattle.mintc_flatten.proofs.tops.find_tops.Goals as goal

pub loop-number-preserved : goal.loop-number-preserved
loop-number-preserved c =
    let s = source_of c.args.cells.now c.args.modules.now in
    tops_step (λ (k : ℕ). not (is_stub s (module_at s k)) && may_be_top s (option_copied c.args.top) k) c.loop-number.number c.loop-number.tops.items c.push_if.new.tops.items c.is_top_candidate-passes.result
    c.loop-number.invariant c.is_top_candidate-passes.ensures c.in_ok-push_if.ensures
