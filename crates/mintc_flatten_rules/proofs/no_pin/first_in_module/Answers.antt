use Rattle.std.proofs.Common.{sym, ◌∙◌}
use Rattle.mintc_flatten_hierarchy.specs.Sources.{source_of}
use Rattle.mintc_flatten_hierarchy.specs.Faults.{is_no_pin}
use Rattle.mintc_flatten_rules.proofs.ItemLaws.{own-found, own-passed}
use Rattle.mintc_flatten_rules.proofs.LackLaws.{direction-is}
use Rattle.mintc_flatten_rules.proofs.no_pin.first_in_module.Goals as goal

pub returns-then-branch : goal.returns-then-branch
returns-then-branch c =
    let s = source_of c.args.netlist.now.cells.now c.args.netlist.now.modules.now in
    own-found (is_no_pin s) c.args.part.now (sym (direction-is s c.args.part.now) ∙ sym c.in_ok-lacks_direction.ensures ∙ c.if-branch.true)

pub returns : goal.returns
returns c =
    let s = source_of c.args.netlist.now.cells.now c.args.netlist.now.modules.now in
    own-passed (is_no_pin s) c.args.part.now c.first_lacking.result (sym (direction-is s c.args.part.now) ∙ sym c.in_ok-lacks_direction.ensures ∙ c.if-branch.false) c.first_lacking.ensures
