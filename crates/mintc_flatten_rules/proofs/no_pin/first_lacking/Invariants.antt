use Rattle.std.proofs.Common.{◌≡◌, take, drop, []}
use Rattle.mintc_flatten_hierarchy.specs.Sources.{source_of}
use Rattle.mintc_flatten_hierarchy.specs.Faults.{is_no_pin}
use Rattle.mintc_flatten_rules.specs.Firsts.{first_after}
use Rattle.mintc_flatten_rules.proofs.no_pin.first_lacking.Given as goal

-- what is left has the first at fault
abbrev pub invariant-loop-number : goal.invariant-loop-number
invariant-loop-number l = let test = is_no_pin (source_of l.netlist.cells.now l.netlist.modules.now) in
    first_after test l.part (take l.number l.items) (drop l.number l.items) ≡ first_after test l.part [] l.items
