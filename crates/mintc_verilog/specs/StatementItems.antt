-- The items that assigns and instances are.
use Rattle.std.specs.Prelude.{ℕ, List}
use Rattle.mintc_netlist.specs.declared.module.Item.{Item}
use Rattle.mintc_netlist.specs.declared.module.Item.TheVariants as item
use Rattle.mintc_verilog.specs.StatementParts.{Assign, Instance}

-- the item of an assign
abbrev pub assign_item : ℕ → Assign → Item
assign_item entry a = item.Assign entry a.left a.right

-- the item of an instance of a cell
abbrev pub instance_item : ℕ → List ℕ → Instance → Item
instance_item entry cell i = item.Instance entry cell i.name i.by_name i.connections
