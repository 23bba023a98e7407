use Rattle.std.proofs.Common.{◌≡◌, ◌++◌, ℕ, List, map, take}
use Rattle.mintc_cells.specs.Entries.{cell_at}
use Rattle.mintc_cells.specs.Rules.{pins}
use Rattle.mintc_flatten_hierarchy.specs.declared.hierarchy.Inner.TheVariants as inner
use Rattle.mintc_flatten.proofs.walk.push_pins.Given as goal

-- the pins so far are taken in
abbrev pub invariant-loop-number : goal.invariant-loop-number
invariant-loop-number l = l.inner.items ≡ l.initial.inner.items ++ map (λ (name : List ℕ). inner.Pin l.leaf name) (take l.number (pins (cell_at l.cells l.cell)))
