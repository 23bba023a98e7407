use Rattle.std.proofs.Common.{◌≡◌, ◌++◌, map, take}
use Rattle.std.specs.List.{flat_map}
use Rattle.mintc_netlist.specs.Nets.{names_of}
use Rattle.mintc_netlist_nets.proofs.SharedPlaceLaws.{bits_in}
use Rattle.mintc_flatten_hierarchy.specs.Hierarchies.{net_of}
use Rattle.mintc_flatten.proofs.walk.push_nets.Given as goal

-- the nets so far are taken in
abbrev pub invariant-loop-place : goal.invariant-loop-place
invariant-loop-place l = l.inner.items ≡ l.initial.inner.items ++ map (net_of l.scope) (flat_map (bits_in l.«module») (take l.place (names_of l.«module»)))
