-- What the code takes a number to be of.
use Rattle.std.specs.Prelude.{ℕ, Option, Some, None, option_map}
use Rattle.mintc_sdf.specs.declared.delays.Subject.{Subject}
use Rattle.mintc_sdf.specs.declared.delays.Subject.TheVariants as subject
use Rattle.mintc_flatten_hierarchy.specs.declared.hierarchy.Hierarchy.{Hierarchy}
use Rattle.mintc_flatten_hierarchy.specs.Shape.{CellTable}
use Rattle.mintc_annotate_resolve.specs.Pins.{leaf_cell, output_pin}
use Rattle.mintc_annotate_resolve.specs.Resolution.{Target, path_on, join_into, arcs_from, dq_of, cq_of, setup_of}
use Rattle.mintc_annotate_resolve.specs.Resolution.{hold_of, width_of}
use Rattle.mintc_annotate.specs.Made.{is_flop}
use Rattle.std.specs.Prelude.{if◌then◌else◌}
use Rattle.mintc_edges.specs.declared.matters.Matter.{Matter}
use Rattle.mintc_edges.specs.declared.matters.Matter.TheVariants.{Path, Join, Port, Setup, Hold, Width}

-- the output pin of leaf l at which a path ends
abbrev pub end_of : Hierarchy → CellTable → ℕ → Subject → Option ℕ
end_of h cells l (subject.Iopath from to) = output_pin (leaf_cell h cells l) to
end_of h cells l _ = None

-- the path of a latch or flop from a pin to that output
abbrev pub path_from : Hierarchy → CellTable → ℕ → ℕ → Subject → Option Matter
path_from h cells l from s = option_map (Path l from) (end_of h cells l s)

-- what a target that a subject annotates is, with the pins of latches and flops told apart
abbrev pub matter_of : Hierarchy → CellTable → Target → Subject → Option Matter
matter_of h cells (path_on l i o) s = Some (Path l i o)
matter_of h cells (join_into b) s = Some (Join b)
matter_of h cells (arcs_from b) s = Some (Port b)
matter_of h cells (dq_of l) s = path_from h cells l (if is_flop (leaf_cell h cells l) then 1 else 0) s
matter_of h cells (cq_of l) s = path_from h cells l 1 s
matter_of h cells (setup_of l) s = Some (Setup l)
matter_of h cells (hold_of l) s = Some (Hold l)
matter_of h cells (width_of l) s = Some (Width l)
