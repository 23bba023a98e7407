-- What is gathered for a design before it is made.
use Rattle.std.specs.Prelude.{◌≡◌, ◌≤◌, ◌+◌, min, true, false, List, length, None}
use Rattle.mintc_text.specs.declared.limits.TheConstants.{MOST_ELEMENTS, MOST_TOLD}
use Rattle.mintc_flatten_hierarchy.specs.declared.hierarchy.Hierarchy.{Hierarchy}
use Rattle.mintc_flatten_hierarchy.specs.Shape.{CellTable}
use Rattle.mintc_clock.specs.declared.clock.Clock.{Clock}
use Rattle.mintc_sdf_edges.specs.declared.delays.EdgeDelay.{EdgeDelay}
use Rattle.mintc_annotate_resolve.specs.Pins.{all_names}
use Rattle.mintc_annotate_resolve.specs.Resolution.{first_refusal}
use Rattle.mintc_annotate.specs.ClockPorts.{has_ports, first_false}
use Rattle.mintc_annotate.specs.Phases.{phase_spots, AreTraced}
use Rattle.mintc_annotate.specs.Made.{bits_of}
use Rattle.mintc_edges.specs.declared.designing.Gathered.{Gathered}
use Rattle.mintc_edges.specs.Numbers.{without_edges}
use Rattle.mintc_edges.specs.Told.{AreTold}
use Rattle.mintc_edges.specs.Whole.{design_kept}
use Rattle.mintc_senses_expressions.specs.declared.transitions.Transitions.{Transitions}
use Rattle.mintc_timing.specs.Design.{Design}

-- All ports are there; what inner bits are called, the phases of latches and flops, and how many bits are listed, up to
-- the greatest count that is told.
pub record AreGathered (h : Hierarchy) (cells : CellTable) (clock : Clock) (g : Gathered) : Type 0 where
  pub ports : first_false (has_ports h clock) ≡ None
  pub names : g.names.items ≡ all_names h
  pub traced : AreTraced h cells (phase_spots h clock) g.phases
  pub inputs : g.inputs ≡ min (length (bits_of h false clock.inputs)) MOST_TOLD
  pub outputs : g.outputs ≡ min (length (bits_of h true clock.outputs)) MOST_TOLD

-- Each delay annotates something that is there, and the table holds what they say.
pub record IsResolved (h : Hierarchy) (cells : CellTable) (ds : List EdgeDelay) (g : Gathered) : Type 0 where
  pub annotates : first_refusal h cells (without_edges ds) ≡ None
  pub told : AreTold h cells ds g.told

-- Its latches and flops and the bits of listed ports are at most half as many as the elements of a design.
abbrev pub AreFew : Hierarchy → Clock → Gathered → Type 0
AreFew h clock g = length g.phases + length (bits_of h false clock.inputs) + length (bits_of h true clock.outputs) ≤
    MOST_ELEMENTS

-- the design that is made of it
abbrev pub design_of_gathered : Hierarchy → CellTable → List (List (List Transitions)) → Clock → Gathered → Design
design_of_gathered h cells senses clock g = design_kept g.told senses h cells clock g.phases
