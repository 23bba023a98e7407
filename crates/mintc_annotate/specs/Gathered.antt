-- What is gathered for a design before it is made.
use Rattle.std.specs.Prelude.{◌≡◌, ◌≤◌, ◌+◌, min, Bool, true, false, List, length, map, All, None}
use Rattle.mintc_text.specs.declared.limits.TheConstants.{MOST_ELEMENTS, MOST_TOLD}
use Rattle.mintc_flatten_hierarchy.specs.declared.hierarchy.Hierarchy.{Hierarchy}
use Rattle.mintc_flatten_hierarchy.specs.Shape.{CellTable}
use Rattle.mintc_sdf.specs.declared.delays.Delay.{Delay}
use Rattle.mintc_clock.specs.declared.clock.Clock.{Clock}
use Rattle.mintc_clock.specs.declared.clock.Listed.{Listed}
use Rattle.mintc_annotate_resolve.specs.Pins.{all_names}
use Rattle.mintc_annotate_delays.specs.Ranges.{look, AreRanges}
use Rattle.mintc_annotate_resolve.specs.Resolution.{first_refusal}
use Rattle.mintc_timing.specs.Design.{Design}
use Rattle.mintc_annotate.specs.declared.gathering.Gathered.{Gathered}
use Rattle.mintc_annotate.specs.declared.listing.ListedBit.{ListedBit}
use Rattle.mintc_annotate.specs.declared.listing.ListedBits.{ListedBits}
use Rattle.mintc_annotate.specs.ClockPorts.{has_ports, first_false}
use Rattle.mintc_annotate.specs.Counts.{with_port, IsListedBit}
use Rattle.mintc_annotate.specs.Phases.{phase_spots, AreTraced}
use Rattle.mintc_annotate.specs.Made.{bits_of, design_with}

-- All ports are there; what inner bits are called, the phases of latches and flops, and how many bits are listed,
-- up to the greatest count that is told.
pub record AreGathered (h : Hierarchy) (cells : CellTable) (clock : Clock) (g : Gathered) : Type 0 where
  pub ports : first_false (has_ports h clock) ≡ None
  pub names : g.names.items ≡ all_names h
  pub traced : AreTraced h cells (phase_spots h clock) g.phases
  pub inputs : g.inputs ≡ min (length (bits_of h false clock.inputs)) MOST_TOLD
  pub outputs : g.outputs ≡ min (length (bits_of h true clock.outputs)) MOST_TOLD

-- Each delay annotates something that is there, and the ranges are those of all that they say.
pub record IsResolved (h : Hierarchy) (cells : CellTable) (delays : List Delay) (g : Gathered) : Type 0 where
  pub annotates : first_refusal h cells delays ≡ None
  pub ranges : AreRanges h cells delays g.ranges

-- Its latches and flops and the bits of listed ports are as few as the elements of a design.
abbrev pub AreFew : Hierarchy → Clock → Gathered → Type 0
AreFew h clock g = length g.phases + length (bits_of h false clock.inputs) + length (bits_of h true clock.outputs) ≤
    MOST_ELEMENTS

-- the design that is made of it
abbrev pub design_of_gathered : Hierarchy → CellTable → Clock → Gathered → Design
design_of_gathered h cells clock g = design_with h cells clock (look g.ranges) g.phases

-- These are the bits of ports that are listed.
pub record AreBits (h : Hierarchy) (output : Bool) (listed : List Listed) (bits : List ListedBit) : Type 0 where
  pub same : map (with_port listed) bits ≡ bits_of h output listed
  pub there : All (IsListedBit (length listed) (length h.inner)) bits

-- These are the bits of the inputs and of the outputs that a clock lists.
pub record AreListed (h : Hierarchy) (clock : Clock) (bits : ListedBits) : Type 0 where
  pub inputs : AreBits h false clock.inputs bits.inputs.items
  pub outputs : AreBits h true clock.outputs bits.outputs.items
