-- What the code makes of texts that are read, as the definitions see it.
use Rattle.std.specs.Prelude.{◌⊎◌, List}
use Rattle.mintc_text.specs.declared.limits.Most.{Most}
use Rattle.mintc_text.specs.declared.refusals.Refusal.{Refusal}
use Rattle.mintc_timing.specs.Design.{Design}
use Rattle.mintc_netlist.specs.declared.module.Netlist.{Netlist}
use Rattle.mintc_sdf_edges.specs.declared.delays.EdgeDelay.{EdgeDelay}
use Rattle.mintc_senses_expressions.specs.declared.transitions.Transitions.{Transitions}
use Rattle.mintc_clock.specs.declared.clock.Clock.{Clock}
use Rattle.mintc_flatten_hierarchy.specs.declared.hierarchy.Hierarchy.{Hierarchy}
use Rattle.mintc_flatten_hierarchy.specs.Shape.{CellTable}
use Rattle.mintc_build.specs.FilesDesign.{IsHierarchyOf, IsHierarchyRefusal}
use Rattle.mintc_edges.specs.Numbers.{sense_of}
use Rattle.mintc_edges.specs.Apart.{IsEdgeDesign, IsEdgeRefusal}

-- the design of a netlist, cells with their senses, a clock and delays by edge
abbrev pub IsReadDesign : Most → Netlist → CellTable → List (List (List Transitions)) → Clock → List EdgeDelay →
    Design → Type 0
IsReadDesign most netlist cells senses clock delays design = (h : Hierarchy) ×
    IsHierarchyOf most netlist cells clock h × IsEdgeDesign most h cells (sense_of senses cells) clock delays design

-- their first refusal
abbrev pub IsReadRefusal : Most → Netlist → CellTable → List (List (List Transitions)) → Clock → List EdgeDelay →
    Refusal → Type 0
IsReadRefusal most netlist cells senses clock delays refused = IsHierarchyRefusal most netlist cells clock refused
    ⊎ ((h : Hierarchy) × IsHierarchyOf most netlist cells clock h
    × IsEdgeRefusal most h cells (sense_of senses cells) clock delays refused)
