-- What holds of the design that files make.
use Rattle.std.specs.Prelude.{◌≡◌, ◌⊎◌, List}
use Rattle.mintc_text.specs.declared.limits.Most.{Most}
use Rattle.mintc_text.specs.declared.refusals.Refusal.{Refusal}
use Rattle.mintc_flatten_hierarchy.specs.declared.hierarchy.Hierarchy.{Hierarchy}
use Rattle.mintc_clock.specs.declared.clock.Clock.{Clock}
use Rattle.mintc_sdf.specs.declared.delays.Delay.{Delay}
use Rattle.mintc_timing.specs.Design.{Design}
use Rattle.mintc_flatten_hierarchy.specs.Shape.{CellTable}
use Rattle.mintc_annotate.specs.Made.{IsAnnotated, IsAnnotateRefusal}

-- There is one design at most, and none beside a refusal.
abbrev pub DesignsAreDetermined : Type 0
DesignsAreDetermined = (most : Most) (h : Hierarchy) (cells : CellTable) (clock : Clock) (delays : List Delay)
    (design other : Design) → IsAnnotated most h cells clock delays design →
    IsAnnotated most h cells clock delays other →
    design ≡ other

-- No design stands beside a refusal.
abbrev pub DesignsAreNotRefused : Type 0
DesignsAreNotRefused = (most : Most) (h : Hierarchy) (cells : CellTable) (clock : Clock) (delays : List Delay)
    (design : Design)
    (refused : Refusal) → IsAnnotated most h cells clock delays design → IsAnnotateRefusal most h cells clock delays
    refused → ⊥

-- There is one refusal at most.
abbrev pub AnnotateRefusalsAreDetermined : Type 0
AnnotateRefusalsAreDetermined = (most : Most) (h : Hierarchy) (cells : CellTable) (clock : Clock) (delays : List Delay)
    (refused other : Refusal) → IsAnnotateRefusal most h cells clock delays refused →
    IsAnnotateRefusal most h cells clock delays other → refused ≡ other

-- There is a design or a refusal.
abbrev pub HaveDesignOrRefusal : Type 0
HaveDesignOrRefusal = (most : Most) (h : Hierarchy) (cells : CellTable) (clock : Clock) (delays : List Delay) →
    ((design : Design) × IsAnnotated most h cells clock delays design)
    ⊎ ((refused : Refusal) × IsAnnotateRefusal most h cells clock delays refused)
