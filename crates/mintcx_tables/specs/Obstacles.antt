-- Names that no table can have.
use Rattle.std.specs.Prelude.{◌<◌, ℕ, List, [], length, take, slice_index_or, All}
use Rattle.mintc_timing.specs.Design.{Design, no_element}
use Rattle.mintc_timing.specs.declared.parts.Element.{Element}
use Rattle.mintc_timing_text.specs.Fields.{IsName}
use Rattle.mintcx_tables.specs.declared.obstacles.Obstacle.{Obstacle}
use Rattle.mintcx_tables.specs.declared.obstacles.Obstacle.TheVariants.{PhaseName, ElementName}

-- a table can have an element's name
abbrev pub IsNamed : Element → Type 0
IsNamed e = IsName e.name

-- A table can have the name of each phase and of each element.
pub record HasNames (d : Design) : Type 0 where
  pub phases : All IsName d.phases
  pub elements : All IsNamed d.elements

-- P fails of the item at this place of a list, and holds of each before it.
pub record IsFirstWithout {X : Type 0} (P : X → Type 0) (none : X) (xs : List X) (place : ℕ) : Type 0 where
  pub inside : place < length xs
  pub before : All P (take place xs)
  pub fails : P (slice_index_or xs place none) → ⊥

-- A table can't have this name, the first such one of a phase, or else of an element.
abbrev pub IsObstacle : Design → Obstacle → Type 0
IsObstacle d (PhaseName phase) = IsFirstWithout IsName [] d.phases phase
IsObstacle d (ElementName element) = All IsName d.phases × IsFirstWithout IsNamed no_element d.elements element
