-- What the ends of a stage are called.
use Rattle.std.specs.Prelude.{ℕ, ◌<◌, ◌≤◌, ℤ, pos, negsuc, ◌≤ℤ◌, List, [], ◌∷◌, Option, Some, None, IfSome, All}
use Rattle.mintc_timing.specs.declared.link.LinkKind.TheVariants.{Opening, Opened, Setup}
use Rattle.mintc_timing.specs.Design.{Design, element_count}
use Rattle.mintc_timing.specs.Links.{node_count}
use Rattle.mintcx_frame.specs.Names.{element_name, node_name}
use Rattle.mintcx_chain.specs.declared.stages.Stage.{Stage}
use Rattle.mintcx_chain.specs.declared.stages.Why.{Why}
use Rattle.mintcx_chain.specs.declared.stages.Why.TheVariants.{Rule, Reach, Hold}

-- the element that a stage begins at, if any: of data its first element, of a setup its own
abbrev pub element_of : Why → Option ℕ
element_of (Reach j l path) = Some j
element_of (Rule (Setup l)) = Some l
element_of why = None

-- the elements that a stage names
abbrev pub elements_of : Why → List ℕ
elements_of (Reach j l path) = j ∷ l ∷ []
elements_of (Hold j l path) = j ∷ l ∷ []
elements_of (Rule (Opening l)) = l ∷ []
elements_of (Rule (Opened l)) = l ∷ []
elements_of (Rule (Setup l)) = l ∷ []
elements_of why = []

-- a delay of a stage, in femtoseconds
abbrev pub IsStageDelay : ℤ → Type 0
IsStageDelay x = (negsuc 3999999999 ≤ℤ x) × (x ≤ℤ pos 4000000000)

-- A stage takes no more time than a few delays, and at most one cycle.
pub record IsShort (stage : Stage) : Type 0 where
  pub span : IsStageDelay stage.delay
  pub cycles : stage.cycles ≤ 1

-- The stage leads between nodes of the design, and names elements of the design alone.
pub record IsStage (design : Design) (stage : Stage) : Type 0 where
  pub from : stage.from < node_count design
  pub to : stage.to < node_count design
  pub element : IfSome (element_of stage.why) (λ l. l < element_count design)
  pub elements : All (λ l. l < element_count design) (elements_of stage.why)

-- what one begins at, by name: an element, or else a node
abbrev pub named : Design → Option ℕ → ℕ → List ℕ
named design (Some l) node = element_name design l
named design None node = node_name design node

-- what a stage begins at, by name
abbrev pub from_name : Design → Stage → List ℕ
from_name design stage = named design (element_of stage.why) stage.from
