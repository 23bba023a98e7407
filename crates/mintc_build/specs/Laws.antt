-- What holds of designs and of their refusals.
use Rattle.std.specs.Prelude.{◌≡◌, ◌⊎◌, ℕ, List}
use Rattle.mintc_text.specs.Limits.{AreLimits}
use Rattle.mintc_text.specs.declared.limits.Most.{Most}
use Rattle.mintc_text.specs.declared.refusals.Refusal.{Refusal}
use Rattle.mintc_text.specs.declared.refusals.Refusal.TheVariants as refusal
use Rattle.mintc_timing.specs.Accepted.{IsAccepted}
use Rattle.mintc_timing.specs.Design.{Design}
use Rattle.mintc_timing.specs.Numbers.{DifferInNumbers}
use Rattle.mintc_build.specs.Designs.{HasSystem, IsDesignRefusal}
use Rattle.mintc_build.specs.FilesDesign.{CellText, IsDesignOver, IsFilesDesign, IsRefusalOver}

-- No accepted design is refused.
abbrev pub AcceptedAreNotRefused : Type 0
AcceptedAreNotRefused = (most : Most) (design : Design) (refused : Refusal) → IsAccepted most design →
    IsDesignRefusal most design refused → ⊥

-- The refusal names arcs that lead round.
abbrev pub IsLoopRefusal : Refusal → Type 0
IsLoopRefusal refused = (loop : List ℕ) × (refused ≡ refusal.CombinationalLoop loop)

-- A design has one refusal, but for the choice of a loop.
abbrev pub DesignRefusalsAreDetermined : Type 0
DesignRefusalsAreDetermined = (most : Most) (design : Design) (refused other : Refusal) →
    IsDesignRefusal most design refused →
    IsDesignRefusal most design other →
    (refused ≡ other) ⊎ (IsLoopRefusal refused × IsLoopRefusal other)

-- Each design has a system or a refusal.
abbrev pub DesignsHaveSystemsOrRefusals : Type 0
DesignsHaveSystemsOrRefusals = (most : Most) → AreLimits most → (design : Design) →
    ((order : List ℕ) × HasSystem most design order) ⊎ ((refused : Refusal) × IsDesignRefusal most design refused)

-- Texts whose cells are read in one form have one design or one refusal at most, and never both.
pub record ArePlain (by : List ℕ → CellText) : Type 0 where
  pub one_design : (most : Most) (v d c k : List ℕ) (design other : Design) → IsDesignOver most v d (by c) k design →
      IsDesignOver most v d (by c) k other → design ≡ other
  pub no_refusal : (most : Most) (v d c k : List ℕ) (design : Design) (refused : Refusal) →
      IsDesignOver most v d (by c) k design →
      IsRefusalOver most v d (by c) k refused → ⊥
  pub one_refusal : (most : Most) (v d c k : List ℕ) (refused other : Refusal) →
      IsRefusalOver most v d (by c) k refused →
      IsRefusalOver most v d (by c) k other → refused ≡ other

-- Four texts whose cells are read in one form have a design or a refusal.
abbrev pub FilesHaveDesignOrRefusal : (List ℕ → CellText) → Type 0
FilesHaveDesignOrRefusal by = (most : Most) (v d c k : List ℕ) →
    ((design : Design) × IsDesignOver most v d (by c) k design)
    ⊎ ((refused : Refusal) × IsRefusalOver most v d (by c) k refused)

-- Designs of one netlist, one cell description and one clock, whatever their delays, differ in numbers alone.
abbrev pub CornersDifferInNumbers : Type 0
CornersDifferInNumbers = (most : Most) (v d e c k : List ℕ) (design other : Design) →
    IsFilesDesign most v d c k design →
    IsFilesDesign most v e c k other → DifferInNumbers design other
