-- What the delays of a text by edge are to its delays.
use Rattle.std.specs.Prelude.{◌≡◌, ℕ, ◌≤ℤ◌, true, ◌||◌, List, [], ◌∷◌, ◌++◌, Some, Ok, All, Any}
use Rattle.mintc_sdf.specs.declared.delays.Delay.{Delay}
use Rattle.mintc_sdf.specs.Texts.{delays_of}
use Rattle.mintc_sdf.specs.Laws.{IsWithin}
use Rattle.mintc_sdf_edges.specs.declared.delays.EdgeDelay.{EdgeDelay}
use Rattle.mintc_sdf_edges.specs.Telling.{with_span}
use Rattle.mintc_sdf_edges.specs.Texts.{told_in, AreTold}

-- These say together what a delay says: each of the same entry, leaves and subject; the least of their numbers is its
-- least, and the greatest its greatest.
pub record IsMerged (es : List EdgeDelay) (d : Delay) : Type 0 where
  pub same : All (λ e. e.delay ≡ with_span d (e.delay.least, e.delay.greatest)) es
  pub least : All (λ e. d.least ≤ℤ e.delay.least) es
  pub has_least : Any (λ e. e.delay.least ≡ d.least) es
  pub greatest : All (λ e. e.delay.greatest ≤ℤ d.greatest) es
  pub has_greatest : Any (λ e. e.delay.greatest ≡ d.greatest) es

-- in their order the first ones say what the first delay says, and the others what the other delays say
abbrev pub AreMerged : List EdgeDelay → List Delay → Type 0
AreMerged es [] = es ≡ []
AreMerged es (d ∷ ds) =
    (mine rest : List EdgeDelay) × (es ≡ mine ++ rest) × IsMerged mine d × AreMerged rest ds

-- what a text with delays tells of them by edge, merged, is those delays again
abbrev pub Merge : Type 0
Merge = (text : List ℕ) (ds : List Delay) → delays_of text ≡ Ok ds →
    (es : List EdgeDelay) × (told_in text ds ≡ Some es) × AreMerged es ds

-- it begins at an edge, and speaks of one
pub record HasEdges (e : EdgeDelay) : Type 0 where
  pub edge : (e.edge.rise || e.edge.fall) ≡ true
  pub speaks : (e.speaks.rise || e.speaks.fall) ≡ true

-- each delay by edge of a text begins at an edge, and speaks of one
abbrev pub HaveEdges : Type 0
HaveEdges = (text : List ℕ) (es : List EdgeDelay) → AreTold text es → All HasEdges es

-- each delay by edge of a text has its numbers in order and in range
abbrev pub EdgeDelaysAreWithin : Type 0
EdgeDelaysAreWithin =
    (text : List ℕ) (es : List EdgeDelay) → AreTold text es → All (λ e. IsWithin e.delay) es
