-- What is drawn of how a schedule fares.
use Rattle.std.specs.Prelude.{◌≡◌, ◌≤◌, ℕ, ℤ, pos, ◌≤ℤ◌, List, [], ◌∷◌, ◌++◌, take, flat_map}
use Rattle.mintc_timing.specs.declared.clocking.Schedule.{Schedule}
use Rattle.mintc_timing.specs.Design.{Timing, element_count}
use Rattle.mintcx_amounts.specs.declared.unit.Unit.{Unit as UnitOfTime}
use Rattle.mintcx_picture.specs.declared.drawn.Drawn.{Drawn}
use Rattle.mintcx_picture.specs.declared.drawn.Drawn.TheVariants.{NoCycle, Picture, TooLong, Unsettled}
use Rattle.mintcx_picture.specs.declared.forms.Form.{Form}
use Rattle.mintcx_picture.specs.declared.pictures.Head.{Head}
use Rattle.mintcx_picture.specs.declared.scale.Scale.{Scale}
use Rattle.mintcx_picture.specs.Pictures.{picture_text}
use Rattle.mintcx_picture.specs.Places.{IsScale}
use Rattle.mintcx_chart.specs.declared.lanes.Lane.{Lane}
use Rattle.mintcx_chart.specs.Rows.{AreBars, AreRows}
use Rattle.mintcx_fares.specs.Items.{names_of}
use Rattle.mintcx_fares.specs.Places.{AreWorst, place_names}

-- the rows from which data comes: every second one, from the first on
abbrev pub sources : List Lane → List Lane
sources [] = []
sources (source ∷ []) = []
sources (source ∷ element ∷ lanes) = source ∷ sources lanes

-- The layers of a picture: what lies below, the rows, the bars of those from which data comes, and what stands below.
abbrev pub AreLayers : Scale → UnitOfTime → List Lane → List (List Form) → Type 0
AreLayers scale unit lanes layers = (ground : List Form) × (rows : List (List Form)) × (bars : List (List Form))
    × (ends : List Form) × AreRows lanes rows × AreBars scale unit (sources lanes) bars
    × (layers ≡ ground ∷ rows ++ bars ++ ends ∷ [])

-- The text is a picture of these rows, in their order, on a scale.
abbrev pub IsOfRows : Scale → UnitOfTime → List Lane → List ℕ → Type 0
IsOfRows scale unit lanes text = (head : Head) × (layers : List (List Form)) × AreLayers scale unit lanes layers
    × (text ≡ picture_text head layers)

-- The text is a picture of the six setups and broken holds that are worst off, or of all where these are fewer: each
-- has a row of the element from which the data comes that decides it, and below that a row of its own.
abbrev pub IsFaresText : Timing → Schedule → List ℤ → List ℤ → List ℕ → Type 0
IsFaresText t s late early text = (places : List (ℕ × ℕ × ℤ × ℕ)) × (scale : Scale) × (unit : UnitOfTime)
    × (lanes : List Lane) × AreWorst t s late early places × IsScale scale
    × (names_of lanes ≡ flat_map (place_names t s late early) (take 6 places)) × IsOfRows scale unit lanes text

-- What is drawn of a schedule: nothing where the cycle time is 0, or where data never settles, so that no element of
-- some departs at the latest; such a picture in each other case, unless it would be too long.
abbrev pub IsFaresDrawn : Timing → Schedule → List ℤ → List ℤ → Drawn → Type 0
IsFaresDrawn t s late early (Picture text) = (pos 1 ≤ℤ s.cycle) × IsFaresText t s late early text
IsFaresDrawn t s late early TooLong = pos 1 ≤ℤ s.cycle
IsFaresDrawn t s late early NoCycle = s.cycle ≡ pos 0
IsFaresDrawn t s late early Unsettled = (pos 1 ≤ℤ s.cycle) × (late ≡ []) × (1 ≤ element_count t.flat)
IsFaresDrawn t s late early other = ⊥
