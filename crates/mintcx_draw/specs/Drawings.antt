-- What is drawn of a certificate.
use Rattle.std.specs.Prelude.{◌≡◌, ℕ, ℤ, pos, ◌≤ℤ◌, List, [], ◌∷◌, ◌++◌, take, Option, Some, None}
use Rattle.mintc_timing.specs.declared.clocking.Schedule.{Schedule}
use Rattle.mintc_timing.specs.Design.{Design}
use Rattle.mintc_certificate.specs.declared.certificate.Certificate.{Certificate}
use Rattle.mintc_certificate.specs.declared.certificate.Certificate.TheVariants.{Least, Never}
use Rattle.mintc_certificate.specs.declared.members.Member.{Member}
use Rattle.mintcx_amounts.specs.declared.unit.Unit.{Unit as UnitOfTime}
use Rattle.mintcx_chain.specs.declared.rows.Row.{Row}
use Rattle.mintcx_chain.specs.declared.stages.Stage.{Stage}
use Rattle.mintcx_chain.specs.Rows.{rows_of}
use Rattle.mintcx_optima.specs.Optimum.{AreStages}
use Rattle.mintcx_optima.specs.Tables.{row_of}
use Rattle.mintcx_picture.specs.declared.drawn.Drawn.{Drawn}
use Rattle.mintcx_picture.specs.declared.drawn.Drawn.TheVariants.{NoCycle, NoSchedule, Picture, TooLong}
use Rattle.mintcx_picture.specs.declared.forms.Form.{Form}
use Rattle.mintcx_picture.specs.declared.pictures.Head.{Head}
use Rattle.mintcx_picture.specs.declared.scale.Scale.{Scale}
use Rattle.mintcx_picture.specs.Pictures.{picture_text}
use Rattle.mintcx_picture.specs.Places.{IsScale}
use Rattle.mintcx_chart.specs.declared.lanes.Lane.{Lane}
use Rattle.mintcx_chart.specs.Rows.{AreBars, AreRows}
use Rattle.mintcx_chart.specs.Stretches.{IsShown, greatest_of, least_of}
use Rattle.mintcx_draw.specs.Lanes.{AreOfStages, drawn_count, shown_times}

-- The layers of a picture: what lies below, the rows, the bars of the first ones, and what stands below them.
abbrev pub AreLayers : Scale → UnitOfTime → ℕ → List Lane → List (List Form) → Type 0
AreLayers scale unit count lanes layers = (ground : List Form) × (rows : List (List Form)) × (bars : List (List Form))
    × (ends : List Form) × AreRows lanes rows × AreBars scale unit (take count lanes) bars
    × (layers ≡ ground ∷ rows ++ bars ++ ends ∷ [])

-- The text is a picture of these rows on a scale, of which so many have bars.
abbrev pub IsOfRows : Scale → UnitOfTime → ℕ → List Lane → List ℕ → Type 0
IsOfRows scale unit count lanes text = (head : Head) × (layers : List (List Form))
    × AreLayers scale unit count lanes layers × (text ≡ picture_text head layers)

-- when the first stage begins that isn't drawn, or the first one again where all are
abbrev pub next_time : List Stage → List Row → ℤ
next_time stages rows = (row_of rows (drawn_count stages)).at

-- when what a picture shows begins and ends, some more on both sides aside
abbrev pub first_time : Design → Schedule → List Stage → List Row → ℤ
first_time design s stages rows = least_of (next_time stages rows) (shown_times design s stages rows)

abbrev pub last_time : Design → Schedule → List Stage → List Row → ℤ
last_time design s stages rows = greatest_of (next_time stages rows) (shown_times design s stages rows)

-- The scale of a chain shows these times; there is none where it would show more than 80 cycles.
abbrev pub IsScaleOf : Design → Schedule → List Stage → List Row → Option Scale → Type 0
IsScaleOf design s stages rows scale =
    IsShown s.den s.cycle (first_time design s stages rows) (last_time design s stages rows) scale

-- The text is a picture whose first rows are the stages of a chain, in their order, by a schedule with its departures.
abbrev pub IsOfChain : Design → Schedule → List ℤ → List Stage → List ℕ → Type 0
IsOfChain design s d stages text = (scale : Scale) × (unit : UnitOfTime) × (lanes : List Lane) × IsScale scale
    × IsScaleOf design s stages (rows_of design s d stages) (Some scale)
    × AreOfStages design s.den stages (rows_of design s d stages) (drawn_count stages) lanes
    × IsOfRows scale unit (drawn_count stages) lanes text

-- What is drawn of the stages of a chain: nothing where the cycle time is 0 or where a picture would show more than 80
-- cycles, and such a picture in each other case.
abbrev pub IsDrawnChain : Design → Schedule → List ℤ → List Stage → Drawn → Type 0
IsDrawnChain design s d stages (Picture text) = (pos 1 ≤ℤ s.cycle) × IsOfChain design s d stages text
IsDrawnChain design s d stages TooLong = (pos 1 ≤ℤ s.cycle) × IsScaleOf design s stages (rows_of design s d stages) None
IsDrawnChain design s d stages NoCycle = s.cycle ≡ pos 0
IsDrawnChain design s d stages other = ⊥

-- What is drawn of a least cycle: the stages of the chain that decides it, from its beginning.
abbrev pub IsLeastDrawn : Design → Schedule → List ℤ → List Member → Drawn → Type 0
IsLeastDrawn design s d chain drawn = (stages : List Stage) × AreStages design d chain stages
    × IsDrawnChain design s d stages drawn

-- What is drawn of a certificate: nothing where no schedule is right.
abbrev pub IsDrawnOf : Design → Certificate → Drawn → Type 0
IsDrawnOf design (Least s d chain) drawn = IsLeastDrawn design s d chain drawn
IsDrawnOf design (Never chain) drawn = drawn ≡ NoSchedule
