-- The rows and the bars of a picture.
use Rattle.std.specs.Prelude.{◌≡◌, ℕ, ◌+◌, List, [], ◌∷◌, ◌++◌, Some, ◌==◌, if◌then◌else◌}
use Rattle.mintcx_amounts.specs.declared.unit.Unit.{Unit}
use Rattle.mintcx_picture.specs.declared.colours.Colour.{Colour}
use Rattle.mintcx_picture.specs.declared.forms.Anchor.TheVariants.{Start}
use Rattle.mintcx_picture.specs.declared.forms.Form.{Form}
use Rattle.mintcx_picture.specs.declared.forms.Paint.TheVariants.{Filled}
use Rattle.mintcx_picture.specs.declared.scale.Scale.{Scale}
use Rattle.mintcx_picture.specs.Places.{place_of}
use Rattle.mintcx_picture.specs.Rooms.{cut}
use Rattle.mintcx_chart.specs.declared.lanes.Kind.{Kind}
use Rattle.mintcx_chart.specs.declared.lanes.Kind.TheVariants.{Latch, Flop, Clock}
use Rattle.mintcx_chart.specs.declared.lanes.Lane.{Lane}
use Rattle.mintcx_chart.specs.declared.parts.Part.{Part}
use Rattle.mintcx_chart.specs.declared.sheet.Beam.{Beam}
use Rattle.mintcx_chart.specs.declared.sheet.Spot.{Spot}
use Rattle.mintcx_chart.specs.Forms.{beam_form, bold_form, soft_form}
use Rattle.mintcx_chart.specs.Words.{span_text, word_and}

-- how far below the top of a row its name stands, and what is noted of it
abbrev pub name_height : Kind → ℕ
name_height Clock = 14
name_height kind = 19

abbrev pub note_height : Kind → ℕ
note_height Clock = 28
note_height kind = 35

-- a place near the left edge
abbrev pub at_left : ℕ → Spot
at_left y = record { x = 20; y = y }

-- the words of a row: its name, and what is noted of it
abbrev pub row_words : Lane → List Form
row_words lane = bold_form (at_left (lane.top + name_height lane.kind)) (cut lane.name 30) 12 Start
    ∷ soft_form (at_left (lane.top + note_height lane.kind)) (cut lane.note 35) ∷ []

-- The layers of rows, in their order: of each one its words, and when its element is open.
abbrev pub AreRows : List Lane → List (List Form) → Type 0
AreRows [] layers = layers ≡ []
AreRows (lane ∷ lanes) layers = (windows : List Form) × (more : List (List Form)) × AreRows lanes more
    × (layers ≡ row_words lane ∷ windows ∷ more)

-- how far below the top of a row its bar stands, and how high that is
abbrev pub bar_top : Kind → ℕ
bar_top Clock = 9
bar_top kind = 30

abbrev pub bar_height : Kind → ℕ
bar_height Clock = 10
bar_height kind = 18

-- from where to where the bar of a part goes: from the place of when it begins to that of when it ends
abbrev pub part_beam : Scale → Lane → Part → Beam
part_beam scale lane part =
    record {
      from = place_of scale part.from;
      to = place_of scale part.to;
      y = lane.top + bar_top lane.kind;
      height = bar_height lane.kind;
    }

-- the bar of a part in a colour, over which its name and its delay are shown
abbrev pub part_form : Scale → Unit → Lane → Colour → Part → Form
part_form scale unit lane colour part = beam_form (part_beam scale lane part) (Filled colour)
    (Some (word_and part.name (span_text unit part.delay)))

-- The bars of parts, in their order: each has a colour, and maybe words in it.
abbrev pub AreParts : Scale → Unit → Lane → List Part → List Form → Type 0
AreParts scale unit lane [] forms = forms ≡ []
AreParts scale unit lane (part ∷ parts) forms = (colour : Colour) × (words : List Form) × (more : List Form)
    × AreParts scale unit lane parts more × (forms ≡ part_form scale unit lane colour part ∷ (words ++ more))

-- The layers of bars, in the order of their rows: of each one its parts, and what joins it to the rows.
abbrev pub AreBars : Scale → Unit → List Lane → List (List Form) → Type 0
AreBars scale unit [] layers = layers ≡ []
AreBars scale unit (lane ∷ lanes) layers = (parts : List Form) × (joints : List Form) × (more : List (List Form))
    × AreParts scale unit lane lane.parts parts × AreBars scale unit lanes more × (layers ≡ parts ∷ joints ∷ more)

-- The forms go on with some more.
abbrev pub Extends : List Form → List Form → Type 0
Extends old new = (more : List Form) × (new ≡ old ++ more)

-- The layers, or the forms, go on with those of a row, of rows, of a part, of a bar or of bars.
abbrev pub HasRow : Lane → List (List Form) → List (List Form) → Type 0
HasRow lane old new = (windows : List Form) × (new ≡ old ++ row_words lane ∷ windows ∷ [])

abbrev pub HasRows : List Lane → List (List Form) → List (List Form) → Type 0
HasRows lanes old new = (layers : List (List Form)) × AreRows lanes layers × (new ≡ old ++ layers)

abbrev pub HasPart : Scale → Unit → Lane → Part → List Form → List Form → Type 0
HasPart scale unit lane part old new = (colour : Colour) × (words : List Form)
    × (new ≡ old ++ part_form scale unit lane colour part ∷ words)

abbrev pub HasBar : Scale → Unit → Lane → List (List Form) → List (List Form) → Type 0
HasBar scale unit lane old new = (parts : List Form) × (joints : List Form)
    × AreParts scale unit lane lane.parts parts × (new ≡ old ++ parts ∷ joints ∷ [])

abbrev pub HasBars : Scale → Unit → List Lane → List (List Form) → List (List Form) → Type 0
HasBars scale unit lanes old new = (layers : List (List Form)) × AreBars scale unit lanes layers × (new ≡ old ++ layers)
