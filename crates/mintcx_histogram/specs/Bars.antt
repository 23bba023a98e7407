-- The bars of a histogram in a picture.
use Rattle.std.specs.Prelude.{ℕ, ◌==◌, ◌≤◌, ◌+◌, ◌*◌, ◌/◌, ◌%◌, ◌^◌, max, pos, List, [], ◌∷◌, ◌++◌}
use Rattle.std.specs.Prelude.{codes, decimal, None, if◌then◌else◌}
use Rattle.mintc_text.specs.declared.limits.TheConstants.{MOST_PAIRS}
use Rattle.mintcx_amounts.specs.declared.unit.Unit.{Unit}
use Rattle.mintcx_picture.specs.declared.colours.Colour.{Colour}
use Rattle.mintcx_picture.specs.declared.colours.Colour.TheVariants.{Gate, Ink, Lent, Soft, Zebra}
use Rattle.mintcx_picture.specs.declared.forms.Anchor.TheVariants.{End, Start}
use Rattle.mintcx_picture.specs.declared.forms.Form.{Form}
use Rattle.mintcx_picture.specs.declared.forms.Paint.TheVariants.{Filled}
use Rattle.mintcx_chart.specs.declared.sheet.Beam.{Beam}
use Rattle.mintcx_chart.specs.declared.sheet.Spot.{Spot}
use Rattle.mintcx_chart.specs.Forms.{beam_form, bold_form, words_form}
use Rattle.mintcx_chart.specs.Words.{span_text}
use Rattle.mintcx_histogram.specs.declared.bars.Bar.{Bar}

-- A bar is in its ranges.
pub record IsBar (bar : Bar) : Type 0 where
  pub number : bar.number ≤ 12
  pub end : bar.end ≤ 12 * 10 ^ 18
  pub few : bar.count ≤ bar.fullest
  pub some : 1 ≤ bar.fullest
  pub most : bar.fullest ≤ MOST_PAIRS

-- up to which slack a bar goes
abbrev pub up_to : Unit → ℕ → List ℕ
up_to unit end = codes "up to " ++ span_text unit (pos end)

-- what a bar is called
abbrev pub bar_name : Unit → ℕ → ℕ → List ℕ
bar_name unit number end = if number == 0 then codes "none" else up_to unit end

-- how high a bar stands, in pixels
abbrev pub top_of : ℕ → ℕ
top_of number = 72 + 26 * number

-- How wide a bar is, in pixels: of 760 what its pairs are of the fullest bar's, to the nearest whole number, but at
-- least 1 where it has any.
abbrev pub bar_width : ℕ → ℕ → ℕ
bar_width fullest count = if count == 0 then 0 else max ((2 * count * 760 + fullest) / (2 * fullest)) 1

-- a place
abbrev pub at : ℕ → ℕ → Spot
at x y = record { x = x; y = y }

-- the ground of every second bar
abbrev pub ground_beam : ℕ → Beam
ground_beam number = record { from = 20; to = 1020; y = top_of number; height = 26 }

abbrev pub grounds : ℕ → List Form
grounds number = if number % 2 == 0 then beam_form (ground_beam number) (Filled Zebra) None ∷ [] else []

-- the name beside a bar, bold where it is of no slack
abbrev pub name_form : ℕ → List ℕ → Form
name_form number name = if number == 0 then bold_form (at 188 (top_of number + 17)) name 12 End
    else words_form (at 188 (top_of number + 17)) name 12 Ink End

-- the colour of a bar
abbrev pub bar_colour : ℕ → Colour
bar_colour number = if number == 0 then Lent else Gate

-- the bar itself, where pairs are of it
abbrev pub block_beam : Bar → Beam
block_beam bar = record {
  from = 200;
  to = 200 + bar_width bar.fullest bar.count;
  y = top_of bar.number + 5;
  height = 16;
}

abbrev pub blocks : Bar → List Form
blocks bar = if bar.count == 0 then [] else beam_form (block_beam bar) (Filled (bar_colour bar.number)) None ∷ []

-- the number of its pairs, behind it
abbrev pub count_colour : ℕ → Colour
count_colour count = if count == 0 then Soft else Ink

abbrev pub count_form : Bar → List ℕ → Form
count_form bar count =
    words_form (at (208 + bar_width bar.fullest bar.count) (top_of bar.number + 17)) count 12
    (count_colour bar.count) Start

-- a bar with its ground, its name and the number of its pairs
abbrev pub bar_forms : Unit → Bar → List Form
bar_forms unit bar = grounds bar.number ++ name_form bar.number (bar_name unit bar.number bar.end) ∷ [] ++ blocks bar
    ++ count_form bar (decimal bar.count) ∷ []
