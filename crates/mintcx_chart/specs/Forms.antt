-- The forms that are drawn.
use Rattle.std.specs.Prelude.{ℕ, ◌-◌, ◌+◌, min, max, List, Option, true, false}
use Rattle.mintcx_picture.specs.declared.colours.Colour.{Colour}
use Rattle.mintcx_picture.specs.declared.colours.Colour.TheVariants.{Ink, Soft}
use Rattle.mintcx_picture.specs.declared.forms.Anchor.{Anchor}
use Rattle.mintcx_picture.specs.declared.forms.Anchor.TheVariants.{Start}
use Rattle.mintcx_picture.specs.declared.forms.Form.{Form}
use Rattle.mintcx_picture.specs.declared.forms.Form.TheVariants as form
use Rattle.mintcx_picture.specs.declared.forms.Paint.{Paint}
use Rattle.mintcx_chart.specs.declared.sheet.Beam.{Beam}
use Rattle.mintcx_chart.specs.declared.sheet.Spot.{Spot}

-- a text of a size, in a colour
abbrev pub words_form : Spot → List ℕ → ℕ → Colour → Anchor → Form
words_form spot text size fill anchor = form.Text (record {
  x = spot.x;
  y = spot.y;
  text = text;
  size = size;
  fill = fill;
  anchor = anchor;
  bold = false;
})

-- a bold text in ink
abbrev pub bold_form : Spot → List ℕ → ℕ → Anchor → Form
bold_form spot text size anchor = form.Text (record {
  x = spot.x;
  y = spot.y;
  text = text;
  size = size;
  fill = Ink;
  anchor = anchor;
  bold = true;
})

-- a small text beside others
abbrev pub soft_form : Spot → List ℕ → Form
soft_form spot text = words_form spot text 11 Soft Start

-- a beam as a rectangle, at least one pixel wide, with a text that is shown over it where there is one
abbrev pub beam_form : Beam → Paint → Option (List ℕ) → Form
beam_form beam paint tip = form.Rect (record {
  x = min beam.from beam.to;
  y = beam.y;
  width = max ((beam.to - beam.from) + (beam.from - beam.to)) 1;
  height = beam.height;
  paint = paint;
  tip = tip;
})
