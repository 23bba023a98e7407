-- The forms of a picture in writing.
use Rattle.std.specs.Prelude.{ℕ, Bool, List, [], ◌++◌, codes, Option, Some, None, if◌then◌else◌}
use Rattle.mintcx_picture.specs.declared.forms.Anchor.{Anchor}
use Rattle.mintcx_picture.specs.declared.forms.Anchor.TheVariants.{Start, Middle, End}
use Rattle.mintcx_picture.specs.declared.forms.Area.{Area}
use Rattle.mintcx_picture.specs.declared.forms.Form.{Form}
use Rattle.mintcx_picture.specs.declared.forms.Form.TheVariants as form
use Rattle.mintcx_picture.specs.declared.forms.Label.{Label}
use Rattle.mintcx_picture.specs.declared.forms.Line.{Line}
use Rattle.mintcx_picture.specs.declared.forms.Paint.{Paint}
use Rattle.mintcx_picture.specs.declared.forms.Paint.TheVariants.{Filled, Outlined}
use Rattle.mintcx_picture.specs.declared.forms.Solid.{Solid}
use Rattle.mintcx_picture.specs.Attributes.{numbered, worded}
use Rattle.mintcx_picture.specs.Colours.{colour_code}
use Rattle.mintcx_picture.specs.Escapes.{escaped}
use Rattle.mintcx_picture.specs.Paths.{steps_text}

-- how it is written where a text's place is not at its first letter
abbrev pub anchor_text : Anchor → List ℕ
anchor_text Start = []
anchor_text Middle = codes " text-anchor=\"middle\""
anchor_text End = codes " text-anchor=\"end\""

-- how it is written that a text is bold
abbrev pub bold_text : Bool → List ℕ
bold_text bold = if bold then codes " font-weight=\"bold\"" else []

-- how it is written that a line is dashed
abbrev pub dash_text : Bool → List ℕ
dash_text dashed = if dashed then codes " stroke-dasharray=\"4 3\"" else []

-- a place
abbrev pub spot_text : ℕ → ℕ → List ℕ
spot_text x y = numbered (codes " x=\"") x ++ numbered (codes " y=\"") y

-- a place and a size
abbrev pub box_text : ℕ → ℕ → ℕ → ℕ → List ℕ
box_text x y width height =
    spot_text x y ++ numbered (codes " width=\"") width ++ numbered (codes " height=\"") height

-- what stands before the words of a text
abbrev pub label_head : Label → List ℕ
label_head label = spot_text label.x label.y ++ numbered (codes " font-size=\"") label.size
    ++ worded (codes " fill=\"") (colour_code label.fill) ++ anchor_text label.anchor ++ bold_text label.bold

-- a text
abbrev pub label_text : Label → List ℕ
label_text label = codes "<text" ++ label_head label ++ codes ">" ++ escaped label.text ++ codes "</text>\n"

-- how a rectangle is painted
abbrev pub paint_text : Paint → List ℕ
paint_text (Filled colour) = worded (codes " fill=\"") (colour_code colour)
paint_text (Outlined colour) = worded (codes " fill=\"none\" stroke=\"") (colour_code colour)

-- how a rectangle ends, with the text that is shown over it
abbrev pub tip_text : Option (List ℕ) → List ℕ
tip_text (Some text) = codes "><title>" ++ escaped text ++ codes "</title></rect>\n"
tip_text None = codes "/>\n"

-- a rectangle
abbrev pub area_text : Area → List ℕ
area_text area = codes "<rect" ++ box_text area.x area.y area.width area.height ++ paint_text area.paint
    ++ tip_text area.tip

-- a line along a path
abbrev pub path_line_text : Line → List ℕ
path_line_text line = codes "<path d=\"" ++ steps_text line.steps
    ++ worded (codes "\" fill=\"none\" stroke=\"") (colour_code line.stroke)
    ++ numbered (codes " stroke-width=\"") line.width ++ dash_text line.dashed ++ codes "/>\n"

-- what a closed path goes round
abbrev pub solid_text : Solid → List ℕ
solid_text solid = codes "<path d=\"" ++ steps_text solid.steps
    ++ worded (codes "\" fill=\"") (colour_code solid.fill) ++ codes "/>\n"

-- a form, on a line of its own
abbrev pub form_text : Form → List ℕ
form_text (form.Text label) = label_text label
form_text (form.Rect area) = area_text area
form_text (form.Line line) = path_line_text line
form_text (form.Solid solid) = solid_text solid
