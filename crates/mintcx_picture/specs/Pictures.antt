-- Whole pictures in writing.
use Rattle.std.specs.Prelude.{◌≡◌, ℕ, List, ◌++◌, flat_map, codes, decimal}
use Rattle.mintcx_picture.specs.declared.colours.Colour.TheVariants.{Paper}
use Rattle.mintcx_picture.specs.declared.drawn.Drawn.{Drawn}
use Rattle.mintcx_picture.specs.declared.drawn.Drawn.TheVariants.{Picture}
use Rattle.mintcx_picture.specs.declared.forms.Form.{Form}
use Rattle.mintcx_picture.specs.declared.pictures.Head.{Head}
use Rattle.mintcx_picture.specs.Attributes.{numbered, worded}
use Rattle.mintcx_picture.specs.Colours.{colour_code}
use Rattle.mintcx_picture.specs.Escapes.{escaped}
use Rattle.mintcx_picture.specs.Forms.{box_text, form_text}

-- the size of a picture
abbrev pub size_text : ℕ → ℕ → List ℕ
size_text width height = numbered (codes " width=\"") width ++ numbered (codes " height=\"") height
    ++ codes " viewBox=\"0 0 " ++ decimal width ++ numbered (codes " ") height

-- its title, and what it shows
abbrev pub about_text : List ℕ → List ℕ → List ℕ
about_text title about =
    codes "<title>" ++ escaped title ++ codes "</title>\n<desc>" ++ escaped about ++ codes "</desc>\n"

-- its ground
abbrev pub paper_text : ℕ → ℕ → List ℕ
paper_text width height = codes "<rect" ++ box_text 0 0 width height
    ++ worded (codes " rx=\"6\" fill=\"") (colour_code Paper) ++ codes "/>\n"

-- what stands before the forms
abbrev pub head_text : Head → List ℕ
head_text head =
    codes "<?xml version=\"1.0\" encoding=\"UTF-8\"?>\n<svg xmlns=\"http://www.w3.org/2000/svg\""
    ++ size_text head.width head.height
    ++ codes " role=\"img\" font-family=\"DejaVu Sans Mono, Menlo, Consolas, Liberation Mono, monospace\">\n"
    ++ about_text head.title head.about ++ paper_text head.width head.height

-- the forms of a layer in their order
abbrev pub layer_text : List Form → List ℕ
layer_text forms = flat_map form_text forms

-- a picture: its head, its layers in their order, and its end
abbrev pub picture_text : Head → List (List Form) → List ℕ
picture_text head layers = head_text head ++ flat_map layer_text layers ++ codes "</svg>\n"

-- A text is that of a picture with some layers of forms.
abbrev pub IsPicture : List ℕ → Type 0
IsPicture text = (head : Head) × (layers : List (List Form)) × (text ≡ picture_text head layers)

-- What is drawn is a picture, or nothing.
abbrev pub IsDrawn : Drawn → Type 0
IsDrawn (Picture text) = IsPicture text
IsDrawn nothing = Unit {0}
