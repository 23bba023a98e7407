-- The colours of a picture in writing.
use Rattle.std.specs.Prelude.{ℕ, List, codes}
use Rattle.mintcx_picture.specs.declared.colours.Colour.{Colour}
use Rattle.mintcx_picture.specs.declared.colours.Colour.TheVariants.{Ink, Soft, Faint, Grid, Zebra, Paper, Open, Other}
use Rattle.mintcx_picture.specs.declared.colours.Colour.TheVariants.{Lent, Setup, Own, Gate, Next, Wire, Rule, Edge}
use Rattle.mintcx_picture.specs.declared.colours.Colour.TheVariants.{Missing}

-- how a colour is written: as its parts of red, green and blue
abbrev pub colour_code : Colour → List ℕ
colour_code Ink = codes "#1f2328"
colour_code Soft = codes "#59636e"
colour_code Faint = codes "#b6c2cd"
colour_code Grid = codes "#d8dee4"
colour_code Zebra = codes "#f3f5f8"
colour_code Paper = codes "#ffffff"
colour_code Open = codes "#bcdcf5"
colour_code Other = codes "#e4eff8"
colour_code Lent = codes "#f2a33a"
colour_code Setup = codes "#7d8792"
colour_code Own = codes "#0b4a82"
colour_code Gate = codes "#2f76b5"
colour_code Next = codes "#4b8bc6"
colour_code Wire = codes "#a9cdea"
colour_code Rule = codes "#8a6fb0"
colour_code Edge = codes "#8c959f"
colour_code Missing = codes "#c5221f"
