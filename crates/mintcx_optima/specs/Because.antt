-- Why a stage of a chain asks for time, in words.
use Rattle.std.specs.Prelude.{ℕ, ◌+◌, ◌==◌, ℤ, pos, ◌&&◌, Bool, if◌then◌else◌, int_lt, List, [], ◌∷◌, ◌++◌, codes}
use Rattle.std.specs.Prelude.{decimal}
use Rattle.std.specs.Prelude.{find, Option, Some, None, option_map}
use Rattle.std.specs.Ordering.{int_eq}
use Rattle.mintc_timing.specs.declared.link.LinkKind.{LinkKind}
use Rattle.mintc_timing.specs.declared.link.LinkKind.TheVariants.{Start, Cycle, Order, Span, Width, Apart, Opening}
use Rattle.mintc_timing.specs.declared.link.LinkKind.TheVariants.{Opened, Setup, Bound}
use Rattle.mintc_timing.specs.declared.parts.Element.{Element}
use Rattle.mintc_timing.specs.Design.{Design}
use Rattle.mintcx_chain.specs.declared.stages.Stage.{Stage}
use Rattle.mintcx_chain.specs.declared.stages.Why.{Why}
use Rattle.mintcx_chain.specs.declared.stages.Why.TheVariants.{Rule, Reach, Hold}
use Rattle.mintcx_chain.specs.Gates.{gates_of}
use Rattle.mintcx_chain.specs.Through.{gates_text}
use Rattle.mintcx_frame.specs.Names.{element_name}

-- an element on a phase that asks for a width
abbrev pub asks : ℕ → ℤ → Element → Bool
asks p width e = (e.phase == p) && int_eq e.width width

-- the name of the first element on a phase that asks for a width above 0, if one does
abbrev pub asking : Design → ℕ → ℤ → Option (List ℕ)
asking design p width = if int_lt (pos 0) width
    then option_map (λ (e : Element). e.name) (find (asks p width) design.elements)
    else None

-- whose width a phase has at least
abbrev pub width_text : Option (List ℕ) → List ℕ
width_text (Some name) = codes "least pulse width of " ++ name
width_text None = codes "no phase ends before it starts"

-- what a rule of the clock asks
abbrev pub clock_word : LinkKind → List ℕ
clock_word (Start p) = codes "no phase starts before time 0"
clock_word (Cycle p) = codes "each phase starts within the cycle"
clock_word (Order p) = codes "phases start in their order"
clock_word (Span p) = codes "no phase is wider than the cycle"
clock_word (Apart i j) = codes "the second feeds the first"
clock_word kind = []

-- what of an element asks for time
abbrev pub of_text : Design → List ℕ → ℕ → List ℕ
of_text design word l = word ++ codes " of " ++ element_name design l

-- a bound by its number, counted from 1
abbrev pub bound_text : ℕ → List ℕ
bound_text n = codes "bound " ++ decimal (n + 1)

-- why a rule asks for so much time
abbrev pub rule_text : Design → LinkKind → ℤ → List ℕ
rule_text design (Width p) delay = width_text (asking design p delay)
rule_text design (Opening l) delay = of_text design (codes "opening") l
rule_text design (Opened l) delay = of_text design (codes "setup") l
rule_text design (Setup l) delay = of_text design (codes "setup") l
rule_text design (Bound n) delay = bound_text n
rule_text design kind delay = clock_word kind

-- the gates through which data goes
abbrev pub data_text : List (List ℕ) → List ℕ
data_text [] = codes "data"
data_text (gate ∷ gates) = codes "data" ++ codes " through " ++ gates_text (gate ∷ gates)

-- whose hold is kept after whose data
abbrev pub after_text : Design → ℕ → ℕ → List ℕ
after_text design j l = of_text design (codes "hold") l ++ codes " after " ++ element_name design j

-- why a stage asks for time
abbrev pub why_text : Design → Why → ℤ → List ℕ
why_text design (Rule kind) delay = rule_text design kind delay
why_text design (Reach j l path) delay = data_text (gates_of design path)
why_text design (Hold j l path) delay = after_text design j l

abbrev pub because_text : Design → Stage → List ℕ
because_text design stage = why_text design stage.why stage.delay
