-- The lines that a table is written as.
use Rattle.std.specs.Prelude.{◌*◌, ◌-◌, ◌/◌, ℕ, List, [], ◌∷◌, ◌++◌, length, map, codes, nat_le, if◌then◌else◌}
use Rattle.mintc_text.specs.Lines.{words, numeral_of}
use Rattle.mintc_timing.specs.Design.{Design}
use Rattle.mintc_timing.specs.declared.parts.Bound.{Bound}
use Rattle.mintc_timing.specs.declared.parts.Element.{Element}
use Rattle.mintc_timing.specs.declared.parts.TimingArc.{TimingArc}
use Rattle.mintc_timing_text.specs.Fields.{number}
use Rattle.mintc_timing_text.specs.LineForms.{count_line}
use Rattle.mintc_timing_text.specs.TableText.{hold_word, kind_word, point_word}

-- the word of a bit of a design of n elements: an element's by a letter and the element's number, or an inner bit
abbrev pub bit_word : List ℕ → ℕ → ℕ → List ℕ
bit_word letter n bit =
    if nat_le (2 * n) bit then codes "n" ++ number (bit - 2 * n) else letter ++ number (bit / 2)

-- the words of an element's setup and hold
abbrev pub margin_words : Element → List (List ℕ)
margin_words e = numeral_of e.setup ∷ hold_word e.has_hold e.hold ∷ []

-- the words of an element's delays and its width
abbrev pub time_words : Element → List (List ℕ)
time_words e = numeral_of e.dq_min ∷ numeral_of e.dq_max ∷ numeral_of e.cq_min ∷ numeral_of e.cq_max
    ∷ numeral_of e.width ∷ []

-- the line of a phase
abbrev pub phase_line : List ℕ → List ℕ
phase_line name = words (codes "phase" ∷ name ∷ [])

-- the line of an element
abbrev pub element_line : Element → List ℕ
element_line e = words (codes "element" ∷ e.name ∷ number e.phase ∷ kind_word e.flop ∷ margin_words e ++ time_words e)

-- the line of an arc of a design of n elements
abbrev pub arc_line : ℕ → TimingArc → List ℕ
arc_line n x = words (codes "arc" ∷ bit_word (codes "q") n x.from ∷ bit_word (codes "d") n x.to ∷ numeral_of x.min
    ∷ numeral_of x.max ∷ [])

-- the line of a bound
abbrev pub bound_line : Bound → List ℕ
bound_line x = words (codes "bound" ∷ point_word x.from ∷ point_word x.to ∷ numeral_of x.gap ∷ number x.cycles ∷ [])

-- the lines of phases, after how many they are
abbrev pub phase_lines : List (List ℕ) → List (List ℕ)
phase_lines names = count_line (codes "phases") (length names) ∷ map phase_line names

-- the lines of elements, after how many they are
abbrev pub element_lines : List Element → List (List ℕ)
element_lines es = count_line (codes "elements") (length es) ∷ map element_line es

-- the lines of arcs of a design of n elements, after how many they are
abbrev pub arc_lines : ℕ → List TimingArc → List (List ℕ)
arc_lines n xs = count_line (codes "arcs") (length xs) ∷ map (arc_line n) xs

-- the lines of bounds, after how many they are
abbrev pub bound_lines : List Bound → List (List ℕ)
bound_lines xs = count_line (codes "bounds") (length xs) ∷ map bound_line xs

-- all lines of a design's table
abbrev pub table_lines : Design → List (List ℕ)
table_lines d = codes "table 3" ∷ phase_lines d.phases ++ (element_lines d.elements
    ++ (count_line (codes "inner") (length d.inner) ∷ arc_lines (length d.elements) d.arcs
    ++ (bound_lines d.bounds ++ codes "end" ∷ [])))
