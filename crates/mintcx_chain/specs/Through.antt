-- What a stage goes through, in words.
use Rattle.std.specs.Prelude.{ℕ, zero, suc, ◌+◌, ◌-◌, List, [], ◌∷◌, ◌++◌, length, take, map, slice_index_or, codes}
use Rattle.std.specs.Prelude.{decimal}
use Rattle.std.specs.Prelude.{if◌then◌else◌, nat_le}
use Rattle.mintc_text.specs.Lines.{words}
use Rattle.mintc_timing.specs.declared.link.LinkKind.{LinkKind}
use Rattle.mintc_timing.specs.declared.link.LinkKind.TheVariants.{Start, Cycle, Order, Span, Width, Apart, Opening}
use Rattle.mintc_timing.specs.declared.link.LinkKind.TheVariants.{Opened, Setup, Bound}
use Rattle.mintc_timing.specs.Design.{Design}
use Rattle.mintcx_frame.specs.Names.{element_name}
use Rattle.mintcx_chain.specs.declared.stages.Why.{Why}
use Rattle.mintcx_chain.specs.declared.stages.Why.TheVariants.{Rule, Reach, Hold}
use Rattle.mintcx_chain.specs.Gates.{gates_of, short_name}

-- the text of a name at a place in a list of names: all but the first stand after a blank
abbrev pub next_text : ℕ → List ℕ → List ℕ
next_text zero name = name
next_text (suc n) name = 32 ∷ name

-- the short names of gates, with a blank between two
abbrev pub few_text : List (List ℕ) → List ℕ
few_text gates = words (map short_name gates)

-- the first three of many gates, the last one, and how many they are
abbrev pub many_text : List (List ℕ) → List ℕ
many_text gates = few_text (take 3 gates) ++ codes " .. " ++ short_name (slice_index_or gates (length gates - 1) [])
    ++ codes " (" ++ decimal (length gates) ++ codes ")"

-- the gates of a path: all of them, or of more than five some and their number
abbrev pub gates_text : List (List ℕ) → List ℕ
gates_text gates = if nat_le (length gates) 5 then few_text gates else many_text gates

-- the word of a rule of the clock, of a setup or of an opening
abbrev pub rule_word : LinkKind → List ℕ
rule_word (Start p) = codes "(start)"
rule_word (Cycle p) = codes "(cycle)"
rule_word (Order p) = codes "(order)"
rule_word (Span p) = codes "(span)"
rule_word (Width p) = codes "(width)"
rule_word (Apart i j) = codes "(apart)"
rule_word (Opening l) = codes "(open)"
rule_word (Opened l) = codes "(opened)"
rule_word (Setup l) = codes "(setup)"
rule_word kind = []

-- the same, and of a bound its number, counted from 1
abbrev pub rule_text : LinkKind → List ℕ
rule_text (Bound n) = codes "(bound " ++ decimal (n + 1) ++ codes ")"
rule_text kind = rule_word kind

-- whose hold a stage keeps, and after whose data
abbrev pub hold_text : Design → ℕ → ℕ → List ℕ
hold_text design j l = codes "(hold of " ++ element_name design l ++ codes " after " ++ element_name design j
    ++ codes ")"

-- what a stage goes through: the gates of its path, or in parentheses the rule by which it is there
abbrev pub through_text : Design → Why → List ℕ
through_text design (Rule kind) = rule_text kind
through_text design (Reach j l path) = gates_text (gates_of design path)
through_text design (Hold j l path) = hold_text design j l
