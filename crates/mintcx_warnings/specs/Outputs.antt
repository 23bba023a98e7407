-- What is said of listed outputs on a phase of flops.
use Rattle.std.specs.Prelude.{ℕ, nat_le, List, [], ◌∷◌, ◌++◌, codes, if◌then◌else◌}
use Rattle.mintcx_warnings.specs.declared.said.Said.{Said}
use Rattle.mintcx_warnings.specs.Warnings.{more_text, quoted}

-- what kind of thing they are, and how that goes on
abbrev pub late_kind : ℕ → List ℕ
late_kind count = if nat_le count 1 then codes "output " else codes "outputs "

abbrev pub late_verb : ℕ → List ℕ
late_verb count = if nat_le count 1 then codes " is" else codes " are"

-- which outputs they are: the first by its name, and how many others
abbrev pub late_what : List ℕ → ℕ → List ℕ → List ℕ
late_what output count phase = late_kind count ++ quoted output ++ more_text (codes " and ") count
    ++ late_verb count ++ codes " due later than the next edge of " ++ quoted phase

-- how wide a phase is, where that is known
abbrev pub width_text : List ℕ → List ℕ
width_text [] = codes "its width"
width_text (b ∷ bs) = b ∷ bs

-- when they are due
abbrev pub late_label : List ℕ → List ℕ → List ℕ
late_label phase width =
    codes " due where " ++ quoted phase ++ codes " ends, a cycle and " ++ width_text width
    ++ codes " after its data's edge"

-- why that is so
abbrev pub late_why : List ℕ → List ℕ
late_why phase = codes "all latches and flops on " ++ quoted phase ++ codes " are flops"

-- what helps
abbrev pub late_help : List ℕ → List ℕ
late_help phase = codes "bind a phase to end where " ++ quoted phase
    ++ codes " starts, and list the output on it: `mintcx explain outputs`"

-- what is said of outputs of which this is the first, on a phase of this name and of this width
abbrev pub late_said : List ℕ → ℕ → List ℕ → List ℕ → Said
late_said output count phase width = record {
  what = late_what output count phase;
  label = late_label phase width;
  why = late_why phase;
  help = late_help phase;
}
