-- What is said of pairs of latches on one phase.
use Rattle.std.specs.Prelude.{◌==◌, ℕ, List, ◌++◌, codes, decimal, if◌then◌else◌}
use Rattle.mintc_timing.specs.Design.{Design}
use Rattle.mintcx_frame.specs.Names.{element_name}
use Rattle.mintcx_lint.specs.declared.latches.SamePhase.{SamePhase}
use Rattle.mintcx_warnings.specs.declared.said.Said.{Said}
use Rattle.mintcx_warnings.specs.Warnings.{more_text, quoted}

-- the verb of so many pairs
abbrev pub same_verb : ℕ → List ℕ
same_verb count = if count == 1 then codes "leads" else codes "lead"

-- how many pairs of how many there are
abbrev pub same_what : ℕ → ℕ → List ℕ
same_what count all = decimal count ++ codes " of " ++ decimal all ++ codes " pairs "
    ++ same_verb count ++ codes " from a latch to a latch on the same phase"

-- the first pair by its names, and how many others there are
abbrev pub same_label : List ℕ → List ℕ → ℕ → List ℕ
same_label from to count =
    codes " " ++ quoted from ++ codes " to " ++ quoted to ++ more_text (codes ", and ") count

-- why it is worth a look
abbrev pub same_why : List ℕ
same_why = codes "data of one opening is taken by the next one, a cycle later; "
    ++ codes "where flops were split into latches the same opening is often meant"

-- what is said of such pairs, of so many in all
abbrev pub same_phase_said : Design → ℕ → SamePhase → Said
same_phase_said d all found = record {
  what = same_what found.count all;
  label = same_label (element_name d found.first.from) (element_name d found.first.to) found.count;
  why = same_why;
  help = codes "give one of the two a phase of its own";
}
