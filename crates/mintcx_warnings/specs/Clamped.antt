-- What is said of delays below 0 that are taken as 0.
use Rattle.std.specs.Prelude.{◌==◌, ℕ, List, [], ◌∷◌, ◌++◌, codes, decimal, if◌then◌else◌}
use Rattle.mintcx_warnings.specs.declared.said.Said.{Said}
use Rattle.mintcx_warnings.specs.Warnings.{quoted}

-- what is done with so many numbers
abbrev pub taken : ℕ → List ℕ
taken numbers = if numbers == 1 then codes " number below 0 is taken as 0" else codes " numbers below 0 are taken as 0"

-- so many delays, before how many numbers they have
abbrev pub delays_of : ℕ → List ℕ
delays_of delays = if delays == 1 then codes " delay of " else codes " delays of "

-- how many there are
abbrev pub clamped_what : ℕ → ℕ → List ℕ
clamped_what delays numbers = decimal delays ++ delays_of delays ++ decimal numbers ++ taken numbers

-- at which instance, where that is known
abbrev pub at_text : List ℕ → List ℕ
at_text [] = []
at_text (b ∷ bs) = codes ", at " ++ quoted (b ∷ bs)

-- what stands there
abbrev pub clamped_label : List ℕ → List ℕ
clamped_label first = codes " the first" ++ at_text first

-- how far they are from 0, and what follows of that
abbrev pub clamped_why : List ℕ → List ℕ → List ℕ
clamped_why amount least = codes "the least is " ++ amount ++ at_text least
    ++ codes "; a cycle found so is safe for setups, holds may be told too well"

-- what helps
abbrev pub clamped_help : List ℕ
clamped_help = codes "buffer the nets (abc: buffer,-N,8) and write the delays anew"

-- what is said of so many delays and numbers, the first at this instance, and the least at that, of this amount
abbrev pub clamped_said : ℕ → ℕ → List ℕ → List ℕ → List ℕ → Said
clamped_said delays numbers first least amount = record {
  what = clamped_what delays numbers;
  label = clamped_label first;
  why = clamped_why amount least;
  help = clamped_help;
}
