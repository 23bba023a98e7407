-- What is said of ports of the top that no phase and no list names.
use Rattle.std.specs.Prelude.{◌==◌, ℕ, ◌+◌, List, [], ◌++◌, codes, decimal, if◌then◌else◌}
use Rattle.mintcx_lint.specs.declared.ports.Unlisted.{Unlisted}
use Rattle.mintcx_warnings.specs.declared.said.Said.{Said}
use Rattle.mintcx_warnings.specs.Warnings.{more_text, quoted}

-- what the name of a kind ends with where there are so many
abbrev pub plural : ℕ → List ℕ
plural count = if count == 1 then [] else codes "s"

-- so many of a kind
abbrev pub so_many : ℕ → List ℕ → List ℕ
so_many count kind = decimal count ++ kind ++ plural count

-- how many are inputs, and how many outputs, where there are some
abbrev pub kinds_text : ℕ → ℕ → List ℕ
kinds_text inputs outputs =
    if inputs == 0 then so_many outputs (codes " output")
    else if outputs == 0 then so_many inputs (codes " input")
    else so_many inputs (codes " input") ++ codes ", " ++ so_many outputs (codes " output")

-- where they are missing
abbrev pub missing_text : ℕ → List ℕ
missing_text count =
    if count == 1 then codes " of the top is in no list: " else codes " of the top are in no list: "

-- how many there are
abbrev pub ports_what : ℕ → ℕ → List ℕ
ports_what inputs outputs =
    so_many (inputs + outputs) (codes " port") ++ missing_text (inputs + outputs) ++ kinds_text inputs outputs

-- the first by its name, and how many others there are
abbrev pub ports_label : List ℕ → ℕ → List ℕ
ports_label first count = codes " " ++ quoted first ++ more_text (codes ", and ") count

-- what is said of such ports
abbrev pub ports_said : Unlisted → Said
ports_said found = record {
  what = ports_what found.inputs found.outputs;
  label = ports_label found.first (found.inputs + found.outputs);
  why = codes "no time is known there: paths from such inputs and to such outputs are not judged";
  help = codes "list them in the clock description, as `[[input]]` or `[[output]]` with a phase";
}
