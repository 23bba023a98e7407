-- What moments and elements are called.
use Rattle.std.specs.Prelude.{ℕ, ◌-◌, Bool, List, [], ◌++◌, codes, if◌then◌else◌, slice_index_or}
use Rattle.mintc_timing.specs.Design.{Design, element_at, phase_of}
use Rattle.mintc_timing.specs.Times.{Node, nodes, time_zero, phase_start, phase_end, moment}

-- the name of a phase, which is counted from 1
abbrev pub phase_name : Design → ℕ → List ℕ
phase_name design p = slice_index_or design.phases (p - 1) []

-- the name of an element
abbrev pub element_name : Design → ℕ → List ℕ
element_name design l = (element_at design l).name

-- what a moment is called
abbrev pub moment_name : Design → Node → List ℕ
moment_name design time_zero = codes "time 0"
moment_name design (phase_start p) = phase_name design p ++ codes " starts"
moment_name design (phase_end p) = phase_name design p ++ codes " ends"
moment_name design (moment l) = element_name design l

-- the same by the number of its node
abbrev pub node_name : Design → ℕ → List ℕ
node_name design n = moment_name design (slice_index_or (nodes design) n time_zero)

-- the word of an element's kind
abbrev pub kind_word : Bool → List ℕ
kind_word flop = if flop then codes "flop" else codes "latch"

-- the kind of an element and its phase
abbrev pub kind_on_phase : Design → ℕ → List ℕ
kind_on_phase design l = kind_word (element_at design l).flop ++ codes " on " ++ phase_name design (phase_of design l)
