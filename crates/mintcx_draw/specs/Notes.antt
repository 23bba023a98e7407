-- What is noted of rows.
use Rattle.std.specs.Prelude.{ℕ, ◌+◌, ◌-◌, ℤ, pos, List, [], ◌++◌, codes, decimal, slice_index_or}
use Rattle.std.specs.Prelude.{if◌then◌else◌, int_lt}
use Rattle.mintc_timing.specs.declared.clocking.Schedule.{Schedule}
use Rattle.mintc_timing.specs.declared.link.LinkKind.{LinkKind}
use Rattle.mintc_timing.specs.declared.link.LinkKind.TheVariants as link
use Rattle.mintc_timing.specs.Design.{Design}
use Rattle.mintcx_amounts.specs.declared.unit.Unit.{Unit}
use Rattle.mintcx_chain.specs.declared.stages.Stage.{Stage}
use Rattle.mintcx_chain.specs.declared.stages.Why.{Why}
use Rattle.mintcx_chain.specs.declared.stages.Why.TheVariants as why
use Rattle.mintcx_frame.specs.Names.{element_name, node_name}
use Rattle.mintcx_optima.specs.Counts.{counted}
use Rattle.mintcx_chart.specs.declared.lanes.Kind.{Kind}
use Rattle.mintcx_chart.specs.Words.{kind_on_phase, moment_text}

-- what an element borrows, where it does
abbrev pub lent_text : Schedule → Unit → ℤ → List ℕ
lent_text s unit borrows = if int_lt (pos 0) borrows then codes ", borrows " ++ moment_text unit s.den borrows else []

-- an element's kind and phase, and what it borrows
abbrev pub held_text : Design → Schedule → Unit → Kind → ℕ → ℤ → List ℕ
held_text design s unit kind l borrows = kind_on_phase design kind l ++ lent_text s unit borrows

-- that a phase isn't before another
abbrev pub not_before : List ℕ → List ℕ
not_before phase = phase ++ codes " not before it"

-- a bound by its number, counted from 1, and to where it leads
abbrev pub bound_text : Design → ℕ → ℕ → List ℕ
bound_text design n to = codes "bound " ++ decimal (n + 1) ++ codes ", to " ++ node_name design to

-- which element opens
abbrev pub opens_text : Design → ℕ → List ℕ
opens_text design l = codes "opens " ++ element_name design l

-- what a rule of the clock asks for in words of its own
abbrev pub rule_word : LinkKind → List ℕ
rule_word (link.Start p) = codes "no phase starts sooner"
rule_word (link.Cycle p) = codes "within the cycle"
rule_word (link.Span p) = codes "no longer than a cycle"
rule_word (link.Width p) = codes "least width"
rule_word kind = []

-- what a rule of the clock asks for
abbrev pub rule_text : Design → LinkKind → ℕ → List ℕ
rule_text design (link.Order p) to = not_before (slice_index_or design.phases p [])
rule_text design (link.Apart i j) to = not_before (slice_index_or design.phases (i - 1) [])
rule_text design (link.Bound n) to = bound_text design n to
rule_text design (link.Opening l) to = opens_text design l
rule_text design (link.Opened l) to = opens_text design l
rule_text design kind to = rule_word kind

-- what is noted of a stage: of an element its kind, its phase and what it borrows, else what the rule asks for
abbrev pub note_text : Design → Schedule → Unit → Kind → Stage → Why → ℤ → List ℕ
note_text design s unit kind stage (why.Reach j l path) borrows = held_text design s unit kind j borrows
note_text design s unit kind stage (why.Rule (link.Setup l)) borrows = held_text design s unit kind l borrows
note_text design s unit kind stage (why.Rule asked) borrows = rule_text design asked stage.to
note_text design s unit kind stage (why.Hold j l path) borrows = []

-- what is noted of the first stage again, so many cycles on
abbrev pub again_text : ℕ → List ℕ
again_text cycles = codes "again, " ++ counted cycles (codes "cycle") ++ codes " on"
