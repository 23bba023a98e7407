-- Violations of the rules of the clock, in words. The first line says what is broken and by how much, the second with
-- which numbers.
use Rattle.std.specs.Prelude.{ℕ, zero, suc, ℤ, pos, ◌+◌, ◌*ℤ◌, ◌==◌, List, [], ◌∷◌, ◌++◌, codes, decimal}
use Rattle.std.specs.Prelude.{Option, Some, None, slice_index_or, if◌then◌else◌, int_lt}
use Rattle.std.specs.List.{fold, range_with_len}
use Rattle.mintc_timing.specs.declared.clocking.Schedule.{Schedule}
use Rattle.mintc_timing.specs.declared.violation.Broken.{Broken}
use Rattle.mintc_timing.specs.declared.violation.Broken.TheVariants as broken
use Rattle.mintc_timing.specs.declared.parts.Bound.{Bound}
use Rattle.mintc_timing.specs.declared.parts.Point.{Point}
use Rattle.mintc_timing.specs.declared.parts.Point.TheVariants.{Origin, Start, End}
use Rattle.mintc_timing.specs.Design.{Design, Timing, element_at, element_count, phase_of, pair_at}
use Rattle.mintc_timing.specs.Clocking.{start_of, width_of, least_width, is_pair_between}
use Rattle.mintcx_amounts.specs.declared.unit.Unit.{Unit}
use Rattle.mintcx_frame.specs.Names.{phase_name, element_name}
use Rattle.mintcx_judgements.specs.Shown.{timed, measured, about}
use Rattle.mintcx_judgements.specs.Sources.{numbers_of}

-- a phase starts after the cycle
abbrev pub cycle_lines : Design → Schedule → Unit → ℕ → ℤ → List (List ℕ)
cycle_lines design s unit p amount =
    (measured unit s (about (codes "  cycle  ") (phase_name design p) (codes " starts ")) amount
    ++ codes " after the cycle ends") ∷
    (timed unit s (codes "         it starts at ") (start_of s p)
    ++ timed unit s (codes ", the cycle is ") s.cycle) ∷ []

-- a phase starts after the next one
abbrev pub order_lines : Design → Schedule → Unit → ℕ → ℤ → List (List ℕ)
order_lines design s unit p amount =
    (measured unit s (about (codes "  order  ") (phase_name design p) (codes " starts ")) amount
    ++ about (codes " after ") (phase_name design (p + 1)) (codes ", which follows it")) ∷
    (timed unit s (codes "         at ") (start_of s p) ++ timed unit s (codes " and at ") (start_of s (p + 1))) ∷ []

-- a phase is wider than the cycle
abbrev pub span_lines : Design → Schedule → Unit → ℕ → ℤ → List (List ℕ)
span_lines design s unit p amount =
    (measured unit s (about (codes "  span   ") (phase_name design p) (codes " is open for ")) amount
    ++ codes " more than a cycle") ∷
    (timed unit s (codes "         it is ") (width_of s p) ++ timed unit s (codes " wide, the cycle is ") s.cycle) ∷ []

-- of two elements, the second where it asks for the wider pulses, else the first
abbrev pub wider_of : Design → Option ℕ → ℕ → Option ℕ
wider_of design None l = Some l
wider_of design (Some best) l =
    if int_lt (element_at design best).width (element_at design l).width then Some l else Some best

-- the first of the elements on a phase that ask for the widest pulses
abbrev pub widest_on : Design → ℕ → List ℕ → Option ℕ
widest_on design p elements =
    fold (λ best l. if phase_of design l == p then wider_of design best l else best) None elements

-- what it asks for, where there is one
abbrev pub asking : Design → Schedule → Unit → Option ℕ → List ℕ
asking design s unit None = codes " wide"
asking design s unit (Some l) =
    timed unit s (about (codes " wide, ") (element_name design l) (codes " wants pulses of "))
    ((element_at design l).width *ℤ s.den)

-- a phase is too narrow for an element
abbrev pub width_lines : Design → Schedule → Unit → ℕ → ℤ → List (List ℕ)
width_lines design s unit p amount =
    measured unit s (about (codes "  width  ") (phase_name design p) (codes " is too narrow by ")) amount ∷
    (timed unit s (codes "         it is ") (width_of s p)
    ++ asking design s unit (widest_on design p (range_with_len 0 (element_count design)))) ∷ []

-- the first pair from an element on a phase to a latch on another
abbrev pub first_between : Timing → ℕ → ℕ → List ℕ → Option ℕ
first_between t i j [] = None
first_between t i j (n ∷ numbers) =
    if is_pair_between t.flat i j (pair_at t n) then Some n else first_between t i j numbers

-- what could happen to its data
abbrev pub racing : Timing → ℕ → ℕ → Option ℕ → List (List ℕ)
racing t i j None = []
racing t i j (Some n) =
    (about (codes "         data of ") (element_name t.flat (pair_at t n).from)
    (about (codes " (") (phase_name t.flat i) (codes ")"))
    ++ about (codes " could run through ") (element_name t.flat (pair_at t n).to)
    (about (codes " (") (phase_name t.flat j) (codes ") too soon"))) ∷ []

-- a phase starts before another has ended
abbrev pub apart_lines : Timing → Schedule → Unit → ℕ → ℕ → ℤ → List (List ℕ)
apart_lines t s unit i j amount =
    (measured unit s (about (codes "  apart  ") (phase_name t.flat i) (codes " starts ")) amount
    ++ about (codes " before ") (phase_name t.flat j) (codes " has ended")) ∷
    racing t i j (first_between t i j (numbers_of t))

-- a point of the clock
abbrev pub point_name : Design → Point → List ℕ
point_name design Origin = codes "time 0"
point_name design (Start p) = phase_name design p ++ codes " starts"
point_name design (End p) = phase_name design p ++ codes " ends"

-- what stands for a bound past the end
abbrev pub no_bound : Bound
no_bound = record { from = Origin; to = Origin; gap = pos 0; cycles = 0 }

-- the cycles of a bound, where it has any
abbrev pub less_cycles : ℕ → List ℕ
less_cycles zero = []
less_cycles (suc cycles) = codes ", less a cycle"

-- between which points a bound is, and what it asks for
abbrev pub asked_line : Design → Schedule → Unit → Bound → List ℕ
asked_line design s unit bound =
    about (codes "         from ") (point_name design bound.from) (about (codes " to ") (point_name design bound.to)
    (timed unit s (codes " it asks for ") (bound.gap *ℤ s.den))) ++ less_cycles bound.cycles

-- a bound is missed
abbrev pub bound_lines : Design → Schedule → Unit → ℕ → Bound → ℤ → List (List ℕ)
bound_lines design s unit n bound amount =
    measured unit s (about (codes "  bound  bound ") (decimal (n + 1)) (codes " is missed by ")) amount ∷
    asked_line design s unit bound ∷ []

-- a rule of the clock or a bound in words; nothing of a loop, a setup or a hold
abbrev pub rule_lines : Timing → Schedule → Unit → Broken → ℤ → List (List ℕ)
rule_lines t s unit (broken.Cycle p) amount = cycle_lines t.flat s unit p amount
rule_lines t s unit (broken.Order p) amount = order_lines t.flat s unit p amount
rule_lines t s unit (broken.Span p) amount = span_lines t.flat s unit p amount
rule_lines t s unit (broken.Width p) amount = width_lines t.flat s unit p amount
rule_lines t s unit (broken.Apart i j) amount = apart_lines t s unit i j amount
rule_lines t s unit (broken.Bound n) amount =
    bound_lines t.flat s unit n (slice_index_or t.flat.bounds n no_bound) amount
rule_lines t s unit other amount = []
