-- Trails: data that leaves an element and comes along a path of arcs.
use Rattle.std.specs.Prelude.{◌≡◌, ◌<◌, ◌≤◌, ℕ, ℤ, ◌+ℤ◌, ◌*ℤ◌, ◌≤ℤ◌, Option, IfSome, IsSomeAnd, List, length}
use Rattle.mintc_timing.specs.declared.clocking.Schedule.{Schedule}
use Rattle.mintc_timing.specs.Clocking.{shift_of}
use Rattle.mintc_timing.specs.Departures.{departure}
use Rattle.mintc_timing.specs.Design.{Design, element_at}
use Rattle.mintc_timing.specs.Paths.{Leads, output_of, input_of, greatest_delay}

-- Of the trails, each an element and a path, some trail has this time, and none has a greater one; there is no trail
-- where there is no time.
pub record IsGreatestTime (IsTrail : ℕ → List ℕ → Type 0) (time : ℕ → List ℕ → ℤ) (best : Option ℤ) : Type 0 where
  pub attained : IfSome best (λ z. (j : ℕ) × (path : List ℕ) × IsTrail j path × (time j path ≡ z))
  pub bound : (j : ℕ) (path : List ℕ) → IsTrail j path → IsSomeAnd best (λ z. time j path ≤ℤ z)

-- The path leads from the output of an element of the design to the bit.
pub record LeadsTo (design : Design) (bit j : ℕ) (path : List ℕ) : Type 0 where
  pub element : j < length design.elements
  pub leads : Leads design.arcs (output_of j) path bit

-- The same from an element on phase p. Phases are counted from 1.
pub record LeadsFrom (design : Design) (p bit j : ℕ) (path : List ℕ) : Type 0 where
  pub trail : LeadsTo design bit j path
  pub phase : (element_at design j).phase ≡ p

-- The same from an element on a phase up to p.
pub record LeadsFromUpTo (design : Design) (p bit j : ℕ) (path : List ℕ) : Type 0 where
  pub trail : LeadsTo design bit j path
  pub phase : (element_at design j).phase ≤ p

-- When data that leaves element j comes to the end of the path at the latest, counted from the start of j's phase, in
-- femtoseconds times den.
abbrev pub time_along : Design → ℤ → List ℤ → ℕ → List ℕ → ℤ
time_along design den d j path = departure d j +ℤ ((element_at design j).dq_max +ℤ greatest_delay design.arcs path) *ℤ
    den

-- the same counted from the next start of phase q
abbrev pub arrival_along : Design → Schedule → List ℤ → ℕ → ℕ → List ℕ → ℤ
arrival_along design s d q j path = time_along design s.den d j path +ℤ shift_of s (element_at design j).phase q

-- The label of a phase at a bit is the greatest time of the trails that lead there from the phase.
abbrev pub IsLabel : Design → ℤ → List ℤ → ℕ → ℕ → Option ℤ → Type 0
IsLabel design den d p bit label = IsGreatestTime (LeadsFrom design p bit) (time_along design den d) label

-- The last arrival at an element is the greatest time of the trails that lead to its input, counted from its phase.
abbrev pub IsLastArrival : Design → Schedule → List ℤ → ℕ → Option ℤ → Type 0
IsLastArrival design s d l last = IsGreatestTime (LeadsTo design (input_of l))
    (arrival_along design s d (element_at design l).phase) last

-- the same of the trails from the phases up to this one
abbrev pub IsLastUpTo : Design → Schedule → List ℤ → ℕ → ℕ → ℕ → Option ℤ → Type 0
IsLastUpTo design s d p l q last = IsGreatestTime (LeadsFromUpTo design p (input_of l))
    (arrival_along design s d q) last
