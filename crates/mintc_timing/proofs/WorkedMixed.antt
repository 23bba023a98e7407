-- A design with a flop, a hold, a bound and an inner bit by computation.
use Rattle.std.proofs.Common.{◌≡◌, ℕ, pos, negsuc, true, false, List, [], ◌∷◌, ◌++◌, ◌≢◌, ◌+ℤ◌, ◌-ℤ◌, ◌*ℤ◌, ◌≤ℤ◌, map, arith, refl}
use Rattle.std.specs.Int.{int_max}
use Rattle.std.proofs.lemmas.Int.{ints, clamps}
use Rattle.std.proofs.lemmas.List.Elements.{All-head}
use Rattle.mintc_timing.specs.declared.parts.Element.{Element}
use Rattle.mintc_timing.specs.declared.parts.Point.TheVariants as point
use Rattle.mintc_timing.specs.declared.violation.Broken.TheVariants as broken
use Rattle.mintc_timing.specs.declared.link.LinkKind.TheVariants as kind
use Rattle.mintc_timing.specs.Design.{Timing}
use Rattle.mintc_timing.specs.Clocking.{KeepsBound, start_of, width_of}
use Rattle.mintc_timing.specs.Paths.{IsPath, greatest_delay, least_delay, input_of}
use Rattle.mintc_timing.specs.Departures.{departure, late_departure, early_departure}
use Rattle.mintc_timing.specs.Violations.{check, failed, clock_checks, setup_checks, hold_checks}
use Rattle.mintc_timing.specs.Right.{IsHopeless}
use Rattle.mintc_timing.specs.Links.{links_of, link}
use Rattle.mintc_timing.specs.Worked.{schedule}

-- A flop with a hold, on the first phase, and a latch with an opening delay other than its delay from data, on the second:
-- from the flop through an inner bit to the latch, and back; the cycle is at least 150.
abbrev flop : Element
flop = record { name = []; phase = 1; flop = true; setup = pos 5; hold = pos 120; has_hold = true; dq_min = pos 10; dq_max = pos 10; cq_min = pos 10; cq_max = pos 10; width = pos 0 }

abbrev latch : Element
latch = record { name = []; phase = 2; flop = false; setup = pos 10; hold = pos 4; has_hold = true; dq_min = pos 8; dq_max = pos 12; cq_min = pos 20; cq_max = pos 25; width = pos 30 }

abbrev mixed : Timing
mixed = record {
  flat = record {
    phases = (112 ∷ []) ∷ (113 ∷ []) ∷ [];
    elements = flop ∷ latch ∷ [];
    inner = (110 ∷ []) ∷ [];
    arcs = record { from = 1; to = 4; min = pos 20; max = pos 25 } ∷ record { from = 4; to = 2; min = pos 5; max = pos 5 } ∷ record { from = 3; to = 0; min = pos 40; max = pos 60 } ∷ [];
    bounds = record { from = point.Origin; to = point.Origin; gap = pos 150; cycles = 1 } ∷ [];
  };
  order = 0 ∷ 1 ∷ 2 ∷ [];
  pairs = record { from = 0; to = 1; min = pos 25; max = pos 30 } ∷ record { from = 1; to = 0; min = pos 40; max = pos 60 } ∷ [];
}

-- the path from the flop to the latch, and its sums
some_path : (n : ℕ) (path : List ℕ) → (n ∷ path) ≢ []
some_path n path h = cc

path_of_mixed : IsPath mixed.flat.arcs 0 (0 ∷ 1 ∷ []) (input_of 1)
path_of_mixed = (some_path 0 (1 ∷ []), (omega arith, refl, (omega arith, refl, refl)))

sums_of_mixed : greatest_delay mixed.flat.arcs (0 ∷ 1 ∷ []) ∷ least_delay mixed.flat.arcs (0 ∷ 1 ∷ []) ∷ [] ≡ pos 30 ∷ pos 25 ∷ []
sums_of_mixed = refl

-- the latch departs at 13 at the latest, 25 - 12 after it opens, and at 12 at the earliest
late_of_mixed : map (late_departure mixed (schedule (pos 140) (pos 0) (pos 10) (pos 50) (pos 20)) (pos 0 ∷ pos 13 ∷ [])) (0 ∷ 1 ∷ []) ≡ pos 0 ∷ pos 13 ∷ []
late_of_mixed = refl

early_of_mixed : map (early_departure mixed (schedule (pos 140) (pos 0) (pos 10) (pos 50) (pos 20)) (pos 0 ∷ pos 12 ∷ [])) (0 ∷ 1 ∷ []) ≡ pos 0 ∷ pos 12 ∷ []
early_of_mixed = refl

-- At a cycle of 140 the second phase, 20 wide, is 10 too narrow, the bound fails by 10, the latch's setup by 13 + 10 - 20, and the
-- flop's hold by 120 - (12 + 48 - 90 + 140).
violations_of_mixed : failed (clock_checks mixed (schedule (pos 140) (pos 0) (pos 10) (pos 50) (pos 20))
    ++ setup_checks mixed (schedule (pos 140) (pos 0) (pos 10) (pos 50) (pos 20)) (pos 0 ∷ pos 13 ∷ [])
    ++ hold_checks mixed (schedule (pos 140) (pos 0) (pos 10) (pos 50) (pos 20)) (pos 0 ∷ pos 12 ∷ []))
    ≡ check (broken.Width 2) (pos 10) ∷ check (broken.Bound 0) (pos 10) ∷ check (broken.Setup 1) (pos 3) ∷ check (broken.Hold 0) (pos 10) ∷ []
violations_of_mixed = refl

-- all links: a flop stands its setup before its phase starts, and opens and sets up there
links_of_mixed : links_of mixed
    ≡ link (kind.Start 1) 0 1 (pos 0) 0
    ∷ link (kind.Start 2) 0 3 (pos 0) 0
    ∷ link (kind.Cycle 1) 1 0 (pos 0) 1
    ∷ link (kind.Cycle 2) 3 0 (pos 0) 1
    ∷ link (kind.Order 1) 1 3 (pos 0) 0
    ∷ link (kind.Span 1) 2 1 (pos 0) 1
    ∷ link (kind.Span 2) 4 3 (pos 0) 1
    ∷ link (kind.Width 1) 1 2 (pos 0) 0
    ∷ link (kind.Width 2) 3 4 (pos 30) 0
    ∷ link (kind.Apart 1 2) 4 1 (pos 0) 1
    ∷ link (kind.Opening 0) 1 5 (negsuc 4) 0
    ∷ link (kind.Opening 1) 3 6 (pos 13) 0
    ∷ link (kind.Opened 1) 3 4 (pos 10) 0
    ∷ link (kind.Reach 0 1) 1 6 (pos 40) 0
    ∷ link (kind.Reach 1 0) 6 5 (pos 72) 1
    ∷ link (kind.Setup 0) 5 1 (pos 5) 0
    ∷ link (kind.Setup 1) 6 4 (pos 10) 0
    ∷ link (kind.Bound 0) 0 0 (pos 150) 1
    ∷ []
links_of_mixed = refl

-- A latch asks for 10 of setup and its phase ends 5 after it starts, at the latest: no schedule is right.
abbrev narrow : Timing
narrow = record {
  flat = record {
    phases = (112 ∷ []) ∷ [];
    elements = record { name = []; phase = 1; flop = false; setup = pos 10; hold = pos 0; has_hold = false; dq_min = pos 0; dq_max = pos 0; cq_min = pos 0; cq_max = pos 0; width = pos 0 } ∷ [];
    inner = [];
    arcs = [];
    bounds = record { from = point.End 1; to = point.Start 1; gap = negsuc 4; cycles = 0 } ∷ [];
  };
  order = [];
  pairs = [];
}

hopeless_narrow : IsHopeless narrow
hopeless_narrow s d right =
    let ends : ((start_of s 1 +ℤ width_of s 1) +ℤ negsuc 4 *ℤ s.den -ℤ pos 0 *ℤ s.cycle) ≤ℤ start_of s 1 = All-head (KeepsBound s) _ [] right.bounds in
    let wide : (int_max (pos 0) (departure d 0) +ℤ pos 10 *ℤ s.den) ≤ℤ width_of s 1 = right.setup 0 (omega arith) in
    omega (arith, ints, clamps, ends, wide, right.clock.den)
