-- Reports of two latches, by computation.
use Rattle.std.proofs.Common.{◌≡◌, ℕ, ℤ, pos, negsuc, [], ◌∷◌, refl}
use Rattle.std.specs.Prelude.{codes}
use Rattle.std.specs.Fmt.{digits}
use Rattle.mintc_timing.specs.declared.parts.Point.TheVariants as point
use Rattle.mintc_timing.specs.declared.parts.TimingArc.{TimingArc}
use Rattle.mintc_timing.specs.Design.{Timing}
use Rattle.mintc_timing.specs.Worked.{latch, ring}
use Rattle.mintc_certificate.specs.declared.members.Member.TheVariants as member
use Rattle.mintc_report.specs.Reports.{chain_lines}

-- the ring of two latches has no inner bits
ring_lines : chain_lines ring.flat (member.Reach 0 1 (0 ∷ []) ∷ member.Reach 1 0 (1 ∷ []) ∷ [])
    ≡ codes "chain 2 delay 100 cycles 1" ∷ codes "reach a b delay 30 cycles 0" ∷ codes "reach b a delay 70 cycles 1" ∷ []
unfolding digits
ring_lines = refl

abbrev arc : ℕ → ℕ → ℤ → TimingArc
arc a b x = record { from = a; to = b; min = x; max = x }

-- From a to b data goes through m and n, and back straight.
abbrev through : Timing
through = record {
  flat = record {
    phases = codes "phi1" ∷ codes "phi2" ∷ [];
    elements = latch (codes "a") 1 ∷ latch (codes "b") 2 ∷ [];
    inner = codes "m" ∷ codes "n" ∷ [];
    arcs = arc 1 5 (pos 5) ∷ arc 3 0 (pos 60) ∷ arc 5 4 (pos 7) ∷ arc 4 2 (pos 8) ∷ [];
    bounds = record { from = point.Start 1; to = point.End 2; gap = negsuc 6; cycles = 1 } ∷ [];
  };
  order = [];
  pairs = [];
}

-- the bits on a path stand in its order, and not in that of their numbers
through_lines_in_order : chain_lines through.flat (member.Reach 0 1 (0 ∷ 2 ∷ 3 ∷ []) ∷ member.Reach 1 0 (1 ∷ []) ∷ [])
    ≡ codes "chain 2 delay 100 cycles 1" ∷ codes "reach a b delay 30 cycles 0" ∷ codes "through n" ∷ codes "through m" ∷ codes "reach b a delay 70 cycles 1" ∷ []
unfolding digits
through_lines_in_order = refl

-- the other kinds of members
kinds : chain_lines through.flat (member.Start 1 ∷ member.Cycle 2 ∷ member.Order 1 ∷ member.Span 2 ∷ member.Width 1 ∷ member.Apart 2 1 ∷ member.Opening 1 ∷ member.Opened 0 ∷ member.Setup 1 ∷ member.Bound 0 ∷ [])
    ≡ codes "chain 10 delay 13 cycles 3" ∷ codes "start phi1 delay 0 cycles 0" ∷ codes "cycle phi2 delay 0 cycles 1" ∷ codes "order phi1 delay 0 cycles 0"
    ∷ codes "span phi2 delay 0 cycles 1" ∷ codes "width phi1 delay 0 cycles 0" ∷ codes "apart phi2 phi1 delay 0 cycles 0" ∷ codes "open b delay 0 cycles 0"
    ∷ codes "opened a delay 10 cycles 0" ∷ codes "setup b delay 10 cycles 0" ∷ codes "bound 0 delay -7 cycles 1" ∷ []
unfolding digits
kinds = refl
