-- The worked files: two latches in a ring of two halves, each with a buffer.
use Rattle.std.proofs.Common.{◌≡◌, ℕ, zero, suc, pos, true, false, List, [], ◌∷◌, length, slice_index_or, Some, None, codes, refl, sym, ap, subst}
use Rattle.mintc_text.specs.Limits.{usual}
use Rattle.mintc_cells.specs.declared.cell.Cell.TheVariants.{Gate, Latch}
use Rattle.mintc_flatten_hierarchy.specs.declared.hierarchy.Hierarchy.{Hierarchy}
use Rattle.mintc_flatten_hierarchy.specs.declared.hierarchy.Inner.TheVariants.{Net, Pin}
use Rattle.mintc_clock.specs.declared.clock.Clock as clock_type
use Rattle.mintc_sdf.specs.declared.delays.Delay.{Delay}
use Rattle.mintc_sdf.specs.declared.delays.Place.TheVariants.{Path}
use Rattle.mintc_sdf.specs.declared.delays.Subject.TheVariants as subject
use Rattle.mintc_timing.specs.Design.{Design, no_arc}
use Rattle.mintc_timing.specs.Limits.{limit_of}
use Rattle.mintc_annotate.specs.declared.searching.Spot.{Spot}
use Rattle.mintc_flatten_hierarchy.specs.Shape.{CellTable}
use Rattle.mintc_annotate.specs.ClockPorts.{has_ports, first_false}
use Rattle.mintc_annotate.specs.Phases.{spot, drive, drives, EndsAt, IsPhaseOf, AreTraced, IsFirstUntraced, phase_spots, first_at}
use Rattle.mintc_annotate_resolve.specs.Resolution.{first_refusal}
use Rattle.mintc_annotate.specs.Made.{design_made, IsAnnotated}

abbrev pub two : Hierarchy
two = record {
  scopes = record { «module» = 0; parent = 0; name = [] } ∷ record { «module» = 1; parent = 0; name = codes "u1" } ∷ record { «module» = 2; parent = 1; name = codes "s" } ∷ record { «module» = 1; parent = 0; name = codes "u2" } ∷ record { «module» = 2; parent = 3; name = codes "s" } ∷ [];
  leaves = record { scope = 1; name = codes "l[0]"; cell = 1; first_pin = 9; entry = 19 } ∷ record { scope = 2; name = codes "b"; cell = 0; first_pin = 15; entry = 26 } ∷ record { scope = 3; name = codes "l[0]"; cell = 1; first_pin = 21; entry = 19 } ∷ record { scope = 4; name = codes "b"; cell = 0; first_pin = 27; entry = 26 } ∷ [];
  inner = (Net 0 (codes "phi1") None) ∷ (Net 0 (codes "phi2") None) ∷ (Net 0 (codes "y") None) ∷ (Net 0 (codes "loop.back") None) ∷ (Net 0 (codes "mid") None) ∷ (Net 1 (codes "c") None) ∷ (Net 1 (codes "i") None) ∷ (Net 1 (codes "o") None) ∷ (Net 1 (codes "q") None) ∷ (Pin 0 (codes "D")) ∷ (Pin 0 (codes "G")) ∷ (Pin 0 (codes "Q")) ∷ (Net 2 (codes "a") None) ∷ (Net 2 (codes "t") None) ∷ (Net 2 (codes "z") None) ∷ (Pin 1 (codes "A")) ∷ (Pin 1 (codes "Y")) ∷ (Net 3 (codes "c") None) ∷ (Net 3 (codes "i") None) ∷ (Net 3 (codes "o") None) ∷ (Net 3 (codes "q") None) ∷ (Pin 2 (codes "D")) ∷ (Pin 2 (codes "G")) ∷ (Pin 2 (codes "Q")) ∷ (Net 4 (codes "a") None) ∷ (Net 4 (codes "t") None) ∷ (Net 4 (codes "z") None) ∷ (Pin 3 (codes "A")) ∷ (Pin 3 (codes "Y")) ∷ [];
  joins = record { from = 3; to = 2 } ∷ record { from = 0; to = 5 } ∷ record { from = 3; to = 6 } ∷ record { from = 7; to = 4 } ∷ record { from = 6; to = 9 } ∷ record { from = 5; to = 10 } ∷ record { from = 11; to = 8 } ∷ record { from = 8; to = 12 } ∷ record { from = 14; to = 7 } ∷ record { from = 12; to = 15 } ∷ record { from = 16; to = 14 } ∷ record { from = 1; to = 17 } ∷ record { from = 4; to = 18 } ∷ record { from = 19; to = 3 } ∷ record { from = 18; to = 21 } ∷ record { from = 17; to = 22 } ∷ record { from = 23; to = 20 } ∷ record { from = 20; to = 24 } ∷ record { from = 26; to = 19 } ∷ record { from = 24; to = 27 } ∷ record { from = 28; to = 26 } ∷ [];
  ports = record { name = codes "phi1"; output = false; bits = 0 ∷ [] } ∷ record { name = codes "phi2"; output = false; bits = 1 ∷ [] } ∷ record { name = codes "y"; output = true; bits = 2 ∷ [] } ∷ [];
}

abbrev pub two_cells : CellTable
two_cells = (codes "BUF", Gate (codes "A" ∷ []) (codes "Y" ∷ []) (pos 0) (pos 0)) ∷ (codes "LAT", Latch (codes "D") (codes "G") true (codes "Q" ∷ []) ([]) (pos 10) (pos 0) false (pos 10) (pos 10) (pos 10) (pos 10) false (pos 0)) ∷ []

abbrev pub two_clock : clock_type.Clock
two_clock = record { top = None; phases = record { name = codes "p1"; port = codes "phi1"; high = true } ∷ record { name = codes "p2"; port = codes "phi2"; high = true } ∷ []; bounds = []; inputs = []; outputs = [] }

abbrev pub two_delays : List Delay
two_delays = record { entry = 4; celltype = codes "BUF"; place = Path (codes "u1" ∷ codes "s" ∷ codes "b" ∷ []); subject = subject.Iopath (codes "A") (codes "Y"); least = pos 20; greatest = pos 20 } ∷ record { entry = 5; celltype = codes "BUF"; place = Path (codes "u2" ∷ codes "s" ∷ codes "b" ∷ []); subject = subject.Iopath (codes "A") (codes "Y"); least = pos 50; greatest = pos 60 } ∷ []

abbrev pub two_design : Design
two_design = record {
  phases = codes "p1" ∷ codes "p2" ∷ [];
  elements = record { name = codes "u1.l[0]"; phase = 1; flop = false; setup = pos 10; hold = pos 0; has_hold = false; dq_min = pos 10; dq_max = pos 10; cq_min = pos 10; cq_max = pos 10; width = pos 0 } ∷ record { name = codes "u2.l[0]"; phase = 2; flop = false; setup = pos 10; hold = pos 0; has_hold = false; dq_min = pos 10; dq_max = pos 10; cq_min = pos 10; cq_max = pos 10; width = pos 0 } ∷ [];
  inner = codes "phi1" ∷ codes "phi2" ∷ codes "y" ∷ codes "loop.back" ∷ codes "mid" ∷ codes "u1.c" ∷ codes "u1.i" ∷ codes "u1.o" ∷ codes "u1.q" ∷ codes "u1.l[0].D" ∷ codes "u1.l[0].G" ∷ codes "u1.l[0].Q" ∷ codes "u1.s.a" ∷ codes "u1.s.t" ∷ codes "u1.s.z" ∷ codes "u1.s.b.A" ∷ codes "u1.s.b.Y" ∷ codes "u2.c" ∷ codes "u2.i" ∷ codes "u2.o" ∷ codes "u2.q" ∷ codes "u2.l[0].D" ∷ codes "u2.l[0].G" ∷ codes "u2.l[0].Q" ∷ codes "u2.s.a" ∷ codes "u2.s.t" ∷ codes "u2.s.z" ∷ codes "u2.s.b.A" ∷ codes "u2.s.b.Y" ∷ [];
  arcs = record { from = 7; to = 6; min = pos 0; max = pos 0 } ∷ record { from = 4; to = 9; min = pos 0; max = pos 0 } ∷ record { from = 7; to = 10; min = pos 0; max = pos 0 } ∷ record { from = 11; to = 8; min = pos 0; max = pos 0 } ∷ record { from = 10; to = 13; min = pos 0; max = pos 0 } ∷ record { from = 9; to = 14; min = pos 0; max = pos 0 } ∷ record { from = 15; to = 12; min = pos 0; max = pos 0 } ∷ record { from = 12; to = 16; min = pos 0; max = pos 0 } ∷ record { from = 18; to = 11; min = pos 0; max = pos 0 } ∷ record { from = 16; to = 19; min = pos 0; max = pos 0 } ∷ record { from = 20; to = 18; min = pos 0; max = pos 0 } ∷ record { from = 5; to = 21; min = pos 0; max = pos 0 } ∷ record { from = 8; to = 22; min = pos 0; max = pos 0 } ∷ record { from = 23; to = 7; min = pos 0; max = pos 0 } ∷ record { from = 22; to = 25; min = pos 0; max = pos 0 } ∷ record { from = 21; to = 26; min = pos 0; max = pos 0 } ∷ record { from = 27; to = 24; min = pos 0; max = pos 0 } ∷ record { from = 24; to = 28; min = pos 0; max = pos 0 } ∷ record { from = 30; to = 23; min = pos 0; max = pos 0 } ∷ record { from = 28; to = 31; min = pos 0; max = pos 0 } ∷ record { from = 32; to = 30; min = pos 0; max = pos 0 } ∷ record { from = 13; to = 0; min = pos 0; max = pos 0 } ∷ record { from = 1; to = 15; min = pos 0; max = pos 0 } ∷ record { from = 19; to = 20; min = pos 20; max = pos 20 } ∷ record { from = 25; to = 2; min = pos 0; max = pos 0 } ∷ record { from = 3; to = 27; min = pos 0; max = pos 0 } ∷ record { from = 31; to = 32; min = pos 50; max = pos 60 } ∷ [];
  bounds = [];
}

abbrev pub both_delays : List Delay
both_delays = record { entry = 3; celltype = codes "BUF"; place = Path (codes "u1" ∷ codes "s" ∷ codes "b" ∷ []); subject = subject.Iopath (codes "A") (codes "Y"); least = pos 5; greatest = pos 5 } ∷ record { entry = 4; celltype = codes "BUF"; place = Path (codes "u1" ∷ codes "s" ∷ codes "b" ∷ []); subject = subject.Iopath (codes "A") (codes "Y"); least = pos 3; greatest = pos 3 } ∷ []

abbrev pub tied : Hierarchy
tied = record {
  scopes = record { «module» = 0; parent = 0; name = [] } ∷ [];
  leaves = record { scope = 0; name = codes "a"; cell = 1; first_pin = 1; entry = 3 } ∷ [];
  inner = (Net 0 (codes "c") None) ∷ (Pin 0 (codes "D")) ∷ (Pin 0 (codes "G")) ∷ (Pin 0 (codes "Q")) ∷ [];
  joins = record { from = 0; to = 1 } ∷ [];
  ports = record { name = codes "c"; output = false; bits = 0 ∷ [] } ∷ [];
}

abbrev pub tied_clock : clock_type.Clock
tied_clock = record { top = None; phases = record { name = codes "p"; port = codes "c"; high = true } ∷ []; bounds = []; inputs = []; outputs = [] }

-- ---- row worked-files-design: the design, with 2 elements, 29 inner bits and 27 arcs
pub two_annotates : first_refusal two two_cells two_delays ≡ None
two_annotates = refl

pub two_ports : first_false (has_ports two two_clock) ≡ None
two_ports = refl

pub two_made : design_made two two_cells two_clock two_delays (1 ∷ 2 ∷ []) ≡ two_design
two_made = refl

pub two_within : limit_of usual two_design ≡ None
two_within = refl

pub two_elements : length two_design.elements ≡ 2
two_elements = refl

pub two_inner : length two_design.inner ≡ 29
two_inner = refl

pub two_arcs : length two_design.arcs ≡ 27
two_arcs = refl

pub first_latch : IsPhaseOf two two_cells (phase_spots two two_clock) 0 1
first_latch = record { start = spot 10 true; steps = 2; end = spot 0 true; starts = refl; ends = (drive 10 5 false, refl, (drive 5 0 false, refl, (refl, refl))); found = refl }

pub second_latch : IsPhaseOf two two_cells (phase_spots two two_clock) 2 2
second_latch = record { start = spot 22 true; steps = 2; end = spot 1 true; starts = refl; ends = (drive 22 17 false, refl, (drive 17 1 false, refl, (refl, refl))); found = refl }

pub two_traced : AreTraced two two_cells (phase_spots two two_clock) (1 ∷ 2 ∷ [])
two_traced = (first_latch, (second_latch, tt))

pub two_annotated : IsAnnotated usual two two_cells two_clock two_delays two_design
two_annotated = record {
  whole = record { ports = two_ports; annotates = two_annotates; phases = 1 ∷ 2 ∷ []; traced = two_traced; made = sym two_made };
  within = two_within;
}

-- ---- row two-entries-one-arc: arc 23 takes the least and the greatest of both
pub both_numbers : slice_index_or (design_made two two_cells two_clock both_delays (1 ∷ 2 ∷ [])).arcs 23 no_arc ≡ record { from = 19; to = 20; min = pos 3; max = pos 5 }
both_numbers = refl

-- ---- a latch whose enable is constant has no phase
tied_found : (n : ℕ) (end : Spot) (p : ℕ) → EndsAt (drives tied two_cells) n (spot 2 true) end → first_at 1 (phase_spots tied tied_clock) end ≡ Some p → ⊥
tied_found zero end p ends found = let none : first_at 1 (phase_spots tied tied_clock) end ≡ None = ap (first_at 1 (phase_spots tied tied_clock)) (sym ends.1) in cc
tied_found (suc n) end p ends found = let driven : None ≡ Some ends.0 = ends.1 in cc

pub tied_none : (p : ℕ) → IsPhaseOf tied two_cells (phase_spots tied tied_clock) 0 p → ⊥
tied_none p h = tied_found h.steps h.end p (subst (λ (s : Spot). EndsAt (drives tied two_cells) h.steps s h.end) h.starts h.ends) h.found

pub tied_untraced : IsFirstUntraced tied two_cells (phase_spots tied tied_clock) 0
tied_untraced = record { before = []; phases = []; leaf = 0; after = []; whole = refl; traced = tt; none = tied_none; count = refl }
