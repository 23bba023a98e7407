-- The labels at the places of a course.
use Rattle.std.specs.Prelude.{ℕ, ℤ, List, length}
use Rattle.mintc_timing.specs.Design.{Design}
use Rattle.mintc_checker.specs.declared.course.Course.{Course}
use Rattle.mintc_checker.specs.declared.labels.Labels.{Labels}
use Rattle.mintc_checker.specs.Course.{moved, IsHeld}
use Rattle.mintc_checker.specs.Labels.{AreRows, IsAlong}

-- After the first k steps of the course, the rows have the labels of the bits that are held then.
abbrev pub AreRowsAlong : Design → ℤ → List ℤ → List ℕ → Course → ℕ → List Labels → Type 0
AreRowsAlong design den d order course k rows = AreRows design den d
    (IsHeld (length design.elements) (moved design.arcs order) course.lasts.items k) (IsAlong order k)
    course.places.of_bits.items rows
