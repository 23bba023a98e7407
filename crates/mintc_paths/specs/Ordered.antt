-- A design with an order of its arcs.
use Rattle.std.specs.Prelude.{◌≡◌, ◌+◌, ◌*◌, ℕ, List, length}
use Rattle.mintc_timing.specs.Design.{Design}
use Rattle.mintc_timing.specs.Limits.{IsDesign}
use Rattle.mintc_timing.specs.Order.{IsOrder}
use Rattle.mintc_paths.specs.declared.rows.ArcSequence.{ArcSequence}
use Rattle.mintc_paths.specs.Sums.{IsSequence}

-- a design and a list of arc numbers
pub record Ordered : Type 0 where
  pub design : Design
  pub order : List ℕ

-- The design is one, and this is an order of its arcs.
pub record IsOrdered (of : Ordered) : Type 0 where
  pub kept : IsDesign of.design
  pub order : IsOrder of.design.arcs of.order

-- the design with the list
abbrev pub ordered : Design → List ℕ → Ordered
ordered design order = record { design = design; order = order }

-- The sequence has so many rows, one for each bit of the design, and its arcs in their order.
pub record IsSequenceOf (n : ℕ) (of : Ordered) (sequence : ArcSequence) : Type 0 where
  pub is_ordered : IsOrdered of
  pub bits : n ≡ 2 * length of.design.elements + length of.design.inner
  pub is_sequence : IsSequence n of.design.arcs of.order sequence
