-- What the reader of tables keeps.
use Rattle.std.specs.Prelude.{◌≡◌, ℕ, List, length, take}
use Rattle.mintc_text.specs.declared.limits.TheConstants.{MOST_PHASES, MOST_ELEMENTS, MOST_ARCS, MOST_BOUNDS}
use Rattle.mintc_timing_text.specs.declared.table_text.Parts.{Parts}
use Rattle.mintc_timing.specs.Design.{Design}
use Rattle.mintc_timing_text.specs.TableText.{inner_names}

-- The kept are the first of all, at most so many, and all are counted.
pub record AreKept {X : Type 0} (most : ℕ) (all kept : List X) (count : ℕ) : Type 0 where
  pub front : kept ≡ take most all
  pub counted : length all ≡ count

-- what was read of a design
pub record ArePartsOf (d : Design) (parts : Parts) : Type 0 where
  pub phases : AreKept MOST_PHASES d.phases parts.phases.kept.items parts.phases.count
  pub elements : AreKept MOST_ELEMENTS d.elements parts.elements.kept.items parts.elements.count
  pub inner : d.inner ≡ inner_names parts.inner
  pub arcs : AreKept MOST_ARCS d.arcs parts.arcs.kept.items parts.arcs.count
  pub bounds : AreKept MOST_BOUNDS d.bounds parts.bounds.kept.items parts.bounds.count
