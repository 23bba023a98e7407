-- What is drawn of how a schedule fares.
use Rattle.std.proofs.Common.{◌≡◌, ℕ, ℤ, pos, ◌≤ℤ◌, List, length, min, take, ap, ◌∙◌}
use Rattle.std.specs.Prelude.{flat_map}
use Rattle.mintc_timing.specs.declared.clocking.Schedule.{Schedule}
use Rattle.mintc_timing.specs.Design.{Design, Timing}
use Rattle.mintcx_amounts.specs.declared.unit.Unit.{Unit as UnitOfTime}
use Rattle.mintcx_picture.specs.declared.drawn.Drawn.TheVariants.{Picture}
use Rattle.mintcx_picture.specs.declared.scale.Scale.{Scale}
use Rattle.mintcx_picture.specs.Places.{IsScale}
use Rattle.mintcx_fares.specs.declared.drawing.Fares.{Fares}
use Rattle.mintcx_fares.specs.Drawings.{IsFaresDrawn, IsOfRows}
use Rattle.mintcx_fares.specs.Items.{AreFares}
use Rattle.mintcx_fares.specs.Places.{AreWorst, place_names}
use Rattle.mintcx_fares.proofs.PlaceLaws.{first_six}

module _ (t : Timing) (s : Schedule) (late early : List ℤ) where
  -- a picture of the first places
  pub picture_drawn : (design : Design) (places shown : List (ℕ × ℕ × ℤ × ℕ)) (fares : Fares) (scale : Scale) (unit : UnitOfTime) (text : List ℕ) → pos 1 ≤ℤ s.cycle →
      AreWorst t s late early places → shown ≡ take (min (length places) 6) places → AreFares design 6 (flat_map (place_names t s late early) shown) fares →
      IsScale scale → IsOfRows scale unit fares.lanes.items text → IsFaresDrawn t s late early (Picture text)
  picture_drawn design places shown fares scale unit text some worst same are is of =
      let first : shown ≡ take 6 places = same ∙ first_six places in
      (some, (places, scale, unit, fares.lanes.items, worst, is, are.names ∙ ap (λ (v : List (ℕ × ℕ × ℤ × ℕ)). flat_map (place_names t s late early) v) first, of))
