-- What stops a design on its way to a system.
use Rattle.std.proofs.Common.{ℕ, List, inr}
use Rattle.mintc_text.specs.declared.limits.Most.{Most}
use Rattle.mintc_text.specs.declared.refusals.Stop.{Stop}
use Rattle.mintc_text.specs.declared.refusals.Stop.TheVariants as stop
use Rattle.mintc_text.specs.Stops.{StopsAt}
use Rattle.mintc_timing.specs.Design.{Design}
use Rattle.mintc_timing.specs.Accepted.{IsArcLoop}
use Rattle.mintc_paths.specs.Refusals.{IsExtremesRefusal}
use Rattle.mintc_build.specs.Designs.{IsDesignRefusal}

-- Where no arcs lead round, what stops the extremes stops the design.
pub StopsAt-extremes : (most : Most) (design : Design) (s : Stop) → ((loop : List ℕ) → IsArcLoop design.arcs loop → ⊥) → StopsAt (IsExtremesRefusal most design) s → StopsAt (IsDesignRefusal most design) s
StopsAt-extremes most design (stop.Refused refused) no_loop h = inr (no_loop, h)
StopsAt-extremes most design stop.OutOfMemory no_loop h = tt
