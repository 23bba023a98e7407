use Rattle.std.proofs.Common.{take}
use Rattle.std.specs.Prelude.{flat_map}
use Rattle.mintcx_fares.specs.Items.{AreFares}
use Rattle.mintcx_fares.specs.Places.{place_names}
use Rattle.mintcx_fares.proofs.drawing.fares_of.Given as goal

-- the setups and holds of the places so far, with their rows
abbrev pub invariant-loop-place : goal.invariant-loop-place
invariant-loop-place l = AreFares l.told.flat.now l.place-index
    (flat_map (place_names l.causes.told.system.now l.causes.told.schedule.now l.causes.late.now l.causes.early.now) (take l.place-index l.places)) l.fares
