use Rattle.std.proofs.Common.{◌≡◌}
use Rattle.std.specs.Prelude.{All, flat_map}
use Rattle.std.specs.List.{range_with_len}
use Rattle.mintcx_fares.specs.Places.{places_at, IsPlace}
use Rattle.mintcx_fares.proofs.places.places_of.Given as goal

-- the places of the elements so far
abbrev pub invariant-loop-element : goal.invariant-loop-element
invariant-loop-element l = record {
  items : l.places.items ≡ flat_map (places_at l.causes.told.system.now l.causes.told.schedule.now l.causes.late.now l.causes.early.now) (range_with_len 0 l.element);
  each : All (IsPlace l.causes.told.system.now.flat) l.places.items;
}
