use Rattle.std.proofs.Common.{◌≡◌, map}
use Rattle.std.specs.List.{range_with_len}
use Rattle.mintcx_judgements.specs.Passes.{room_place, setup_room}
use Rattle.mintcx_judgements.proofs.rooms.by_room.Given as goal

-- the places of the elements so far
abbrev pub invariant-loop-element : goal.invariant-loop-element
invariant-loop-element l =
    l.places.items ≡ map (λ k. room_place k (setup_room l.causes.told.system.now l.causes.told.schedule.now l.causes.late.now k)) (range_with_len 0 l.element)
