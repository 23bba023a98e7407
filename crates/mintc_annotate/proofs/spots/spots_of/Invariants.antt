use Rattle.std.proofs.Common.{◌≡◌, ◌+◌, ◌++◌, length, drop, map, is_some}
use Rattle.mintc_clock.specs.ClockOf.{first_failing}
use Rattle.mintc_annotate_resolve.specs.Ports.{place_in, if_input}
use Rattle.mintc_annotate.specs.ClockPorts.{first_false}
use Rattle.mintc_annotate.specs.Phases.{spots_of}
use Rattle.mintc_annotate.proofs.spots.spots_of.Given as goal

-- the phases so far have their ports, and stand there
abbrev pub invariant-loop-number : goal.invariant-loop-number
invariant-loop-number l =
    (first_false (map (λ p. is_some (if_input (place_in l.names l.ports p.port))) l.phases)
    ≡ first_failing (λ test. test) (l.number + 1) (map (λ p. is_some (if_input (place_in l.names l.ports p.port))) (drop l.number l.phases)))
    × (spots_of l.names l.ports l.phases ≡ l.spots.items ++ spots_of l.names l.ports (drop l.number l.phases))
    × (length l.spots.items ≡ l.number)
