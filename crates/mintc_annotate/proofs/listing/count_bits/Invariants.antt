use Rattle.std.proofs.Common.{◌≡◌, ◌≤◌, ◌+◌, length, min, take, drop}
use Rattle.mintc_text.specs.declared.limits.TheConstants.{MOST_TOLD}
use Rattle.mintc_clock.specs.ClockOf.{first_failing}
use Rattle.mintc_annotate.specs.ClockPorts.{has_listed_in}
use Rattle.mintc_annotate.specs.Made.{bits_in}
use Rattle.mintc_annotate.proofs.listing.count_bits.Given as goal

-- the ports so far are there, and have so many bits
abbrev pub invariant-loop-number : goal.invariant-loop-number
invariant-loop-number l =
    (first_failing (λ test. test) (l.before + 1) (has_listed_in l.ports l.output l.listed) ≡ first_failing (λ test. test) (l.before + l.number + 1) (has_listed_in l.ports l.output (drop l.number l.listed)))
    × (l.total ≡ min (length (bits_in l.ports l.output (take l.number l.listed))) MOST_TOLD)
    × (l.total ≤ MOST_TOLD)
