use Rattle.std.proofs.Common.{◌≡◌, ◌-◌, length}
use Rattle.std.specs.List.{range_with_len}
use Rattle.mintcx_judgements.specs.Rules.{first_between}
use Rattle.mintcx_judgements.specs.Sources.{numbers_of}
use Rattle.mintcx_judgements.proofs.widest.first_between.Given as goal

-- none of the pairs so far is between the phases
abbrev pub invariant-loop-number : goal.invariant-loop-number
invariant-loop-number l =
    first_between l.told.system.now l.i l.j (range_with_len l.number (length l.told.system.now.pairs - l.number))
    ≡ first_between l.told.system.now l.i l.j (numbers_of l.told.system.now)
