use Rattle.std.proofs.Common.{◌≡◌, ◌++◌, map, take, decimal}
use Rattle.mintc_text.specs.Lines.{spaced}
use Rattle.mintc_text.proofs.writing.Lines.put_numbers.Given as goal

-- the numbers so far are written
abbrev pub invariant-loop-number : goal.invariant-loop-number
invariant-loop-number l = l.self ≡ l.fn.self ++ spaced (map decimal (take l.number-index l.numbers))
