use Rattle.std.proofs.Common.{◌≡◌, ◌++◌, take}
use Rattle.mintcx_places.specs.Excerpts.{shown}
use Rattle.mintcx_places.proofs.excerpts.put_shown.Given as goal

-- the bytes so far are shown
abbrev pub invariant-loop-byte : goal.invariant-loop-byte
invariant-loop-byte l = l.out.items ≡ l.fn.out.items ++ shown (take l.byte-index l.bytes)
