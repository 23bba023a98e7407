use Rattle.std.proofs.Common.{◌≡◌, ◌++◌, map, take}
use Rattle.mintcx_sdc.specs.Texts.{plain_byte}
use Rattle.mintcx_sdc.proofs.text.put_plain.Given as goal

-- the bytes so far are written
abbrev pub invariant-loop-byte : goal.invariant-loop-byte
invariant-loop-byte l = l.lines ≡ l.fn.lines ++ map plain_byte (take l.byte-index l.name)
