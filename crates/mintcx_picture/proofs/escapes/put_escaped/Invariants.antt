use Rattle.std.proofs.Common.{◌≡◌, ◌++◌, take}
use Rattle.std.specs.Prelude.{flat_map}
use Rattle.mintcx_picture.specs.Escapes.{escape_of}
use Rattle.mintcx_picture.proofs.escapes.put_escaped.Given as goal

-- the texts of the items so far are written
abbrev pub invariant-loop-byte : goal.invariant-loop-byte
invariant-loop-byte l = l.lines ≡ l.fn.lines ++ flat_map escape_of (take l.byte-index l.text)
