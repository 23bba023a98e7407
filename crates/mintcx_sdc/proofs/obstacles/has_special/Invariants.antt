use Rattle.std.proofs.Common.{◌≡◌, drop}
use Rattle.std.specs.List.{list_any}
use Rattle.mintcx_sdc.specs.Obstacles.{is_special}
use Rattle.mintcx_sdc.proofs.obstacles.has_special.Given as goal

-- it depends on the bytes that are left
abbrev pub invariant-loop-byte : goal.invariant-loop-byte
invariant-loop-byte l = list_any is_special (drop l.byte-index l.name) ≡ list_any is_special l.name
