use Rattle.std.proofs.Common.{◌≡◌, ◌++◌, take}
use Rattle.std.specs.Prelude.{flat_map}
use Rattle.mintcx_judgements.specs.Data.{arrow_to}
use Rattle.mintcx_judgements.proofs.data.put_arrows.Given as goal

-- the arrows so far are written
abbrev pub invariant-loop-pair : goal.invariant-loop-pair
invariant-loop-pair l = l.lines ≡ l.fn.lines ++ flat_map (arrow_to l.told.system.now) (take l.pair-index l.ring)
