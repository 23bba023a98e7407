use Rattle.std.proofs.Common.{◌≡◌, ◌++◌, map, take}
use Rattle.mintc_text.specs.Lines.{spaced}
use Rattle.mintcx_judgements.specs.Sources.{from_of}
use Rattle.mintcx_csv.proofs.violations.put_spaced.Given as goal

-- the names so far are written
abbrev pub invariant-loop-pair : goal.invariant-loop-pair
invariant-loop-pair l = l.lines ≡ l.initial.lines ++ spaced (map (from_of l.system) (take l.pair-index l.pairs))
