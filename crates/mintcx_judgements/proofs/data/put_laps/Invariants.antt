use Rattle.std.proofs.Common.{◌≡◌, ◌++◌, map, take}
use Rattle.mintc_text.specs.Lines.{text_of}
use Rattle.mintcx_judgements.specs.Data.{lap_line}
use Rattle.mintcx_judgements.proofs.data.put_laps.Given as goal

-- the pairs so far are written
abbrev pub invariant-loop-pair : goal.invariant-loop-pair
invariant-loop-pair l = l.lines ≡ l.fn.lines ++ text_of (map (lap_line l.told.system.now l.told.schedule.now l.told.unit) (take l.pair-index l.ring))
