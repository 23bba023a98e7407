use Rattle.std.proofs.Common.{◌≡◌, ◌++◌, map, take}
use Rattle.mintc_text.specs.Lines.{text_of}
use Rattle.mintcx_columns.specs.Tables.{line_of}
use Rattle.mintcx_columns.proofs.lines.put_lines.Given as goal

-- the lines so far are written
abbrev pub invariant-loop-row : goal.invariant-loop-row
invariant-loop-row l = l.lines ≡ l.fn.lines ++ text_of (map (line_of l.columns l.widths) (take l.row-index l.rows))
