use Rattle.std.proofs.Common.{◌≡◌, ◌++◌, take}
use Rattle.std.specs.Prelude.{flat_map}
use Rattle.mintc_text.specs.Lines.{text_of}
use Rattle.mintc_report.specs.Reports.{member_lines}
use Rattle.mintc_report.proofs.chain.put_members.Given as goal

-- the lines so far are written
abbrev pub invariant-loop-member : goal.invariant-loop-member
invariant-loop-member l = l.lines ≡ l.fn.lines ++ text_of (flat_map (member_lines l.system.flat) (take l.member-index l.chain))
