use Rattle.std.proofs.Common.{◌≡◌, ◌++◌, ◌∷◌, map, take, length, codes}
use Rattle.mintc_text.specs.Lines.{text_of, words}
use Rattle.mintc_timing_text.specs.LineForms.{count_line}
use Rattle.mintc_corners.specs.declared.members.CornerMember.{CornerMember}
use Rattle.mintc_corners.specs.CornerText.{corner_words}
use Rattle.mintc_corners.proofs.writing.put_chain.Given as goal

-- the number of lines, and the lines so far are written
abbrev pub invariant-loop-member : goal.invariant-loop-member
invariant-loop-member l =
    l.lines ≡ l.fn.lines ++ text_of (count_line (codes "chain") (length l.members) ∷ map (λ (m : CornerMember). words (corner_words m)) (take l.member-index l.members))
