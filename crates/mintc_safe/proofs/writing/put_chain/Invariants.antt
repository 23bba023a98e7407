use Rattle.std.proofs.Common.{◌≡◌, ◌++◌, ◌∷◌, map, take, length, codes}
use Rattle.mintc_text.specs.Lines.{text_of, words}
use Rattle.mintc_timing_text.specs.LineForms.{count_line}
use Rattle.mintc_safe.specs.declared.members.SafeMember.{SafeMember}
use Rattle.mintc_safe.specs.SafeText.{safe_words}
use Rattle.mintc_safe.proofs.writing.put_chain.Given as goal

-- the number of lines, and the lines so far are written
abbrev pub invariant-loop-member : goal.invariant-loop-member
invariant-loop-member l =
    l.lines ≡ l.fn.lines ++ text_of (count_line (codes "chain") (length l.members) ∷ map (λ (m : SafeMember). words (safe_words m)) (take l.member-index l.members))
