use Rattle.std.proofs.Common.{◌≡◌, ◌++◌, ◌∷◌, map, take, length, codes}
use Rattle.mintc_text.specs.Lines.{text_of, words}
use Rattle.mintc_certificate.specs.declared.members.Member.{Member}
use Rattle.mintc_certificate.specs.CertificateText.{member_words}
use Rattle.mintc_timing_text.specs.LineForms.{count_line}
use Rattle.mintc_certificate.proofs.writing.put_chain.Given as goal

-- the number of lines, and the lines so far are written
abbrev pub invariant-loop-member : goal.invariant-loop-member
invariant-loop-member l =
    l.lines ≡ l.fn.lines ++ text_of (count_line (codes "chain") (length l.members) ∷ map (λ (m : Member). words (member_words m)) (take l.member-index l.members))
