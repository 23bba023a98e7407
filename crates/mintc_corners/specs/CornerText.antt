-- Corners texts.
use Rattle.std.specs.Prelude.{ℕ, ℤ, List, [], ◌∷◌, ◌++◌, length, map, flat_map, codes}
use Rattle.mintc_text.specs.Lines.{words}
use Rattle.mintc_timing_text.specs.Fields.{number}
use Rattle.mintc_certificate.specs.declared.members.Member.{Member}
use Rattle.mintc_certificate.specs.declared.members.Member.TheVariants as member
use Rattle.mintc_certificate.specs.CertificateText.{member_words}
use Rattle.mintc_certificate.specs.Written.{departure_lines}
use Rattle.mintc_timing_text.specs.LineForms.{count_line, schedule_lines}
use Rattle.mintc_corners.specs.declared.members.CornerMember.{CornerMember}
use Rattle.mintc_corners.specs.declared.certificate.CornerCertificate.{CornerCertificate}
use Rattle.mintc_corners.specs.declared.certificate.CornerCertificate.TheVariants.{Least, Never}

-- the words of a member: as in a certificate, but with the corner's number before those of its elements
abbrev pub words_at : ℕ → Member → List (List ℕ)
words_at c (member.Opening l) = codes "open" ∷ number c ∷ number l ∷ []
words_at c (member.Opened l) = codes "opened" ∷ number c ∷ number l ∷ []
words_at c (member.Reach j l path) = codes "reach" ∷ number c ∷ number j ∷ number l ∷ number (length path) ∷
    map number path
words_at c (member.Setup l) = codes "setup" ∷ number c ∷ number l ∷ []
words_at c m = member_words m

-- the words of a member under the number that it bears
abbrev pub corner_words : CornerMember → List (List ℕ)
corner_words m = words_at m.corner m.member

-- the lines of a chain, and the last line
abbrev pub corner_chain_lines : List CornerMember → List (List ℕ)
corner_chain_lines ms = count_line (codes "chain") (length ms) ∷ map (λ m. words (corner_words m)) ms ++ codes "end" ∷
    []

-- the departures of each corner, in the order of the delay files
abbrev pub all_departure_lines : List (List ℤ) → List (List ℕ)
all_departure_lines ds = count_line (codes "corners") (length ds) ∷ flat_map departure_lines ds

-- the lines of a corner certificate, with a schedule and without
abbrev pub corner_lines : CornerCertificate → List (List ℕ)
corner_lines (Least schedule departures chain) = codes "corners 1" ∷ codes "least" ∷ schedule_lines schedule
    ++ all_departure_lines departures ++ corner_chain_lines chain
corner_lines (Never chain) = codes "corners 1" ∷ codes "never" ∷ corner_chain_lines chain
