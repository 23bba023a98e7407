-- Safe texts.
use Rattle.std.specs.Prelude.{ℕ, List, [], ◌∷◌, ◌++◌, length, map, codes}
use Rattle.mintc_text.specs.Lines.{words}
use Rattle.mintc_timing_text.specs.Fields.{number}
use Rattle.mintc_certificate.specs.CertificateText.{member_words}
use Rattle.mintc_certificate.specs.Written.{departure_lines}
use Rattle.mintc_timing_text.specs.LineForms.{count_line, schedule_lines}
use Rattle.mintc_safe.specs.declared.members.SafeMember.{SafeMember}
use Rattle.mintc_safe.specs.declared.members.SafeMember.TheVariants.{Plain, Hold}
use Rattle.mintc_safe.specs.declared.certificate.SafeCertificate.{SafeCertificate}
use Rattle.mintc_safe.specs.declared.certificate.SafeCertificate.TheVariants.{Least, Never}

-- the words of a member: as in a certificate, and of a hold, which has its arcs as a reach has
abbrev pub safe_words : SafeMember → List (List ℕ)
safe_words (Plain m) = member_words m
safe_words (Hold j l path) = codes "hold" ∷ number j ∷ number l ∷ number (length path) ∷ map number path

-- the lines of a chain, and the last line
abbrev pub safe_chain_lines : List SafeMember → List (List ℕ)
safe_chain_lines ms = count_line (codes "chain") (length ms) ∷ map (λ m. words (safe_words m)) ms ++ codes "end" ∷ []

-- the lines of a safe certificate, with a schedule and without
abbrev pub safe_lines : SafeCertificate → List (List ℕ)
safe_lines (Least schedule departures chain) = codes "safe 1" ∷ codes "least" ∷ schedule_lines schedule
    ++ departure_lines departures ++ safe_chain_lines chain
safe_lines (Never chain) = codes "safe 1" ∷ codes "never" ∷ safe_chain_lines chain
