-- What the definitions of certificates and their texts say of one another.
use Rattle.std.specs.Prelude.{◌≡◌, ◌≤◌, ◌⊎◌, ◌++◌, ℕ, List, length, Contains, codes}
use Rattle.mintc_text.specs.declared.refusals.Refusal.{Refusal}
use Rattle.mintc_text.specs.Signs.{line_feed}
use Rattle.mintc_text.specs.Lines.{ended, text_of}
use Rattle.mintc_certificate.specs.declared.certificate.Certificate.{Certificate}
use Rattle.mintc_certificate.specs.CertificateText.{IsCertificateText, IsCertificateFault, IsCertificateRefusal}
use Rattle.mintc_certificate.specs.Ranges.{IsCertificateInRange}
use Rattle.mintc_certificate.specs.Valid.{chain_of}
use Rattle.mintc_certificate.specs.Written.{lines_of}

-- In a run that takes so many members of a chain at most: a text is that of at most one certificate.
abbrev pub HaveOneCertificate : ℕ → Type 0
HaveOneCertificate most = (text : List ℕ) (c d : Certificate) → IsCertificateText most text c →
    IsCertificateText most text d → c ≡ d

-- A text of a certificate has no faulty line.
abbrev pub HaveNoCertificateFault : ℕ → Type 0
HaveNoCertificateFault most = (text : List ℕ) (c : Certificate) (n : ℕ) → IsCertificateText most text c →
    IsCertificateFault most text n → ⊥

-- A text has at most one faulty line, the first.
abbrev pub HaveOneCertificateFault : ℕ → Type 0
HaveOneCertificateFault most = (text : List ℕ) (m n : ℕ) → IsCertificateFault most text m →
    IsCertificateFault most text n → m ≡ n

-- A certificate has one text with a given first line, which is its version.
abbrev pub HaveOneCertificateText : ℕ → Type 0
HaveOneCertificateText most = (line x y : List ℕ) (c : Certificate) → (Contains line line_feed → ⊥) →
    IsCertificateText most (ended line ++ x) c → IsCertificateText most (ended line ++ y) c → x ≡ y

-- A text in version 1 is one in version 2 with the other first line, of the same certificate.
abbrev pub SecondSaysFirst : ℕ → Type 0
SecondSaysFirst most = (x : List ℕ) (c : Certificate) → IsCertificateText most (ended (codes "certificate 1") ++ x) c →
    IsCertificateText most (ended (codes "certificate 2") ++ x) c

-- What is written of a certificate whose numbers a text can say is its text.
abbrev pub WrittenAreTexts : ℕ → Type 0
WrittenAreTexts most = (c : Certificate) → IsCertificateInRange c → length (chain_of c) ≤ most →
    IsCertificateText most (text_of (lines_of c)) c

-- It is the only text in version 2.
abbrev pub WrittenAreAll : ℕ → Type 0
WrittenAreAll most = (x : List ℕ) (c : Certificate) → IsCertificateText most (ended (codes "certificate 2") ++ x) c →
    ended (codes "certificate 2") ++ x ≡ text_of (lines_of c)

-- Two certificates that are written alike are equal.
abbrev pub WrittenAreApart : ℕ → Type 0
WrittenAreApart most = (c d : Certificate) → IsCertificateInRange c → length (chain_of c) ≤ most →
    IsCertificateInRange d → length (chain_of d) ≤ most →
    text_of (lines_of c) ≡ text_of (lines_of d) → c ≡ d

-- Each text is a certificate's, or is refused for its first line out of form.
abbrev pub HaveCertificateOrRefusal : ℕ → Type 0
HaveCertificateOrRefusal most = (text : List ℕ) → ((c : Certificate) × IsCertificateText most text c)
    ⊎ ((r : Refusal) × IsCertificateRefusal most text r)
