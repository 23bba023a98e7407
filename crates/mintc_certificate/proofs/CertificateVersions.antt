-- The second version says all that the first does.
use Rattle.std.proofs.Common.{◌≡◌, ℕ, zero, suc, List, [], ◌∷◌, ◌++◌, Contains, refl, ap, ◌∙◌, subst, arith, codes}
use Rattle.std.proofs.lemmas.Int.{ints}
use Rattle.std.specs.Fmt.{digits}
use Rattle.mintc_text.specs.Lines.{Follows, ended}
use Rattle.mintc_timing_text.specs.Fields.{number}
use Rattle.mintc_timing_text.proofs.SharedScheduleReading.{schedule_carried}
use Rattle.mintc_timing_text.proofs.SharedTextLaws.{after_first}
use Rattle.mintc_certificate.specs.declared.version.Version.TheVariants.{First, Second}
use Rattle.mintc_certificate.specs.CertificateText.{NextOfCertificate, IsDeparturesLine, CertificateLines, first, outcome, scheduled, departure, never, link, whole}
use Rattle.mintc_certificate.specs.TextLaws.{HaveOneCertificateText, SecondSaysFirst}
use Rattle.mintc_certificate.proofs.CertificateReading.{least_is}
use Rattle.mintc_certificate.proofs.CertificatePlain.{Begun, certificate_step, certificate_plain}
use Rattle.mintc_certificate.proofs.CertificateSpelling.{certificates_have_one_text}
use Rattle.mintc_certificate.proofs.CertificateWritten.{first_written, free_all}

-- a state with the second version in place of its own
abbrev raise : CertificateLines → CertificateLines
raise first = first
raise (outcome v) = outcome Second
raise (scheduled v lines) = scheduled Second lines
raise (departure v left s ds) = departure Second left s ds
raise (never v) = never Second
raise (link v left c) = link Second left c
raise (whole c) = whole c

-- In a run that takes so many members of a chain at most.
module _ (most : ℕ) where
  -- what a line says in a version, it says in the second
  raised : (a b : CertificateLines) (line : List ℕ) → Begun a → (NextOfCertificate most) a line b → (NextOfCertificate most) (raise a) line (raise b)
  raised first b line begun h = absurd begun
  raised (outcome v) b line begun h = (h.0, h.1, ap raise h.2 ∙ (let least = h.0 in grind arith))
  raised (scheduled v lines) b line begun h =
      schedule_carried (scheduled v) (IsDeparturesLine v) (scheduled Second) (IsDeparturesLine Second) raise (λ l. refl) (λ s line b h. (h.0, h.1, ap raise h.2)) lines line b h
  raised (departure v (suc left) s ds) b line begun h = (h.0, (h.1.0, ((omega (arith, ints, h.1.1.0.0, least_is v), h.1.1.0.1), h.1.1.1), h.1.2), ap raise h.2)
  raised (departure v zero s ds) b line begun h = (h.0, h.1, ap raise h.2)
  raised (never v) b line begun h = (h.0, h.1, ap raise h.2)
  raised (link v (suc left) c) b line begun h = (h.0, (h.1.0, record { counted = h.1.1.counted; has = tt; spelled = h.1.1.spelled }, h.1.2), ap raise h.2)
  raised (link v zero c) b line begun h = (h.0, h.1, ap raise h.2)
  raised (whole c) b line begun h = absurd h

  raised_all : (a b : CertificateLines) (lines : List (List ℕ)) → Begun a → Follows (NextOfCertificate most) a lines b → Follows (NextOfCertificate most) (raise a) lines (raise b)
  raised_all a b [] begun h = ap raise h
  raised_all a b (line ∷ lines) begun h = (raise h.0, raised a h.0 line begun h.1, raised_all h.0 b lines (((certificate_step most) a).keeps h.0 line h.1) h.2)

  first_line : (NextOfCertificate most) first (codes "certificate 1") (outcome First)
  unfolding digits
  first_line = (1, (codes "certificate" ∷ number 1 ∷ [], (omega arith, omega arith, refl), refl), refl)

  first_line_free : Contains (codes "certificate 1") 10 → ⊥
  first_line_free = free_all (codes "certificate 1") ((certificate_plain most).free first (outcome First) (codes "certificate 1") tt first_line)

  second_says_first : (SecondSaysFirst most)
  second_says_first x c h =
      let a = after_first (certificate_plain most) tt (λ e. cc e) (codes "certificate 1") x first_line_free h in
      let state : a.state ≡ outcome First = (certificate_plain most).one first a.state (outcome First) (codes "certificate 1") tt a.begins first_line in
      let rest = subst (λ (s : CertificateLines). Follows (NextOfCertificate most) s a.lines (whole c)) state a.follows in
      record {
        lines = codes "certificate 2" ∷ a.lines;
        whole = ap (λ (y : List ℕ). ended (codes "certificate 2") ++ y) a.whole;
        follows = (outcome Second, (first_written most), raised_all (outcome First) (whole c) a.lines tt rest);
      }

  pub canonical_texts : record { one : (HaveOneCertificateText most); versions : (SecondSaysFirst most) }
  canonical_texts = record { one = (certificates_have_one_text most); versions = second_says_first }
