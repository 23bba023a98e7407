-- What is written of a certificate is its text, and texts of other certificates are others.
use Rattle.std.proofs.Common.{◌≡◌, ℕ, suc, ℤ, ◌≤◌, List, [], ◌∷◌, ◌++◌, length, map, All, Contains, refl, ap, ◌∙◌, sym, subst, drop, arith, codes, eqb, true, false, append_assoc}
use Rattle.std.proofs.lemmas.List.{append-nil}
use Rattle.std.proofs.lemmas.List.Elements.{All-head, All-tail}
use Rattle.std.specs.Fmt.{digits}
use Rattle.std.specs.List.{zip}
use Rattle.mintc_text.specs.declared.limits.TheConstants.{MOST_COUNT}
use Rattle.mintc_text.specs.Lines.{Follows, ended, text_of, words}
use Rattle.mintc_timing.specs.declared.clocking.Schedule.{Schedule}
use Rattle.mintc_timing_text.specs.Fields.{number, Spells}
use Rattle.mintc_timing.specs.Limits.{IsNumerator, IsInRange}
use Rattle.mintc_timing_text.specs.Texts.{den, cycle, phases, phase, schedule_of, no_phases}
use Rattle.mintc_timing_text.proofs.SharedReadingLaws.{Follows-append}
use Rattle.mintc_timing_text.proofs.SharedScheduleWritten.{schedule_written}
use Rattle.mintc_certificate.specs.declared.certificate.Certificate.{Certificate}
use Rattle.mintc_certificate.specs.declared.certificate.Certificate.TheVariants.{Least, Never}
use Rattle.mintc_certificate.specs.declared.members.Member.{Member}
use Rattle.mintc_certificate.specs.declared.version.Version.TheVariants.{Second}
use Rattle.mintc_certificate.specs.CertificateReading.{with_chain, before_chain}
use Rattle.mintc_certificate.specs.CertificateText.{NextOfCertificate, IsCertificateText, CertificateLines, first, outcome, scheduled, departure, never, link, whole, member_words, IsCounted, IsChainLine, IsDeparturesLine}
use Rattle.mintc_certificate.specs.Ranges.{IsDeparture, IsChainInRange, IsCertificateInRange}
use Rattle.mintc_certificate.specs.TextLaws.{WrittenAreTexts, WrittenAreAll, WrittenAreApart}
use Rattle.mintc_certificate.specs.Valid.{chain_of}
use Rattle.mintc_certificate.specs.Written.{departure_lines, chain_lines, lines_of}
use Rattle.mintc_timing_text.specs.LineForms.{number_line, count_line, phase_line, schedule_lines}
use Rattle.mintc_certificate.proofs.CertificateLaws.{IsCertificateInRange-from_text, few_members}
use Rattle.mintc_certificate.proofs.CertificatePlain.{certificate_plain, certificate_texts}
use Rattle.mintc_certificate.proofs.CertificateReading.{departure_states, member_states, member_next}
use Rattle.mintc_certificate.proofs.CertificateSpelling.{certificates_have_one_text}

abbrev after_written : Certificate → List (List ℕ)
after_written c = drop 1 (lines_of c)

lines_written : (c : Certificate) → lines_of c ≡ codes "certificate 2" ∷ after_written c
lines_written c = grind arith

pub free_all : (line : List ℕ) → All (λ x. eqb x 10 ≡ false) line → Contains line 10 → ⊥
free_all line all h = let f : eqb 10 10 ≡ false = subst (λ (x : ℕ). eqb x 10 ≡ false) h.2 (all h.0 10 h.1) in cc

-- In a run that takes so many members of a chain at most.
module _ (most : ℕ) where
  chain_begins : (c : Certificate) (m : ℕ) → Spells (IsChainLine most) m (count_line (codes "chain") m) → (NextOfCertificate most) (before_chain Second c) (count_line (codes "chain") m) (link Second m (with_chain c []))
  chain_begins (Least s ds ms) m spells = (m, spells, refl)
  chain_begins (Never ms) m spells = (m, spells, refl)

  -- these lines lead from one state to another
  abbrev Leads : CertificateLines → List (List ℕ) → CertificateLines → Type 0
  Leads a lines b = Follows (NextOfCertificate most) a lines b

  -- a line for each item of a list leads from as many that are left to none
  list_written : {X : Type 0} (st : ℕ → List X → CertificateLines) (line : X → List ℕ) (P : X → Type 0) → ((left : ℕ) (so : List X) (x : X) → P x → (NextOfCertificate most) (st (suc left) so) (line x) (st left (so ++ x ∷ []))) →
      (so xs : List X) → All P xs → Leads (st (length xs) so) (map line xs) (st 0 (so ++ xs))
  list_written st line P leads so [] h = ap (st 0) (sym (append-nil so))
  list_written {X} st line P leads so (x ∷ xs) h =
      let rest = list_written st line P leads (so ++ x ∷ []) xs (All-tail P x xs h) in
      let all = subst (λ (ys : List X). Leads (st (length xs) (so ++ x ∷ [])) (map line xs) (st 0 ys)) (append_assoc so (x ∷ []) xs) rest in
      (st (length xs) (so ++ x ∷ []), leads (length xs) so x (All-head P x xs h), all)

  departures_written : (s : Schedule) (ds : List ℤ) → All IsDeparture ds → Leads (departure Second (length ds) s []) (map (number_line (codes "departure")) ds) (departure Second 0 s ds)
  departures_written s ds h = list_written (departure_states Second s) (number_line (codes "departure")) IsDeparture (λ left so d h. (d, (_, (h, refl), refl), refl)) [] ds h

  members_written : (c : Certificate) (ms : List Member) → All IsCounted ms → Leads (link Second (length ms) (with_chain c [])) (map (λ (m : Member). words (member_words m)) ms) (link Second 0 (with_chain c ms))
  members_written c ms h =
      list_written (member_states Second c) (λ (m : Member). words (member_words m)) IsCounted
      (λ left so m h. (member_next most) Second c m left so (words (member_words m)) (member_words m, record { counted = h; has = tt; spelled = refl }, refl)) [] ms h

  end_written : (c : Certificate) → Leads (link Second 0 c) (codes "end" ∷ []) (whole c)
  end_written c = (whole c, (tt, (codes "end" ∷ [], refl, refl), refl), refl)

  written_schedule : (s : Schedule) → IsInRange s → Leads (scheduled Second den) (schedule_lines s) (scheduled Second (phase 0 s))
  written_schedule s h = schedule_written (NextOfCertificate most) (scheduled Second) (IsDeparturesLine Second) (λ lines line after h. h) s h

  all_departures : (s : Schedule) (ds : List ℤ) → length ds ≤ MOST_COUNT → All IsDeparture ds → Leads (scheduled Second (phase 0 s)) (departure_lines ds) (departure Second 0 s ds)
  all_departures s ds few h = (departure Second (length ds) s [], (length ds, (_, (omega arith, few, refl), refl), refl), departures_written s ds h)

  chain_written : (c : Certificate) (ms : List Member) → IsChainInRange ms → length ms ≤ most → Leads (before_chain Second c) (chain_lines ms) (whole (with_chain c ms))
  chain_written c ms h few =
      let begun : (NextOfCertificate most) (before_chain Second c) (count_line (codes "chain") (length ms)) (link Second (length ms) (with_chain c [])) =
      chain_begins c (length ms) (_, (h.some, omega (arith, h.most, few), refl), refl) in (
        link Second (length ms) (with_chain c []),
        begun,
        Follows-append (NextOfCertificate most) (link Second (length ms) (with_chain c [])) (link Second 0 (with_chain c ms)) (whole (with_chain c ms)) (map (λ (m : Member). words (member_words m)) ms) (codes "end" ∷ [])
            (members_written c ms h.each) (end_written (with_chain c ms)),
      )

  pub first_written : (NextOfCertificate most) first (codes "certificate 2") (outcome Second)
  unfolding digits
  first_written = (2, (codes "certificate" ∷ number 2 ∷ [], (omega arith, omega arith, refl), refl), refl)

  after_leads : (c : Certificate) → IsCertificateInRange c → length (chain_of c) ≤ most → Leads (outcome Second) (after_written c) (whole c)
  after_leads (Least s ds ms) h few = (
    scheduled Second den,
    (true, (codes "least" ∷ [], refl, refl), refl),
    Follows-append (NextOfCertificate most) (scheduled Second den) (departure Second 0 s ds) (whole (Least s ds ms)) (schedule_lines s ++ departure_lines ds) (chain_lines ms)
        (Follows-append (NextOfCertificate most) (scheduled Second den) (scheduled Second (phase 0 s)) (departure Second 0 s ds) (schedule_lines s) (departure_lines ds) (written_schedule s h.schedule_in) (all_departures s ds h.count h.each))
        (chain_written (Least s ds []) ms h.chain_in few),
  )
  after_leads (Never ms) h few = (never Second, (false, (codes "never" ∷ [], refl, refl), refl), chain_written (Never []) ms h few)

  written_are_texts : (WrittenAreTexts most)
  written_are_texts c h few = record {
    lines = codes "certificate 2" ∷ after_written c;
    whole = ap text_of (lines_written c);
    follows = (outcome Second, first_written, after_leads c h few);
  }

  first_free : Contains (codes "certificate 2") 10 → ⊥
  first_free = free_all (codes "certificate 2") ((certificate_plain most).free first (outcome Second) (codes "certificate 2") tt first_written)

  written_are_all : (WrittenAreAll most)
  written_are_all x c h =
      let in_range = (IsCertificateInRange-from_text most) (ended (codes "certificate 2") ++ x) c h in
      let whole : text_of (lines_of c) ≡ ended (codes "certificate 2") ++ text_of (after_written c) = ap text_of (lines_written c) in
      let written = subst (λ (t : List ℕ). (IsCertificateText most) t c) whole (written_are_texts c in_range ((few_members most) (ended (codes "certificate 2") ++ x) c h)) in
      ap (λ (y : List ℕ). ended (codes "certificate 2") ++ y) ((certificates_have_one_text most) (codes "certificate 2") x (text_of (after_written c)) c first_free h written) ∙ sym whole

  pub written_texts : record { read : (WrittenAreTexts most); only : (WrittenAreAll most); apart : (WrittenAreApart most) }
  written_texts = record {
    read = written_are_texts;
    only = written_are_all;
    apart = λ c d h few g short e. (certificate_texts most).value (text_of (lines_of c)) c d (written_are_texts c h few) (subst (λ (t : List ℕ). (IsCertificateText most) t d) (sym e) (written_are_texts d g short));
  }
