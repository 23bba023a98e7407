-- Certificates that are one value have one text.
use Rattle.std.proofs.Common.{◌≡◌, ℕ, zero, suc, ℤ, List, [], refl, subst, arith}
use Rattle.mintc_timing.specs.declared.clocking.Schedule.{Schedule}
use Rattle.mintc_timing_text.specs.Texts.{ScheduleLines}
use Rattle.mintc_timing_text.proofs.SharedScheduleLaws.{BeginsSchedule, schedule_step, schedule_back, schedule_spelled}
use Rattle.mintc_timing_text.proofs.SharedSpelling.{Rest, rest_none, rest_back, rest_same, rest_count, IsSpelled, IsSpelledStep}
use Rattle.mintc_timing_text.proofs.SharedTextLaws.{plain_step, step_by, no_way, one_text_after}
use Rattle.mintc_certificate.specs.declared.certificate.Certificate.{Certificate}
use Rattle.mintc_certificate.specs.declared.certificate.Certificate.TheVariants.{Least, Never}
use Rattle.mintc_certificate.specs.declared.members.Member.{Member}
use Rattle.mintc_certificate.specs.declared.version.Version.{Version}
use Rattle.mintc_certificate.specs.CertificateReading.{with_chain}
use Rattle.mintc_certificate.specs.CertificateText.{NextOfCertificate, IsDeparturesLine, CertificateLines, first, outcome, scheduled, departure, never, link, whole, with_member}
use Rattle.mintc_certificate.specs.TextLaws.{HaveOneCertificateText}
use Rattle.mintc_certificate.specs.Valid.{chain_of}
use Rattle.mintc_certificate.proofs.CertificatePlain.{Begun, certificate_step, certificate_plain, outcome_form, departure_form, departures_form, chain_form, member_form, end_form}

-- The certificate has a schedule and departures, of which this holds.
abbrev OfLeast : Certificate → (Schedule → List ℤ → Type 0) → Type 0
OfLeast (Least s ds ms) P = P s ds
OfLeast (Never ms) P = ⊥

-- The certificate is this one but for its chain, of which so many members are left.
abbrev OfChain : Certificate → ℕ → Certificate → Type 0
OfChain q left c = (with_chain q (chain_of c) ≡ c) × Rest (chain_of q) (chain_of c) left

-- what a state knows of the certificate to which it leads
abbrev Begins : CertificateLines → Certificate → Type 0
Begins first c = Unit {0}
Begins (outcome v) c = Unit {0}
Begins (scheduled v lines) c = OfLeast c (λ s ds. BeginsSchedule lines s)
Begins (departure v left p es) c = OfLeast c (λ s ds. (p ≡ s) × Rest es ds left)
Begins (never v) c = Never (chain_of c) ≡ c
Begins (link v left q) c = OfChain q left c
Begins (whole q) c = q ≡ c

least_more : (c : Certificate) {P Q : Schedule → List ℤ → Type 0} → OfLeast c P → ((s : Schedule) (ds : List ℤ) → P s ds → Q s ds) → OfLeast c Q
least_more (Least s ds ms) h f = f s ds h
least_more (Never ms) h f = h

least_same : (c : Certificate) {P Q : Schedule → List ℤ → Type 0} {R : Type 0} → OfLeast c P → OfLeast c Q → ((s : Schedule) (ds : List ℤ) → P s ds → Q s ds → R) → R
least_same (Least s ds ms) h g f = f s ds h g
least_same (Never ms) h g f = absurd h

least_begun : (c : Certificate) (p : Schedule) (es : List ℤ) → Least p es (chain_of c) ≡ c → OfLeast c (λ s ds. (p ≡ s) × Rest es ds 0)
least_begun (Least s ds ms) p es e = let same : ds ≡ es = cc in (cc, rest_none es ds same)
least_begun (Never ms) p es e = absurd (cc e)

chain_back : (q c : Certificate) (m : Member) (left : ℕ) → OfChain (with_member q m) left c → OfChain q (suc left) c
chain_back (Least p es ns) c m left k = (k.0, rest_back ns (chain_of c) m left k.1)
chain_back (Never ns) c m left k = (k.0, rest_back ns (chain_of c) m left k.1)

chain_same : (q c : Certificate) (m n : Member) (left : ℕ) → OfChain (with_member q m) left c → OfChain (with_member q n) left c → m ≡ n
chain_same (Least p es ns) c m n left k l = rest_same ns (chain_of c) m n left left k.1 l.1
chain_same (Never ns) c m n left k l = rest_same ns (chain_of c) m n left left k.1 l.1

chain_whole : (q : Certificate) → OfChain q 0 q
chain_whole (Least p es ns) = (refl, rest_none ns ns refl)
chain_whole (Never ns) = (refl, rest_none ns ns refl)

-- In a run that takes so many members of a chain at most.
module _ (most : ℕ) where
  -- No schedule leads to a certificate without one.
  no_schedule : (ms : List Member) (v : Version) (lines : ScheduleLines) (line : List ℕ) (b : CertificateLines) → (NextOfCertificate most) (scheduled v lines) line b → Begins b (Never ms) → ⊥
  no_schedule ms v lines line b h g =
      (schedule_step (scheduled v) (IsDeparturesLine v) (λ (x : CertificateLines). Begins x (Never ms) → ⊥) (λ l k. k) (λ s. plain_step departures_form (λ n ws h k. k)) lines).keeps b line h g

  back : (a b : CertificateLines) (line : List ℕ) (c : Certificate) → (NextOfCertificate most) a line b → Begins b c → Begins a c
  back first b line c h g = tt
  back (outcome v) b line c h g = tt
  back (scheduled v lines) b line (Least s ds ms) h g =
      schedule_back (scheduled v) (IsDeparturesLine v) (λ x. Begins x (Least s ds ms)) s (λ l k. k) (λ p line b h g. (subst (λ x. Begins x (Least s ds ms)) h.2 g).0) lines line b h g
  back (scheduled v lines) b line (Never ms) h g = no_schedule ms v lines line b h g
  back (departure v (suc left) p es) b line c h g = least_more c (subst (λ x. Begins x c) h.2 g) (λ s ds k. (k.0, rest_back es ds h.0 left k.1))
  back (departure v zero p es) b line c h g = least_begun c p es (subst (λ x. Begins x c) h.2 g).0
  back (never v) b line c h g = (subst (λ x. Begins x c) h.2 g).0
  back (link v (suc left) q) b line c h g = chain_back q c h.0 left (subst (λ x. Begins x c) h.2 g)
  back (link v zero q) b line c h g = subst (OfChain q 0) (subst (λ x. Begins x c) h.2 g) (chain_whole q)
  back (whole q) b line c h g = absurd h

  -- After the first line, whose number is the version, one line leads on.
  step : (a : CertificateLines) (c : Certificate) → Begun a → IsSpelledStep ((NextOfCertificate most) a) (λ b. Begins b c)
  step first c p = no_way (λ line b h i. p)
  step (outcome v) c p = step_by outcome_form (λ x y k l. grind arith)
  step (scheduled v lines) (Least s ds ms) p =
      schedule_spelled (scheduled v) (IsDeparturesLine v) (λ x. Begins x (Least s ds ms)) s (λ l k. k) (λ q. step_by departures_form (λ m n k l. rest_count [] ds m n k.1 l.1)) lines
  step (scheduled v lines) (Never ms) p = no_way (λ line b h i. no_schedule ms v lines line b h i)
  step (departure v (suc left) q es) c p = step_by (departure_form v) (λ x y k l. least_same c k l (λ s ds k l. rest_same es ds x y left left k.1 l.1))
  step (departure v zero q es) c p = step_by (chain_form most) (λ m n k l. rest_count [] (chain_of c) m n k.1 l.1)
  step (never v) c p = step_by (chain_form most) (λ m n k l. rest_count [] (chain_of c) m n k.1 l.1)
  step (link v (suc left) q) c p = step_by (member_form v) (λ x y k l. chain_same q c x y left k l)
  step (link v zero q) c p = step_by end_form (λ u w k l. refl)
  step (whole q) c p = no_way (λ line b h i. h)

  spelled : IsSpelled (NextOfCertificate most) Begun whole Begins
  spelled = record { keeps = λ a b line p h. ((certificate_step most) a).keeps b line h; last = λ c line b h. h; ends = λ c. refl; back = back; step = step }

  pub certificates_have_one_text : (HaveOneCertificateText most)
  certificates_have_one_text = one_text_after (certificate_plain most) spelled tt ((certificate_step most) first).keeps (λ c e. cc e)
