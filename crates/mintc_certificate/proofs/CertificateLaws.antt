-- What is read as a certificate is in range.
use Rattle.std.proofs.Common.{ℕ, zero, suc, ℤ, ◌≤◌, ◌+◌, List, [], ◌∷◌, ◌++◌, length, All, min, sym, subst, arith}
use Rattle.std.proofs.lemmas.Grind.{common_steps}
use Rattle.std.proofs.lemmas.Int.{ints}
use Rattle.std.proofs.lemmas.List.Elements.{All-push, All-nil}
use Rattle.mintc_text.specs.declared.limits.TheConstants.{MOST_MEMBERS, MOST_COUNT}
use Rattle.mintc_timing.specs.declared.clocking.Schedule.{Schedule}
use Rattle.mintc_timing.specs.Limits.{IsInRange}
use Rattle.mintc_timing_text.proofs.SharedScheduleLaws.{KeepsSchedule, schedule_keeps}
use Rattle.mintc_timing_text.proofs.SharedTextLaws.{along}
use Rattle.mintc_certificate.specs.declared.certificate.Certificate.{Certificate}
use Rattle.mintc_certificate.specs.declared.certificate.Certificate.TheVariants.{Least, Never}
use Rattle.mintc_certificate.specs.declared.members.Member.{Member}
use Rattle.mintc_certificate.specs.declared.version.Version.{Version}
use Rattle.mintc_certificate.specs.CertificateText.{NextOfCertificate, IsDeparturesLine, IsCertificateText, CertificateLines, first, outcome, scheduled, departure, never, link, whole, IsCounted}
use Rattle.mintc_certificate.proofs.CertificateReading.{least_is}
use Rattle.mintc_certificate.specs.Ranges.{IsDeparture, IsCertificateInRange}
use Rattle.mintc_certificate.specs.Valid.{chain_of}

-- what is kept of departures while their lines come
abbrev AreSoFar : ℕ → Schedule → List ℤ → Type 0
AreSoFar left s ds = IsInRange s × All IsDeparture ds × (length ds + left ≤ MOST_COUNT)

departure_kept : (left : ℕ) (s : Schedule) (ds : List ℤ) (d : ℤ) → AreSoFar (suc left) s ds → IsDeparture d → AreSoFar left s (ds ++ d ∷ [])
departure_kept left s ds d k h = grind (arith, common_steps, All-push)

-- In a run that takes so many members of a chain at most.
module _ (most : ℕ) where
  -- and of a chain
  abbrev IsChaining : ℕ → List Member → Type 0
  IsChaining left ms = (1 ≤ length ms + left) × (length ms + left ≤ min most MOST_MEMBERS) × All IsCounted ms

  abbrev Links : ℕ → Certificate → Type 0
  Links left (Least s ds ms) = AreSoFar 0 s ds × IsChaining left ms
  Links left (Never ms) = IsChaining left ms

  abbrev Keeps : CertificateLines → Type 0
  Keeps first = Unit {0}
  Keeps (outcome v) = Unit {0}
  Keeps (scheduled v lines) = KeepsSchedule lines
  Keeps (departure v left s ds) = AreSoFar left s ds
  Keeps (never v) = Unit {0}
  Keeps (link v left c) = Links left c
  Keeps (whole c) = IsCertificateInRange c × (length (chain_of c) ≤ most)

  departures_begun : (v : Version) (s : Schedule) (line : List ℕ) (b : CertificateLines) → IsDeparturesLine v s line b → IsInRange s → Keeps b
  departures_begun v s line b h k = subst Keeps (sym h.2) (let n = h.1.1 in (k, All-nil IsDeparture, omega (arith, n.1)))

  chain_begun : (n : ℕ) → 1 ≤ n → n ≤ min most MOST_MEMBERS → IsChaining n []
  chain_begun n some few = (omega arith, omega arith, All-nil IsCounted)

  chain_kept : (left : ℕ) (ms : List Member) (m : Member) → IsChaining (suc left) ms → IsCounted m → IsChaining left (ms ++ m ∷ [])
  chain_kept left ms m k h = grind (arith, common_steps, All-push)

  links_end : (c : Certificate) → Links 0 c → IsCertificateInRange c × (length (chain_of c) ≤ most)
  links_end (Least s ds ms) k = (grind arith, omega (arith, k.1.1))
  links_end (Never ms) k = (grind arith, omega (arith, k.1))

  links_next : (v : Version) (left : ℕ) (c : Certificate) (line : List ℕ) (b : CertificateLines) → (NextOfCertificate most) (link v (suc left) c) line b → Links (suc left) c → Keeps b
  links_next v left (Least s ds ms) line b h k = subst Keeps (sym h.2) (k.0, chain_kept left ms h.0 k.1 h.1.1.counted)
  links_next v left (Never ms) line b h k = subst Keeps (sym h.2) (chain_kept left ms h.0 k h.1.1.counted)

  keeps_next : (a : CertificateLines) (line : List ℕ) (b : CertificateLines) → (NextOfCertificate most) a line b → Keeps a → Keeps b
  keeps_next first line b h k = subst Keeps (sym h.2) tt
  keeps_next (outcome v) line b h k = subst Keeps (sym h.2) (let least = h.0 in grind arith)
  keeps_next (scheduled v lines) line b h k = schedule_keeps (scheduled v) (IsDeparturesLine v) Keeps (λ l k. k) (departures_begun v) lines line b h k
  keeps_next (departure v (suc left) s ds) line b h k = subst Keeps (sym h.2) (departure_kept left s ds h.0 k (omega (arith, ints, h.1.1.0.0, least_is v), h.1.1.0.1))
  keeps_next (departure v zero s ds) line b h k = subst Keeps (sym h.2) (k, chain_begun h.0 h.1.1.0 h.1.1.1)
  keeps_next (never v) line b h k = subst Keeps (sym h.2) (chain_begun h.0 h.1.1.0 h.1.1.1)
  keeps_next (link v (suc left) c) line b h k = links_next v left c line b h k
  keeps_next (link v zero c) line b h k = subst Keeps (sym h.2) (links_end c k)
  keeps_next (whole c) line b h k = absurd h

  -- what a certificate's text says is in range
  pub IsCertificateInRange-from_text : (text : List ℕ) (c : Certificate) → (IsCertificateText most) text c → IsCertificateInRange c
  IsCertificateInRange-from_text text c h = (along (NextOfCertificate most) Keeps keeps_next first h.lines (whole c) h.follows tt).0

  pub few_members : (text : List ℕ) (c : Certificate) → IsCertificateText most text c → length (chain_of c) ≤ most
  few_members text c h = (along (NextOfCertificate most) Keeps keeps_next first h.lines (whole c) h.follows tt).1
