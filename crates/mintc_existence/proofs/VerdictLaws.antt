-- Each certificate has a verdict, since each of its tests passes or fails.
use Rattle.std.proofs.Common.{◌≡◌, ◌≢◌, ℕ, ◌+◌, ◌<◌, ◌≤◌, ℤ, pos, ◌+ℤ◌, ◌-ℤ◌, ◌*ℤ◌, ◌≤ℤ◌, ◌<ℤ◌, List, [], ◌∷◌, length, IsTrue, refl, inl, inr, ⊎_elim, arith}
use Rattle.std.specs.Int.{int_max}
use Rattle.mintc_graph.specs.Rings.{IsClosed, Joins}
use Rattle.mintc_text.specs.declared.refusals.Refusal.{Refusal}
use Rattle.mintc_timing.specs.declared.clocking.Schedule.{Schedule}
use Rattle.mintc_timing.specs.declared.link.Link.{Link}
use Rattle.mintc_timing.specs.declared.parts.Bound.{Bound}
use Rattle.mintc_timing.specs.declared.parts.TimingArc.{TimingArc}
use Rattle.mintc_timing.specs.Clocking.{KeepsApart, KeepsBound, KeepsClock, KeepsPhase, crosses_of, end_of, feeds_of, least_width, start_of, time_of, width_of}
use Rattle.mintc_timing.specs.Departures.{AreExact, departure, late_arrivals, late_departure}
use Rattle.mintc_timing.specs.Design.{Timing, element_at, element_count, phase_count, phase_of}
use Rattle.mintc_timing.specs.Extremes.{greatest_of}
use Rattle.mintc_timing.specs.Limits.{IsPhase}
use Rattle.mintc_timing.specs.Links.{IsStuck, IsTight, cycles_of, delay_of}
use Rattle.mintc_timing.specs.Paths.{IsPath, Leads, arc_at, input_of, output_of}
use Rattle.mintc_timing.specs.Right.{KeepsSetup}
use Rattle.mintc_certificate.specs.declared.certificate.Certificate.{Certificate}
use Rattle.mintc_certificate.specs.declared.certificate.Certificate.TheVariants as certificate
use Rattle.mintc_certificate.specs.declared.members.Member.{Member}
use Rattle.mintc_certificate.specs.declared.members.Member.TheVariants as member
use Rattle.mintc_certificate.specs.CertificateText.{IsCertificateRefusal, IsCertificateText}
use Rattle.mintc_certificate.specs.TextLaws.{HaveCertificateOrRefusal}
use Rattle.mintc_certificate.specs.Valid.{HasCounts, IsMember, IsRing, Passes, Test, counts, clock, bounds, departures, setups, ring, sums, links_of_members, number_of}
use Rattle.mintc_checker.specs.declared.verdict.Verdict.{Verdict}
use Rattle.mintc_checker.specs.declared.verdict.Verdict.TheVariants as verdict
use Rattle.mintc_checker.specs.Verdicts.{IsVerdict}
use Rattle.mintc_report.specs.Reports.{verdict_text_of}
use Rattle.mintc_command_answers.specs.Jobs.{verdict_status}
use Rattle.mintc_command_answers.specs.declared.status.Status.TheVariants.{Refused}
use Rattle.mintc_existence.specs.Answers.{CertificatesHaveVerdicts, VerificationsHaveAnswers}
use Rattle.mintc_existence.proofs.Deciding.{Decided, always, at_most, above, below, both, by_flag, each_below, each_from_one, each_item, equal, flag, follows, if_some, moved, no_flag, same, up_to}

-- ---- the tests of a schedule

module _ (t : Timing) (s : Schedule) where
  apart-decided : (p q : ℕ) → Decided (KeepsApart t s p q)
  apart-decided p q = follows (flag (feeds_of t p q)) (at_most (end_of s q -ℤ pos (crosses_of q p) *ℤ s.cycle) (start_of s p))

  -- what is asked at a phase, as parts
  abbrev HasPlace : ℕ → Type 0
  HasPlace p = (pos 0 ≤ℤ start_of s p) × (start_of s p ≤ℤ s.cycle)

  abbrev HasSpan : ℕ → Type 0
  HasSpan p = (pos 0 ≤ℤ width_of s p) × (width_of s p ≤ℤ s.cycle)

  abbrev HasNext : ℕ → Type 0
  HasNext p = p < phase_count t.flat → start_of s p ≤ℤ start_of s (p + 1)

  abbrev IsWide : ℕ → Type 0
  IsWide p = (least_width t.flat p *ℤ s.den) ≤ℤ width_of s p

  abbrev IsApart : ℕ → Type 0
  IsApart p = (q : ℕ) → 1 ≤ q → q ≤ phase_count t.flat → KeepsApart t s p q

  phase-of : (p : ℕ) → HasPlace p × (HasSpan p × (HasNext p × (IsWide p × IsApart p))) → KeepsPhase t s p
  phase-of p h = record { start = h.0; span = h.1.0; order = h.1.1.0; wide = h.1.1.1.0; apart = h.1.1.1.1 }

  phase-parts : (p : ℕ) → KeepsPhase t s p → HasPlace p × (HasSpan p × (HasNext p × (IsWide p × IsApart p)))
  phase-parts p k = (k.start, (k.span, (k.order, (k.wide, k.apart))))

  phase-decided : (p : ℕ) → Decided (KeepsPhase t s p)
  phase-decided p =
      let place : Decided (HasPlace p) = both (at_most (pos 0) (start_of s p)) (at_most (start_of s p) s.cycle) in
      let span : Decided (HasSpan p) = both (at_most (pos 0) (width_of s p)) (at_most (width_of s p) s.cycle) in
      let after : Decided (HasNext p) = follows (below p (phase_count t.flat)) (at_most (start_of s p) (start_of s (p + 1))) in
      let wide : Decided (IsWide p) = at_most (least_width t.flat p *ℤ s.den) (width_of s p) in
      let apart : Decided (IsApart p) = each_from_one (KeepsApart t s p) (apart-decided p) (phase_count t.flat) in
      moved (phase-of p) (phase-parts p) (both place (both span (both after (both wide apart))))

  abbrev ClockParts : Type 0
  ClockParts = (pos 1 ≤ℤ s.den) × ((length s.starts ≡ phase_count t.flat) × ((length s.widths ≡ phase_count t.flat) × ((p : ℕ) → 1 ≤ p → p ≤ phase_count t.flat → KeepsPhase t s p)))

  clock-decided : Decided (KeepsClock t s)
  clock-decided =
      moved (λ (h : ClockParts).
      record { den = h.0; starts = h.1.0; widths = h.1.1.0; each = h.1.1.1 })
      (λ k. (k.den, (k.starts, (k.widths, k.each))))
      (both (at_most (pos 1) s.den)
      (both (equal (length s.starts) (phase_count t.flat))
      (both (equal (length s.widths) (phase_count t.flat)) (each_from_one (KeepsPhase t s) phase-decided (phase_count t.flat)))))

  bound-decided : (b : Bound) → Decided (KeepsBound s b)
  bound-decided b = at_most (time_of s b.from +ℤ b.gap *ℤ s.den -ℤ pos b.cycles *ℤ s.cycle) (time_of s b.to)

  exact-decided : (d : List ℤ) → Decided (AreExact t s d)
  exact-decided d =
      moved (λ (h : (length d ≡ element_count t.flat) × ((l : ℕ) → l < element_count t.flat → departure d l ≡ late_departure t s d l)). record { count = h.0; each = h.1 })
      (λ k. (k.count, k.each))
      (both (equal (length d) (element_count t.flat))
      (each_below (λ l. departure d l ≡ late_departure t s d l) (λ l. same (departure d l) (late_departure t s d l)) (element_count t.flat)))

  setup-decided : (d : List ℤ) (l : ℕ) → Decided (KeepsSetup t s d l)
  setup-decided d l =
      by_flag (element_at t.flat l).flop
      _ _
      (if_some (greatest_of (late_arrivals t s d l)) (λ a. (a +ℤ (element_at t.flat l).setup *ℤ s.den) ≤ℤ pos 0) (λ a. at_most (a +ℤ (element_at t.flat l).setup *ℤ s.den) (pos 0)))
      (at_most (int_max (pos 0) (departure d l) +ℤ (element_at t.flat l).setup *ℤ s.den) (width_of s (phase_of t.flat l)))

  counts-decided : (d : List ℤ) → Decided (HasCounts t.flat s d)
  counts-decided d =
      moved (λ (h : (length s.starts ≡ phase_count t.flat) × ((length s.widths ≡ phase_count t.flat) × (length d ≡ element_count t.flat))). (h.0, h.1.0, h.1.1))
      (λ k. (k.0, (k.1, k.2)))
      (both (equal (length s.starts) (phase_count t.flat)) (both (equal (length s.widths) (phase_count t.flat)) (equal (length d) (element_count t.flat))))

-- ---- the tests of a ring

leads-decided : (arcs : List TimingArc) (from : ℕ) (path : List ℕ) (to : ℕ) → Decided (Leads arcs from path to)
leads-decided arcs from [] to = equal from to
leads-decided arcs from (n ∷ path) to =
    moved (λ (h : (n < length arcs) × (((arc_at arcs n).from ≡ from) × Leads arcs (arc_at arcs n).to path to)). (h.0, h.1.0, h.1.1))
    (λ k. (k.0, (k.1, k.2)))
    (both (below n (length arcs)) (both (equal (arc_at arcs n).from from) (leads-decided arcs (arc_at arcs n).to path to)))

some-decided : (path : List ℕ) → Decided (path ≢ [])
some-decided [] = inr (λ h. h refl)
some-decided (n ∷ path) = inl (λ e. cc)

path-decided : (arcs : List TimingArc) (j : ℕ) (path : List ℕ) (bit : ℕ) → Decided (IsPath arcs j path bit)
path-decided arcs j path bit = both (some-decided path) (leads-decided arcs (output_of j) path bit)

phase_number-decided : (k p : ℕ) → Decided (IsPhase k p)
phase_number-decided k p = both (up_to 1 p) (up_to p k)

member-decided : (t : Timing) (m : Member) → Decided (IsMember t m)
member-decided t (member.Start p) = phase_number-decided (phase_count t.flat) p
member-decided t (member.Cycle p) = phase_number-decided (phase_count t.flat) p
member-decided t (member.Order p) = both (up_to 1 p) (below p (phase_count t.flat))
member-decided t (member.Span p) = phase_number-decided (phase_count t.flat) p
member-decided t (member.Width p) = phase_number-decided (phase_count t.flat) p
member-decided t (member.Apart i j) =
    moved (λ (h : IsPhase (phase_count t.flat) i × (IsPhase (phase_count t.flat) j × IsTrue (feeds_of t i j))). (h.0, h.1.0, h.1.1))
    (λ k. (k.0, (k.1, k.2)))
    (both (phase_number-decided (phase_count t.flat) i) (both (phase_number-decided (phase_count t.flat) j) (flag (feeds_of t i j))))
member-decided t (member.Opening l) = below l (element_count t.flat)
member-decided t (member.Opened l) = both (below l (element_count t.flat)) (no_flag (element_at t.flat l).flop)
member-decided t (member.Reach j l path) =
    moved (λ (h : (j < element_count t.flat) × ((l < element_count t.flat) × IsPath t.flat.arcs j path (input_of l))). (h.0, h.1.0, h.1.1))
    (λ k. (k.0, (k.1, k.2)))
    (both (below j (element_count t.flat)) (both (below l (element_count t.flat)) (path-decided t.flat.arcs j path (input_of l))))
member-decided t (member.Setup l) = below l (element_count t.flat)
member-decided t (member.Bound n) = below n (length t.flat.bounds)

joins-decided : (a : ℕ) (links : List Link) (b : ℕ) → Decided (Joins (λ (k : Link). k.from) (λ (k : Link). k.to) a links b)
joins-decided a [] b = equal a b
joins-decided a (k ∷ links) b = both (equal k.from a) (joins-decided k.to links b)

closed-decided : (links : List Link) → Decided (IsClosed (λ (k : Link). k.from) (λ (k : Link). k.to) links)
closed-decided [] = inr (λ h. h)
closed-decided (k ∷ links) = joins-decided k.to links k.from

ring-decided : (t : Timing) (members : List Member) → Decided (IsRing t members)
ring-decided t members = both (each_item (IsMember t) (member-decided t) members) (closed-decided (links_of_members t.flat members))

tight-decided : (chain : List Link) (num den : ℤ) → Decided (IsTight chain num den)
tight-decided chain num den =
    moved (λ (h : (pos 1 ≤ℤ cycles_of chain) × (delay_of chain *ℤ den ≡ cycles_of chain *ℤ num)). record { turns = h.0; tight = h.1 })
    (λ k. (k.turns, k.tight))
    (both (at_most (pos 1) (cycles_of chain)) (same (delay_of chain *ℤ den) (cycles_of chain *ℤ num)))

stuck-decided : (chain : List Link) → Decided (IsStuck chain)
stuck-decided chain =
    moved (λ (h : (cycles_of chain ≡ pos 0) × (pos 0 <ℤ delay_of chain)). record { turns = h.0; stuck = h.1 })
    (λ k. (k.turns, k.stuck))
    (both (same (cycles_of chain) (pos 0)) (above (pos 0) (delay_of chain)))

-- ---- all tests

test-decided : (t : Timing) (c : Certificate) (test : Test) → Decided (Passes t c test)
test-decided t (certificate.Least s d chain) counts = counts-decided t s d
test-decided t (certificate.Least s d chain) clock = clock-decided t s
test-decided t (certificate.Least s d chain) bounds = each_item (KeepsBound s) (bound-decided t s) t.flat.bounds
test-decided t (certificate.Least s d chain) departures = exact-decided t s d
test-decided t (certificate.Least s d chain) setups = each_below (KeepsSetup t s d) (setup-decided t s d) (element_count t.flat)
test-decided t (certificate.Least s d chain) ring = ring-decided t chain
test-decided t (certificate.Least s d chain) sums = tight-decided (links_of_members t.flat chain) s.cycle s.den
test-decided t (certificate.Never chain) counts = always
test-decided t (certificate.Never chain) clock = always
test-decided t (certificate.Never chain) bounds = always
test-decided t (certificate.Never chain) departures = always
test-decided t (certificate.Never chain) setups = always
test-decided t (certificate.Never chain) ring = ring-decided t chain
test-decided t (certificate.Never chain) sums = stuck-decided (links_of_members t.flat chain)

module _ (t : Timing) (c : Certificate) where
  -- The tests below a number pass, where each of them does.
  before : (n : ℕ) → (1 < n → Passes t c counts) → (2 < n → Passes t c clock) → (3 < n → Passes t c bounds) → (4 < n → Passes t c departures) → (5 < n → Passes t c setups) →
      (6 < n → Passes t c ring) → (7 < n → Passes t c sums) → (other : Test) → number_of other < n → Passes t c other
  before n p1 p2 p3 p4 p5 p6 p7 counts h = p1 h
  before n p1 p2 p3 p4 p5 p6 p7 clock h = p2 h
  before n p1 p2 p3 p4 p5 p6 p7 bounds h = p3 h
  before n p1 p2 p3 p4 p5 p6 p7 departures h = p4 h
  before n p1 p2 p3 p4 p5 p6 p7 setups h = p5 h
  before n p1 p2 p3 p4 p5 p6 p7 ring h = p6 h
  before n p1 p2 p3 p4 p5 p6 p7 sums h = p7 h

  abbrev HasVerdict : Type 0
  HasVerdict = (v : Verdict) × IsVerdict t c v

  -- a test that fails first
  fails : (test : Test) → (Passes t c test → ⊥) → ((other : Test) → number_of other < number_of test → Passes t c other) → HasVerdict
  fails test none lower = (verdict.Invalid (number_of test), (test, refl, record { fails = none; before = lower }))

  from_seventh : Passes t c counts → Passes t c clock → Passes t c bounds → Passes t c departures → Passes t c setups → Passes t c ring → Decided (Passes t c sums) → HasVerdict
  from_seventh a b d e f g (inl h) =
      (verdict.Valid, (λ test. before 8 (λ _. a) (λ _. b) (λ _. d) (λ _. e) (λ _. f) (λ _. g) (λ _. h) test (few test)))
    where
      few : (test : Test) → number_of test < 8
      few counts = omega arith
      few clock = omega arith
      few bounds = omega arith
      few departures = omega arith
      few setups = omega arith
      few ring = omega arith
      few sums = omega arith
  from_seventh a b d e f g (inr none) = fails sums none (before 7 (λ _. a) (λ _. b) (λ _. d) (λ _. e) (λ _. f) (λ _. g) (λ h. absurd (omega arith)))

  from_sixth : Passes t c counts → Passes t c clock → Passes t c bounds → Passes t c departures → Passes t c setups → Decided (Passes t c ring) → HasVerdict
  from_sixth a b d e f (inl g) = from_seventh a b d e f g (test-decided t c sums)
  from_sixth a b d e f (inr none) = fails ring none (before 6 (λ _. a) (λ _. b) (λ _. d) (λ _. e) (λ _. f) (λ h. absurd (omega arith)) (λ h. absurd (omega arith)))

  from_fifth : Passes t c counts → Passes t c clock → Passes t c bounds → Passes t c departures → Decided (Passes t c setups) → HasVerdict
  from_fifth a b d e (inl f) = from_sixth a b d e f (test-decided t c ring)
  from_fifth a b d e (inr none) = fails setups none (before 5 (λ _. a) (λ _. b) (λ _. d) (λ _. e) (λ h. absurd (omega arith)) (λ h. absurd (omega arith)) (λ h. absurd (omega arith)))

  from_fourth : Passes t c counts → Passes t c clock → Passes t c bounds → Decided (Passes t c departures) → HasVerdict
  from_fourth a b d (inl e) = from_fifth a b d e (test-decided t c setups)
  from_fourth a b d (inr none) =
      fails departures none (before 4 (λ _. a) (λ _. b) (λ _. d) (λ h. absurd (omega arith)) (λ h. absurd (omega arith)) (λ h. absurd (omega arith)) (λ h. absurd (omega arith)))

  from_third : Passes t c counts → Passes t c clock → Decided (Passes t c bounds) → HasVerdict
  from_third a b (inl d) = from_fourth a b d (test-decided t c departures)
  from_third a b (inr none) =
      fails bounds none (before 3 (λ _. a) (λ _. b) (λ h. absurd (omega arith)) (λ h. absurd (omega arith)) (λ h. absurd (omega arith)) (λ h. absurd (omega arith)) (λ h. absurd (omega arith)))

  from_second : Passes t c counts → Decided (Passes t c clock) → HasVerdict
  from_second a (inl b) = from_third a b (test-decided t c bounds)
  from_second a (inr none) =
      fails clock none
      (before 2 (λ _. a) (λ h. absurd (omega arith)) (λ h. absurd (omega arith)) (λ h. absurd (omega arith)) (λ h. absurd (omega arith)) (λ h. absurd (omega arith)) (λ h. absurd (omega arith)))

  from_first : Decided (Passes t c counts) → HasVerdict
  from_first (inl a) = from_second a (test-decided t c clock)
  from_first (inr none) =
      fails counts none
      (before 1 (λ h. absurd (omega arith)) (λ h. absurd (omega arith)) (λ h. absurd (omega arith)) (λ h. absurd (omega arith)) (λ h. absurd (omega arith)) (λ h. absurd (omega arith)) (λ h. absurd (omega arith)))

pub certificates_have_verdicts_lem : CertificatesHaveVerdicts
certificates_have_verdicts_lem t c = from_first t c (test-decided t c counts)

not_refused : (v : Verdict) → verdict_status v ≢ Refused
not_refused verdict.Valid = λ e. cc
not_refused (verdict.Invalid n) = λ e. cc

pub verifications_have_answers_lem : ((most : ℕ) → HaveCertificateOrRefusal most) → VerificationsHaveAnswers
verifications_have_answers_lem read most t file =
    ⊎_elim
    (λ (some : (c : Certificate) × IsCertificateText most.members file c).
    let found = certificates_have_verdicts_lem t some.0 in
    inr (verdict_status found.0, verdict_text_of found.0, not_refused found.0, (some.0, some.1, (found.0, found.1, refl, refl))))
    (λ (refused : (r : Refusal) × IsCertificateRefusal most.members file r). inl (refused.0, refused.1))
    (read most.members file)
