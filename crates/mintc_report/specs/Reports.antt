-- The texts that answer `verify` and `report`: a verdict, and a certificate in the names of its design.
use Rattle.std.specs.Prelude.{◌≡◌, ◌<◌, ◌≤◌, ◌+◌, ◌-◌, ◌*◌, ℕ, ℤ, pos, List, [], ◌∷◌, ◌++◌, length, map, flat_map, drop}
use Rattle.std.specs.Prelude.{slice_index_or, codes, decimal}
use Rattle.std.specs.List.{AllZip, range_with_len}
use Rattle.mintc_text.specs.Lines.{ended, text_of, words, numeral_of}
use Rattle.mintc_timing.specs.declared.parts.Element.{Element}
use Rattle.mintc_timing.specs.declared.clocking.Schedule.{Schedule}
use Rattle.mintc_timing.specs.Clocking.{start_of, width_of}
use Rattle.mintc_timing.specs.Departures.{departure}
use Rattle.mintc_timing.specs.Design.{Design, phase_count, element_count, element_at, no_element}
use Rattle.mintc_timing.specs.Links.{delay_of, cycles_of}
use Rattle.mintc_timing.specs.Paths.{arc_at}
use Rattle.mintc_certificate.specs.declared.certificate.Certificate.{Certificate}
use Rattle.mintc_certificate.specs.declared.certificate.Certificate.TheVariants.{Least, Never}
use Rattle.mintc_certificate.specs.declared.members.Member.{Member}
use Rattle.mintc_certificate.specs.declared.members.Member.TheVariants as member
use Rattle.mintc_certificate.specs.Valid.{link_of, links_of_members}
use Rattle.mintc_checker.specs.declared.verdict.Verdict.{Verdict}
use Rattle.mintc_checker.specs.declared.verdict.Verdict.TheVariants.{Valid, Invalid}
use Rattle.mintc_report.specs.Answers.{IsWordOf, IsLineOfTwo}

-- A verdict in words. An invalid certificate has the number of the first test that it fails.
abbrev pub verdict_text_of : Verdict → List ℕ
verdict_text_of Valid = ended (codes "valid")
verdict_text_of (Invalid n) = ended (words (codes "invalid" ∷ decimal n ∷ []))

-- the line of the cycle time
abbrev pub cycle_line : List ℕ → List ℕ
cycle_line time = words (codes "cycle" ∷ time ∷ [])

-- A phase with its start and its width, which count femtoseconds times the denominator.
abbrev pub phase_line : List ℕ → List ℕ → List ℕ → List ℕ
phase_line name start width = words (codes "phase" ∷ name ∷ codes "start" ∷ start ∷ codes "width" ∷ width ∷ [])

-- the line of each of the first n phases, in order
abbrev pub ArePhaseLines : List (List ℕ) → Schedule → ℕ → List (List ℕ) → Type 0
ArePhaseLines names s n lines =
    AllZip (λ p. IsLineOfTwo (phase_line (slice_index_or names (p - 1) [])) s.den (start_of s p) (width_of s p))
    (range_with_len 1 n) lines

-- An element with its late departure, which counts femtoseconds times the denominator.
abbrev pub late_line : List ℕ → List ℕ → List ℕ
late_line name late = words (codes "element" ∷ name ∷ codes "late" ∷ late ∷ [])

-- The line of an element says when its data leaves at the latest.
pub record IsLateLine (den : ℤ) (name : List ℕ) (late : ℤ) (line : List ℕ) : Type 0 where
  pub late_word : List ℕ
  pub is_late : IsWordOf late den late_word
  pub written : line ≡ late_line name late_word

-- the line of each of the first n elements, in order
abbrev pub AreLateLines : List Element → ℤ → List ℤ → ℕ → List (List ℕ) → Type 0
AreLateLines elements den late n lines =
    AllZip (λ l. IsLateLine den (slice_index_or elements l no_element).name (departure late l))
    (range_with_len 0 n) lines

-- the name of a phase, counted from 1
abbrev pub phase_name : Design → ℕ → List ℕ
phase_name design p = slice_index_or design.phases (p - 1) []

-- the name of an element, counted from 0
abbrev pub element_name : Design → ℕ → List ℕ
element_name design l = (element_at design l).name

-- the name of an inner bit: the inner bits come after two bits of each element
abbrev pub inner_name : Design → ℕ → List ℕ
inner_name design bit = slice_index_or design.inner (bit - 2 * element_count design) []

-- A member's kind, as a certificate's text says it, and what it names. A bound has its number.
abbrev pub member_names : Design → Member → List (List ℕ)
member_names design (member.Start p) = codes "start" ∷ phase_name design p ∷ []
member_names design (member.Cycle p) = codes "cycle" ∷ phase_name design p ∷ []
member_names design (member.Order p) = codes "order" ∷ phase_name design p ∷ []
member_names design (member.Span p) = codes "span" ∷ phase_name design p ∷ []
member_names design (member.Width p) = codes "width" ∷ phase_name design p ∷ []
member_names design (member.Apart i j) = codes "apart" ∷ phase_name design i ∷ phase_name design j ∷ []
member_names design (member.Opening l) = codes "open" ∷ element_name design l ∷ []
member_names design (member.Opened l) = codes "opened" ∷ element_name design l ∷ []
member_names design (member.Reach j l path) = codes "reach" ∷ element_name design j ∷ element_name design l ∷ []
member_names design (member.Setup l) = codes "setup" ∷ element_name design l ∷ []
member_names design (member.Bound n) = codes "bound" ∷ decimal n ∷ []

-- a delay in femtoseconds, and cycles
abbrev pub amount_words : ℤ → ℤ → List (List ℕ)
amount_words delay cycles = codes "delay" ∷ numeral_of delay ∷ codes "cycles" ∷ numeral_of cycles ∷ []

-- A member with the delay and the cycles of its link. A reach has the delay of its own path.
abbrev pub member_line : Design → Member → List ℕ
member_line design m = words (member_names design m
    ++ amount_words (link_of design m).delay (pos (link_of design m).cycles))

-- The arcs of a reach after its first. They leave the inner bits on its path.
abbrev pub later_arcs : Member → List ℕ
later_arcs (member.Reach j l path) = drop 1 path
later_arcs m = []

-- the line of the inner bit that arc n leaves
abbrev pub through_line : Design → ℕ → List ℕ
through_line design n = words (codes "through" ∷ inner_name design (arc_at design.arcs n).from ∷ [])

-- the line of each inner bit on the path of a reach, in its order
abbrev pub through_lines : Design → Member → List (List ℕ)
through_lines design m = map (through_line design) (later_arcs m)

-- the lines of a member
abbrev pub member_lines : Design → Member → List (List ℕ)
member_lines design m = member_line design m ∷ through_lines design m

-- the first line of a chain: how many members it has, its delay in femtoseconds and its cycles
abbrev pub chain_line : Design → List Member → List ℕ
chain_line design chain =
    words (codes "chain" ∷ decimal (length chain) ∷
    amount_words (delay_of (links_of_members design chain)) (cycles_of (links_of_members design chain)))

-- a chain: its first line, and the lines of each member
abbrev pub chain_lines : Design → List Member → List (List ℕ)
chain_lines design chain = chain_line design chain ∷ flat_map (member_lines design) chain

-- The report of a schedule with its departures: the cycle time, the phases, the elements, and the chain that forbids
-- every smaller cycle time.
pub record IsLeastReport (design : Design) (s : Schedule) (d : List ℤ) (chain : List Member)
    (text : List ℕ) : Type 0 where
  pub cycle_word : List ℕ
  pub phase_lines : List (List ℕ)
  pub late_lines : List (List ℕ)
  pub is_cycle : IsWordOf s.cycle s.den cycle_word
  pub phases : ArePhaseLines design.phases s (phase_count design) phase_lines
  pub elements : AreLateLines design.elements s.den d (element_count design) late_lines
  pub whole : text ≡ text_of (cycle_line cycle_word ∷ phase_lines ++ late_lines ++ chain_lines design chain)

-- The text of the report of a certificate. Without a schedule it is `never`, and the chain that forbids every cycle
-- time.
abbrev pub IsReportText : Design → Certificate → List ℕ → Type 0
IsReportText design (Least s d chain) text = IsLeastReport design s d chain text
IsReportText design (Never chain) text = text ≡ text_of (codes "never" ∷ chain_lines design chain)

-- The bit is an inner one.
abbrev pub IsInner : Design → ℕ → Type 0
IsInner design bit = (2 * element_count design ≤ bit) × (bit < 2 * element_count design + length design.inner)

-- The arc is one of the design's and leaves an inner bit.
abbrev pub IsThrough : Design → ℕ → Type 0
IsThrough design n = (n < length design.arcs) × IsInner design (arc_at design.arcs n).from
