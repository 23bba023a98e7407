-- The text of a table, line by line, and its first line out of form.
use Rattle.std.specs.Prelude.{◌≡◌, ◌<◌, ◌+◌, ◌*◌, ◌==◌, ◌⊎◌, ℕ, zero, suc, ℤ, Bool, IsFalse, if◌then◌else◌, List, []}
use Rattle.std.specs.Prelude.{◌∷◌, ◌++◌, length, map, codes, Some}
use Rattle.std.specs.List.{range_with_len}
use Rattle.mintc_text.specs.declared.limits.TheConstants.{MOST_COUNT}
use Rattle.mintc_text.specs.declared.limits.Most.{Most}
use Rattle.mintc_text.specs.Lines.{numeral_of, IsText, IsFault}
use Rattle.mintc_text.specs.declared.refusals.Refusal.{Refusal}
use Rattle.mintc_text.specs.declared.refusals.Refusal.TheVariants as refusal
use Rattle.mintc_text.specs.declared.refusals.Role.TheVariants as role
use Rattle.mintc_timing.specs.declared.parts.Element.{Element}
use Rattle.mintc_timing.specs.declared.parts.TimingArc.{TimingArc}
use Rattle.mintc_timing.specs.declared.parts.Bound.{Bound}
use Rattle.mintc_timing.specs.declared.parts.Point.{Point}
use Rattle.mintc_timing.specs.declared.parts.Point.TheVariants.{Origin, Start, End}
use Rattle.mintc_timing_text.specs.declared.table_lines.Version.{Version}
use Rattle.mintc_timing_text.specs.declared.table_lines.Version.TheVariants.{Latches, Flops, Openings}
use Rattle.mintc_timing.specs.Design.{Design, design_of}
use Rattle.mintc_timing.specs.Limits.{IsElement, IsBound, limit_of}
use Rattle.mintc_timing_text.specs.Fields.{IsName, AreDelays, number, Spells, IsWordLine, IsCountLine, IsNameLine}

-- Table texts have three versions: latches alone, latches and flops, and those with delays from the opening edge.
abbrev pub version_of : ℕ → Version
version_of n = if n == 1 then Latches else (if n == 2 then Flops else Openings)

-- the word of a kind
abbrev pub kind_word : Bool → List ℕ
kind_word flop = if flop then codes "flop" else codes "latch"

-- the word of a hold, in femtoseconds, a dash where there is none
abbrev pub hold_word : Bool → ℤ → List ℕ
hold_word has_hold hold = if has_hold then numeral_of hold else codes "-"

-- the word of an element's kind before more, where the version has one
abbrev pub with_kind : Version → Bool → List (List ℕ) → List (List ℕ)
with_kind Latches flop more = more
with_kind Flops flop more = kind_word flop ∷ more
with_kind Openings flop more = kind_word flop ∷ more

-- the words of the least and the greatest delay from the opening edge before more, where the version has them
abbrev pub with_openings : Version → ℤ → ℤ → List (List ℕ) → List (List ℕ)
with_openings Latches low high more = more
with_openings Flops low high more = more
with_openings Openings low high more = numeral_of low ∷ numeral_of high ∷ more

-- the words of an element
abbrev pub element_words : Version → Element → List (List ℕ)
element_words v e = codes "element" ∷ e.name ∷ number e.phase ∷
    with_kind v e.flop (numeral_of e.setup ∷ hold_word e.has_hold e.hold ∷ numeral_of e.dq_min ∷ numeral_of e.dq_max ∷
    with_openings v e.cq_min e.cq_max (numeral_of e.width ∷ []))

-- What a version can't say of an element is the default.
abbrev pub IsOfVersion : Version → Element → Type 0
IsOfVersion Latches e = IsFalse e.flop × (e.cq_min ≡ e.dq_min) × (e.cq_max ≡ e.dq_max)
IsOfVersion Flops e = (e.cq_min ≡ e.dq_min) × (e.cq_max ≡ e.dq_max)
IsOfVersion Openings e = Unit {0}

-- the line of an element in a table of k phases
pub record IsElementLine (v : Version) (k : ℕ) (e : Element) (ws : List (List ℕ)) : Type 0 where
  pub ranges : IsElement k e
  pub name : IsName e.name
  pub version : IsOfVersion v e
  pub spelled : ws ≡ element_words v e

-- the word of a bit that an arc leaves, in a design of n elements and m inner bits
abbrev pub IsFromWord : ℕ → ℕ → List ℕ → ℕ → Type 0
IsFromWord n m word bit =
    ((l : ℕ) × (l < n) × (word ≡ codes "q" ++ number l) × (bit ≡ 2 * l + 1))
    ⊎ ((i : ℕ) × (i < m) × (word ≡ codes "n" ++ number i) × (bit ≡ 2 * n + i))

-- the word of a bit that an arc enters, in a design of n elements and m inner bits
abbrev pub IsToWord : ℕ → ℕ → List ℕ → ℕ → Type 0
IsToWord n m word bit =
    ((l : ℕ) × (l < n) × (word ≡ codes "d" ++ number l) × (bit ≡ 2 * l))
    ⊎ ((i : ℕ) × (i < m) × (word ≡ codes "n" ++ number i) × (bit ≡ 2 * n + i))

-- the line of an arc
pub record IsArcLine (n m : ℕ) (x : TimingArc) (ws : List (List ℕ)) : Type 0 where
  pub delays : AreDelays x.min x.max
  pub source : List ℕ
  pub target : List ℕ
  pub leaves : IsFromWord n m source x.from
  pub enters : IsToWord n m target x.to
  pub spelled : ws ≡ codes "arc" ∷ source ∷ target ∷ numeral_of x.min ∷ numeral_of x.max ∷ []

-- the word of a point of the clock
abbrev pub point_word : Point → List ℕ
point_word Origin = codes "o"
point_word (Start p) = codes "s" ++ number p
point_word (End p) = codes "e" ++ number p

-- the line of a bound in a table of k phases
abbrev pub IsBoundLine : ℕ → Bound → List (List ℕ) → Type 0
IsBoundLine k x ws = IsBound k x
    × (ws ≡ codes "bound" ∷ point_word x.from ∷ point_word x.to ∷ numeral_of x.gap ∷ number x.cycles ∷ [])

-- the names of m inner bits
abbrev pub inner_names : ℕ → List (List ℕ)
inner_names m = map (λ i. codes "n" ++ number i) (range_with_len 0 m)

-- What is known of a table after some of its lines. A number says how many lines of a kind are left.
pub data TableLines : Type 0 where
  first : TableLines
  phases : Version → TableLines
  phase : Version → ℕ → Design → TableLines
  element : Version → ℕ → Design → TableLines
  arcs : Design → TableLines
  arc : ℕ → Design → TableLines
  bound : ℕ → Design → TableLines
  whole : Design → TableLines

-- a design with no parts, as it is before the first phase is read
abbrev pub empty : Design
empty = design_of [] [] [] [] []

-- the form of the line that may come next
abbrev pub NextOfTable : TableLines → List ℕ → TableLines → Type 0
NextOfTable first line after = (n : ℕ) × Spells (IsCountLine (codes "table") 1 3) n line
    × (after ≡ phases (version_of n))
NextOfTable (phases v) line after = (k : ℕ) × Spells (IsCountLine (codes "phases") 1 MOST_COUNT) k line
    × (after ≡ phase v k empty)
NextOfTable (phase v (suc left) d) line after =
    (name : List ℕ) × Spells (IsNameLine (codes "phase")) name line
    × (after ≡ phase v left (record d { phases = d.phases ++ name ∷ [] }))
NextOfTable (phase v zero d) line after = (n : ℕ) × Spells (IsCountLine (codes "elements") 0 MOST_COUNT) n line
    × (after ≡ element v n d)
NextOfTable (element v (suc left) d) line after =
    (e : Element) × Spells (IsElementLine v (length d.phases)) e line
    × (after ≡ element v left (record d { elements = d.elements ++ e ∷ [] }))
NextOfTable (element v zero d) line after =
    (m : ℕ) × Spells (IsCountLine (codes "inner") 0 MOST_COUNT) m line
    × (after ≡ arcs (record d { inner = inner_names m }))
NextOfTable (arcs d) line after = (a : ℕ) × Spells (IsCountLine (codes "arcs") 0 MOST_COUNT) a line × (after ≡ arc a d)
NextOfTable (arc (suc left) d) line after =
    (x : TimingArc) × Spells (IsArcLine (length d.elements) (length d.inner)) x line
    × (after ≡ arc left (record d { arcs = d.arcs ++ x ∷ [] }))
NextOfTable (arc zero d) line after = (b : ℕ) × Spells (IsCountLine (codes "bounds") 0 MOST_COUNT) b line
    × (after ≡ bound b d)
NextOfTable (bound (suc left) d) line after =
    (x : Bound) × Spells (IsBoundLine (length d.phases)) x line
    × (after ≡ bound left (record d { bounds = d.bounds ++ x ∷ [] }))
NextOfTable (bound zero d) line after = (u : Unit {0}) × Spells (IsWordLine (codes "end")) u line × (after ≡ whole d)
NextOfTable (whole d) line after = ⊥

-- the last line was read
abbrev pub IsWholeTable : TableLines → Type 0
IsWholeTable (whole d) = Unit {0}
IsWholeTable lines = ⊥

-- The text is one of the design's.
abbrev pub IsTableText : List ℕ → Design → Type 0
IsTableText text design = IsText NextOfTable first (whole design) text

-- Line n, counted from 1, is the first that is out of form.
abbrev pub IsTableFault : List ℕ → ℕ → Type 0
IsTableFault text n = IsFault NextOfTable IsWholeTable first text n

-- The text is refused for the first line that is out of form, or the first quantity of its design that passes its
-- limit in a run.
abbrev pub IsTableRefusal : Most → List ℕ → Refusal → Type 0
IsTableRefusal most text r = ((n : ℕ) × (r ≡ refusal.Syntax role.Table n) × IsTableFault text n)
    ⊎ ((d : Design) × IsTableText text d × (limit_of most d ≡ Some r))
