-- What the definitions of these texts say of one another.
use Rattle.std.specs.Prelude.{◌≡◌, ◌⊎◌, ◌↔◌, ◌++◌, ℕ, List, Contains, None}
use Rattle.mintc_text.specs.Signs.{line_feed}
use Rattle.mintc_text.specs.Lines.{ended, text_of}
use Rattle.mintc_timing.specs.declared.clocking.Schedule.{Schedule}
use Rattle.mintc_text.specs.declared.limits.Most.{Most}
use Rattle.mintc_text.specs.declared.refusals.Refusal.{Refusal}
use Rattle.mintc_timing.specs.Design.{Design}
use Rattle.mintc_timing.specs.Limits.{IsInRange, limit_of}
use Rattle.mintc_timing_text.specs.declared.table_lines.Version.{Version}
use Rattle.mintc_timing_text.specs.LineForms.{schedule_text_lines}
use Rattle.mintc_timing_text.specs.TableForms.{AreTableLines}
use Rattle.mintc_timing_text.specs.Texts.{IsScheduleText, IsScheduleFault}
use Rattle.mintc_timing_text.specs.TableText.{IsTableText, IsTableFault, IsTableRefusal}

-- A text is that of at most one schedule.
abbrev pub HaveOneSchedule : Type 0
HaveOneSchedule = (text : List ℕ) (s t : Schedule) → IsScheduleText text s → IsScheduleText text t → s ≡ t

-- A text of a schedule has no faulty line.
abbrev pub HaveNoScheduleFault : Type 0
HaveNoScheduleFault = (text : List ℕ) (s : Schedule) (n : ℕ) → IsScheduleText text s → IsScheduleFault text n → ⊥

-- A text has at most one faulty line, the first.
abbrev pub HaveOneScheduleFault : Type 0
HaveOneScheduleFault = (text : List ℕ) (m n : ℕ) → IsScheduleFault text m → IsScheduleFault text n → m ≡ n

-- A text is that of at most one design.
abbrev pub HaveOneDesign : Type 0
HaveOneDesign = (text : List ℕ) (c d : Design) → IsTableText text c → IsTableText text d → c ≡ d

-- A text of a design has no faulty line.
abbrev pub HaveNoTableFault : Type 0
HaveNoTableFault = (text : List ℕ) (d : Design) (n : ℕ) → IsTableText text d → IsTableFault text n → ⊥

-- A text has at most one faulty line of a table, the first.
abbrev pub HaveOneTableFault : Type 0
HaveOneTableFault = (text : List ℕ) (m n : ℕ) → IsTableFault text m → IsTableFault text n → m ≡ n

-- A schedule has at most one text.
abbrev pub HaveOneScheduleText : Type 0
HaveOneScheduleText = (a b : List ℕ) (s : Schedule) → IsScheduleText a s → IsScheduleText b s → a ≡ b

-- A design has at most one text with a given first line, which is its version.
abbrev pub HaveOneTableText : Type 0
HaveOneTableText = (line x y : List ℕ) (d : Design) → (Contains line line_feed → ⊥) → IsTableText (ended line ++ x) d →
    IsTableText (ended line ++ y) d → x ≡ y

-- Each text is a schedule's, or has a first line out of form.
abbrev pub HaveScheduleOrFault : Type 0
HaveScheduleOrFault = (text : List ℕ) → ((s : Schedule) × IsScheduleText text s) ⊎ ((n : ℕ) × IsScheduleFault text n)

-- In each run, whatever its limits: each text is that of a design within them, or is refused.
abbrev pub HaveDesignOrRefusal : Type 0
HaveDesignOrRefusal = (most : Most) (text : List ℕ) →
    ((d : Design) × IsTableText text d × (limit_of most d ≡ None)) ⊎ ((r : Refusal) × IsTableRefusal most text r)

-- A text is that of a schedule exactly where it has the schedule's lines, and the schedule's numbers are in range.
abbrev pub ScheduleTextsAreTheirLines : Type 0
ScheduleTextsAreTheirLines = (text : List ℕ) (s : Schedule) → IsScheduleText text s ↔ (IsInRange s
    × (text ≡ text_of (schedule_text_lines s)))

-- A text is that of a design exactly where it has the lines of the design's table in some version.
abbrev pub TableTextsAreTheirLines : Type 0
TableTextsAreTheirLines = (text : List ℕ) (d : Design) → IsTableText text d ↔ ((v : Version)
    × (lines : List (List ℕ)) × AreTableLines v d lines × (text ≡ text_of lines))
