-- The lines of a schedule, and its text with the first line out of form.
use Rattle.std.specs.Prelude.{◌≡◌, ℕ, zero, suc, ℤ, pos, List, [], ◌∷◌, ◌++◌, codes}
use Rattle.mintc_text.specs.declared.limits.TheConstants.{MOST_PHASES, MOST_DENOMINATOR, MOST_NUMERATOR}
use Rattle.mintc_text.specs.Lines.{numeral_of, IsText, IsFault}
use Rattle.mintc_timing.specs.declared.clocking.Schedule.{Schedule}
use Rattle.mintc_timing.specs.Limits.{IsNumerator}
use Rattle.mintc_timing_text.specs.Fields.{Spells, IsWordLine, IsNumberLine, IsCountLine}

-- what is known of a schedule after some of its lines
pub data ScheduleLines : Type 0 where
  den : ScheduleLines
  cycle : ℤ → ScheduleLines
  phases : ℤ → ℤ → ScheduleLines
  -- so many lines of phases are left
  phase : ℕ → Schedule → ScheduleLines

-- a schedule with these numerators, all over the denominator d
abbrev pub schedule_of : ℤ → ℤ → List ℤ → List ℤ → Schedule
schedule_of d t starts widths = record { den = d; cycle = t; starts = starts; widths = widths }

-- a schedule before its first phase is read
abbrev pub no_phases : ℤ → ℤ → Schedule
no_phases d t = schedule_of d t [] []

-- a schedule with one phase more, of this start and this width
abbrev pub with_phase : Schedule → ℤ × ℤ → Schedule
with_phase s p = schedule_of s.den s.cycle (s.starts ++ p.0 ∷ []) (s.widths ++ p.1 ∷ [])

-- the line of a phase: its start and its width
abbrev pub IsPhaseLine : ℤ × ℤ → List (List ℕ) → Type 0
IsPhaseLine p ws = IsNumerator p.0 × IsNumerator p.1 × (ws ≡ codes "phase" ∷ numeral_of p.0 ∷ numeral_of p.1 ∷ [])

-- The form of the line that may come next in a text of which a schedule's lines are a part: within says where the
-- text is at each of them, and beyond which line comes after the last.
abbrev pub NextOfSchedule : {S : Type 0} → (ScheduleLines → S) → (Schedule → List ℕ → S → Type 0) → ScheduleLines →
    List ℕ → S → Type 0
NextOfSchedule within beyond den line after = (d : ℤ)
    × Spells (IsNumberLine (codes "den") (pos 1) MOST_DENOMINATOR) d line × (after ≡ within (cycle d))
NextOfSchedule within beyond (cycle d) line after = (t : ℤ)
    × Spells (IsNumberLine (codes "cycle") (pos 0) MOST_NUMERATOR) t line × (after ≡ within (phases d t))
NextOfSchedule within beyond (phases d t) line after = (k : ℕ)
    × Spells (IsCountLine (codes "phases") 1 MOST_PHASES) k line × (after ≡ within (phase k (no_phases d t)))
NextOfSchedule within beyond (phase (suc left) s) line after = (p : ℤ × ℤ) × Spells IsPhaseLine p line
    × (after ≡ within (phase left (with_phase s p)))
NextOfSchedule within beyond (phase zero s) line after = beyond s line after

-- a schedule's lines by themselves
abbrev pub NextAlone : ScheduleLines → List ℕ → ScheduleLines → Type 0
NextAlone = NextOfSchedule (λ lines. lines) (λ s line after. ⊥)

-- all lines of the schedule were read
abbrev pub AreAll : ScheduleLines → Type 0
AreAll (phase zero s) = Unit {0}
AreAll lines = ⊥

-- ---- the text of a schedule alone

-- what is known of it after some of its lines
pub data TextLines : Type 0 where
  first : TextLines
  body : ScheduleLines → TextLines
  whole : Schedule → TextLines

-- the last line
abbrev pub IsLast : Schedule → List ℕ → TextLines → Type 0
IsLast s line after = (u : Unit {0}) × Spells (IsWordLine (codes "end")) u line × (after ≡ whole s)

-- the form of the line that may come next
abbrev pub NextOfText : TextLines → List ℕ → TextLines → Type 0
NextOfText first line after = (n : ℕ) × Spells (IsCountLine (codes "schedule") 1 1) n line × (after ≡ body den)
NextOfText (body lines) line after = NextOfSchedule body IsLast lines line after
NextOfText (whole s) line after = ⊥

-- the last line was read
abbrev pub IsWholeText : TextLines → Type 0
IsWholeText (whole s) = Unit {0}
IsWholeText lines = ⊥

-- The text is that of the schedule.
abbrev pub IsScheduleText : List ℕ → Schedule → Type 0
IsScheduleText text s = IsText NextOfText first (whole s) text

-- Line n, counted from 1, is the first that is out of form.
abbrev pub IsScheduleFault : List ℕ → ℕ → Type 0
IsScheduleFault text n = IsFault NextOfText IsWholeText first text n
