-- What is read as a schedule is in range, and its lines are plain.
use Rattle.std.proofs.Common.{◌≡◌, ℕ, zero, suc, ℤ, pos, ◌≤◌, ◌+◌, List, [], length, All, refl, ◌∙◌, sym, subst, arith, codes}
use Rattle.std.proofs.lemmas.Grind.{common_steps}
use Rattle.std.proofs.lemmas.Int.{ints}
use Rattle.std.proofs.lemmas.List.Elements.{All-push, All-nil}
use Rattle.mintc_text.specs.declared.limits.TheConstants.{MOST_PHASES, MOST_DENOMINATOR, MOST_NUMERATOR}
use Rattle.mintc_timing.specs.declared.clocking.Schedule.{Schedule}
use Rattle.mintc_timing_text.specs.Fields.{IsNumberLine, IsCountLine}
use Rattle.mintc_timing.specs.Limits.{IsNumerator, IsDenominator, IsInRange}
use Rattle.mintc_timing_text.specs.Texts.{NextOfSchedule, NextOfText, IsWholeText, IsLast, IsPhaseLine, IsScheduleText, ScheduleLines, den, cycle, phases, phase, TextLines, first, body, whole, no_phases, with_phase}
use Rattle.mintc_timing_text.proofs.SharedFieldsLaws.{seen, read_back}
use Rattle.mintc_timing_text.proofs.SharedLineLaws.{IsForm, word_form, count_form, number_form}
use Rattle.mintc_timing_text.proofs.SharedSpelling.{rest_count, Agrees, agrees_none, agrees_back, agrees_same, IsSpelledStep}
use Rattle.mintc_timing_text.proofs.SharedTextLaws.{along, IsPlainFormat, IsPlainStep, plain_step, no_step, step_by, ArePlainTexts, plain_texts}

-- what is kept of a schedule while its lines come
pub record IsSoFar (left : ℕ) (s : Schedule) : Type 0 where
  pub den : IsDenominator s.den
  pub cycle : IsNumerator s.cycle
  pub starts : All IsNumerator s.starts
  pub widths : All IsNumerator s.widths
  pub alike : length s.widths ≡ length s.starts
  pub some : 1 ≤ length s.starts + left
  pub few : length s.starts + left ≤ MOST_PHASES

-- the lines before those of the phases begin it, the line of a phase keeps it, and the last of them ends it
phases_begun : (d t : ℤ) (left : ℕ) → IsDenominator d → IsNumerator t → 1 ≤ left → left ≤ MOST_PHASES → IsSoFar left (no_phases d t)
phases_begun d t left den_in cycle_in some few = grind (arith, All-nil)

phase_kept : (left : ℕ) (s : Schedule) (p : ℤ × ℤ) (ws : List (List ℕ)) → IsSoFar (suc left) s → IsPhaseLine p ws → IsSoFar left (with_phase s p)
phase_kept left s p ws k h = grind (arith, common_steps, All-push)

phases_ended : (s : Schedule) → IsSoFar 0 s → IsInRange s
phases_ended s k = grind arith

abbrev pub KeepsSchedule : ScheduleLines → Type 0
KeepsSchedule den = Unit {0}
KeepsSchedule (cycle d) = IsDenominator d
KeepsSchedule (phases d t) = IsDenominator d × IsNumerator t
KeepsSchedule (phase left s) = IsSoFar left s

-- each line of a schedule keeps it, in whatever text
pub schedule_keeps : {S : Type 0} (within : ScheduleLines → S) (beyond : Schedule → List ℕ → S → Type 0) (P : S → Type 0) → ((l : ScheduleLines) → KeepsSchedule l → P (within l)) →
    ((s : Schedule) (line : List ℕ) (b : S) → beyond s line b → IsInRange s → P b) → (l : ScheduleLines) (line : List ℕ) (b : S) → NextOfSchedule within beyond l line b → KeepsSchedule l → P b
schedule_keeps within beyond P inside last den line b h k = subst P (sym h.2) (inside (cycle h.0) h.1.1.0)
schedule_keeps within beyond P inside last (cycle d) line b h k = subst P (sym h.2) (inside (phases d h.0) (k, h.1.1.0))
schedule_keeps within beyond P inside last (phases d t) line b h k = subst P (sym h.2) (inside (phase h.0 (no_phases d t)) (phases_begun d t h.0 k.0 k.1 h.1.1.0 h.1.1.1))
schedule_keeps within beyond P inside last (phase (suc left) s) line b h k = subst P (sym h.2) (inside (phase left (with_phase s h.0)) (phase_kept left s h.0 h.1.0 k h.1.1))
schedule_keeps within beyond P inside last (phase zero s) line b h k = last s line b h (phases_ended s k)

abbrev Keeps : TextLines → Type 0
Keeps first = Unit {0}
Keeps (body lines) = KeepsSchedule lines
Keeps (whole s) = IsInRange s

keeps_next : (a : TextLines) (line : List ℕ) (b : TextLines) → NextOfText a line b → Keeps a → Keeps b
keeps_next first line b h k = subst Keeps (sym h.2) tt
keeps_next (body lines) line b h k = schedule_keeps body IsLast Keeps (λ l k. k) (λ s line b h k. subst Keeps (sym h.2) k) lines line b h k
keeps_next (whole s) line b h k = absurd h

-- what a schedule's text says is in range
pub IsInRange-from_text : (text : List ℕ) (s : Schedule) → IsScheduleText text s → IsInRange s
IsInRange-from_text text s h = along NextOfText Keeps keeps_next first h.lines (whole s) h.follows tt

-- ---- the forms of a schedule's lines

phase_form : IsForm IsPhaseLine
phase_form = record { plain = λ p ws h. grind (arith, seen); one = λ p q ws h g. grind (arith, read_back); words = λ p ws xs h g. h.2 ∙ sym g.2 }

den_form : IsForm (IsNumberLine (codes "den") (pos 1) MOST_DENOMINATOR)
den_form = number_form (codes "den") (pos 1) MOST_DENOMINATOR refl (omega (arith, ints)) (omega (arith, ints))

cycle_form : IsForm (IsNumberLine (codes "cycle") (pos 0) MOST_NUMERATOR)
cycle_form = number_form (codes "cycle") (pos 0) MOST_NUMERATOR refl (omega (arith, ints)) (omega (arith, ints))

phases_form : IsForm (IsCountLine (codes "phases") 1 MOST_PHASES)
phases_form = count_form (codes "phases") 1 MOST_PHASES refl (omega arith)

-- Each line of a schedule leads to one state, in whatever text.
pub schedule_step : {S : Type 0} (within : ScheduleLines → S) (beyond : Schedule → List ℕ → S → Type 0) (P : S → Type 0) → ((l : ScheduleLines) → P (within l)) →
    ((s : Schedule) → IsPlainStep (beyond s) P) → (l : ScheduleLines) → IsPlainStep (NextOfSchedule within beyond l) P
schedule_step within beyond P inside last den = plain_step den_form (λ d ws h. inside (cycle d))
schedule_step within beyond P inside last (cycle d) = plain_step cycle_form (λ t ws h. inside (phases d t))
schedule_step within beyond P inside last (phases d t) = plain_step phases_form (λ k ws h. inside (phase k (no_phases d t)))
schedule_step within beyond P inside last (phase (suc left) s) = plain_step phase_form (λ p ws h. inside (phase left (with_phase s p)))
schedule_step within beyond P inside last (phase zero s) = last s

-- what a state knows of the schedule to which it leads
abbrev pub BeginsSchedule : ScheduleLines → Schedule → Type 0
BeginsSchedule den s = Unit {0}
BeginsSchedule (cycle d) s = d ≡ s.den
BeginsSchedule (phases d t) s = (d ≡ s.den) × (t ≡ s.cycle)
BeginsSchedule (phase left p) s = Agrees left p s

module _ {S : Type 0} (within : ScheduleLines → S) (beyond : Schedule → List ℕ → S → Type 0) (B : S → Type 0) (s : Schedule) (inside : (l : ScheduleLines) → B (within l) → BeginsSchedule l s) where
  pub schedule_back : ((p : Schedule) (line : List ℕ) (b : S) → beyond p line b → B b → p ≡ s) → (l : ScheduleLines) (line : List ℕ) (b : S) → NextOfSchedule within beyond l line b → B b → BeginsSchedule l s
  schedule_back last den line b h g = tt
  schedule_back last (cycle d) line b h g = (inside (phases d h.0) (subst B h.2 g)).0
  schedule_back last (phases d t) line b h g = let k = inside (phase h.0 (no_phases d t)) (subst B h.2 g) in (k.den, k.cycle)
  schedule_back last (phase (suc left) p) line b h g = agrees_back left p s h.0 (inside (phase left (with_phase p h.0)) (subst B h.2 g))
  schedule_back last (phase zero p) line b h g = agrees_none p s (last p line b h g)

  pub schedule_spelled : ((p : Schedule) → IsSpelledStep (beyond p) B) → (l : ScheduleLines) → IsSpelledStep (NextOfSchedule within beyond l) B
  schedule_spelled last den = step_by den_form (λ x y k l. inside (cycle x) k ∙ sym (inside (cycle y) l))
  schedule_spelled last (cycle d) = step_by cycle_form (λ x y k l. (inside (phases d x) k).1 ∙ sym (inside (phases d y) l).1)
  schedule_spelled last (phases d t) = step_by phases_form (λ m n k l. rest_count [] s.starts m n (inside (phase m (no_phases d t)) k).starts (inside (phase n (no_phases d t)) l).starts)
  schedule_spelled last (phase (suc left) p) = step_by phase_form (λ x y k l. agrees_same left p s x y (inside (phase left (with_phase p x)) k) (inside (phase left (with_phase p y)) l))
  schedule_spelled last (phase zero p) = last p

-- ---- the text of a schedule alone

abbrev pub Any : TextLines → Type 0
Any a = Unit {0}

text_step : (a : TextLines) → IsPlainStep (NextOfText a) Any
text_step first = plain_step (count_form (codes "schedule") 1 1 refl (omega arith)) (λ n ws h. tt)
text_step (body lines) = schedule_step body IsLast Any (λ l. tt) (λ s. plain_step (word_form (codes "end") refl) (λ u ws h. tt)) lines
text_step (whole s) = no_step

pub schedule_plain : IsPlainFormat NextOfText Any
schedule_plain = record { keeps = λ a b line p h. tt; one = λ a b c line p h g. (text_step a).one b c line h g; free = λ a b line p h. (text_step a).free b line h }

pub schedule_texts : ArePlainTexts NextOfText IsWholeText first whole
schedule_texts = plain_texts whole schedule_plain tt (λ s t e. cc e) (λ s. tt)
