-- What the reader of schedules has read up to each line.
use Rattle.std.proofs.Common.{◌≡◌, ℕ, zero, suc, List, refl, ap, ◌∙◌}
use Rattle.mintc_text.specs.Lines.{IsFault}
use Rattle.mintc_timing.specs.declared.clocking.Schedule.{Schedule}
use Rattle.mintc_timing_text.specs.Reading.{Reading, HasPassed, HasStopped, IsAt}
use Rattle.mintc_timing_text.specs.Texts.{NextOfSchedule, NextAlone, AreAll, ScheduleLines, den, cycle, phases, phase, no_phases, with_phase}
use Rattle.mintc_timing_text.proofs.SharedReadingLaws.{at_within, at_stopped}

-- ---- a schedule's lines as a part of a text

-- A line of a schedule says the same in a text that is made from another.
pub schedule_carried : {S T : Type 0} (within : ScheduleLines → S) (beyond : Schedule → List ℕ → S → Type 0) (within' : ScheduleLines → T) (beyond' : Schedule → List ℕ → T → Type 0) (f : S → T) →
    ((l : ScheduleLines) → f (within l) ≡ within' l) → ((s : Schedule) (line : List ℕ) (b : S) → beyond s line b → beyond' s line (f b)) →
    (l : ScheduleLines) (line : List ℕ) (b : S) → NextOfSchedule within beyond l line b → NextOfSchedule within' beyond' l line (f b)
schedule_carried within beyond within' beyond' f same last den line b h = (h.0, h.1, ap f h.2 ∙ same (cycle h.0))
schedule_carried within beyond within' beyond' f same last (cycle d) line b h = (h.0, h.1, ap f h.2 ∙ same (phases d h.0))
schedule_carried within beyond within' beyond' f same last (phases d t) line b h = (h.0, h.1, ap f h.2 ∙ same (phase h.0 (no_phases d t)))
schedule_carried within beyond within' beyond' f same last (phase (suc left) s) line b h = (h.0, h.1, ap f h.2 ∙ same (phase left (with_phase s h.0)))
schedule_carried within beyond within' beyond' f same last (phase zero s) line b h = last s line b h

alone_leads : {S : Type 0} (next : S → List ℕ → S → Type 0) (within : ScheduleLines → S) (beyond : Schedule → List ℕ → S → Type 0) → ((l : ScheduleLines) (line : List ℕ) (b : S) → NextOfSchedule within beyond l line b → next (within l) line b) →
    (x y : ScheduleLines) (line : List ℕ) → NextAlone x line y → next (within x) line (within y)
alone_leads next within beyond same x y line h = same x line (within y) (schedule_carried (λ l. l) (λ s line after. ⊥) within beyond within (λ l. refl) (λ s line b h. absurd h) x line y h)

alone_only : {S : Type 0} (within : ScheduleLines → S) (beyond : Schedule → List ℕ → S → Type 0) (l : ScheduleLines) (line : List ℕ) (after : S) → (AreAll l → ⊥) → NextOfSchedule within beyond l line after → (b : ScheduleLines) × NextAlone l line b
alone_only within beyond den line after more h = (cycle h.0, (h.0, h.1, refl))
alone_only within beyond (cycle d) line after more h = (phases d h.0, (h.0, h.1, refl))
alone_only within beyond (phases d t) line after more h = (phase h.0 (no_phases d t), (h.0, h.1, refl))
alone_only within beyond (phase (suc left) s) line after more h = (phase left (with_phase s h.0), (h.0, h.1, refl))
alone_only within beyond (phase zero s) line after more h = absurd (more tt)

module _ {S : Type 0} {start : S} {next : S → List ℕ → S → Type 0} {text : List ℕ} {old : Reading} (within : ScheduleLines → S) (beyond : Schedule → List ℕ → S → Type 0) where
  pub schedule_read : ((l : ScheduleLines) (line : List ℕ) (b : S) → NextOfSchedule within beyond l line b → next (within l) line b) → IsAt next start text old (within den) →
      {new : Reading} {l : ScheduleLines} → HasPassed NextAlone den old new l → IsAt next start text new (within l)
  schedule_read same at p = at_within within (alone_leads next within beyond same) at p

  pub schedule_fault : {is_end : S → Type 0} {number : ℕ} → ((l : ScheduleLines) (line : List ℕ) (b : S) → NextOfSchedule within beyond l line b → next (within l) line b) → ((l : ScheduleLines) (line : List ℕ) (b : S) → next (within l) line b → NextOfSchedule within beyond l line b) →
      ((l : ScheduleLines) → is_end (within l) → ⊥) → IsAt next start text old (within den) → HasStopped NextAlone AreAll den old number → IsFault next is_end start text number
  schedule_fault same back unfinished at h = at_stopped within (alone_leads next within beyond same) at h (λ l line after more step. alone_only within beyond l line after more (back l line after step)) unfinished
