-- Each text is a schedule's or has a first line out of form.
use Rattle.std.proofs.Common.{ℕ, List, codes, inl, inr, ⊎_elim}
use Rattle.mintc_text.specs.Lines.{IsText}
use Rattle.mintc_timing.specs.declared.clocking.Schedule.{Schedule}
use Rattle.mintc_timing_text.specs.Fields.{IsWordLine, IsCountLine}
use Rattle.mintc_timing_text.specs.Texts.{TextLines, first, body, whole, den, NextOfText, IsLast, IsWholeText, IsScheduleText, IsScheduleFault}
use Rattle.mintc_timing_text.specs.TextLaws.{HaveScheduleOrFault}
use Rattle.mintc_timing_text.proofs.SharedDeciding.{Decided}
use Rattle.mintc_timing_text.proofs.SharedEachText.{judged, after_spelled}
use Rattle.mintc_timing_text.proofs.SharedFormDeciding.{word_decided, count_decided, schedule_decided}

ends : (a : TextLines) → Decided (IsWholeText a)
ends first = inr (λ h. h)
ends (body lines) = inr (λ h. h)
ends (whole s) = inl tt

last_decided : (s : Schedule) (line : List ℕ) → Decided ((after : TextLines) × IsLast s line after)
last_decided s line = after_spelled (IsWordLine (codes "end")) (λ u. whole s) line (word_decided (codes "end") line)

decides : (a : TextLines) (line : List ℕ) → Decided ((after : TextLines) × NextOfText a line after)
decides first line = after_spelled (IsCountLine (codes "schedule") 1 1) (λ n. body den) line (count_decided (codes "schedule") 1 1 line)
decides (body lines) line = schedule_decided body IsLast last_decided lines line
decides (whole s) line = inr (λ h. h.1)

of_end : (text : List ℕ) (b : TextLines) → IsWholeText b → IsText NextOfText first b text → (s : Schedule) × IsScheduleText text s
of_end text first last is = absurd last
of_end text (body lines) last is = absurd last
of_end text (whole s) last is = (s, is)

pub have_schedule_or_fault : HaveScheduleOrFault
have_schedule_or_fault text = ⊎_elim
    (λ (h : (b : TextLines) × IsWholeText b × IsText NextOfText first b text). inl (of_end text h.0 h.1 h.2))
    (λ (h : (n : ℕ) × IsScheduleFault text n). inr h)
    (judged NextOfText IsWholeText ends decides first text)
