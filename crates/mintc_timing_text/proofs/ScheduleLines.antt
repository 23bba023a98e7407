-- A text of a schedule has the schedule's lines.
use Rattle.std.proofs.Common.{◌≡◌, ℕ, List, [], ◌∷◌, ◌++◌, refl, codes, subst, sym, arith}
use Rattle.std.specs.Fmt.{digits}
use Rattle.mintc_text.specs.Lines.{text_of}
use Rattle.mintc_timing.specs.declared.clocking.Schedule.{Schedule}
use Rattle.mintc_timing.specs.Limits.{IsInRange}
use Rattle.mintc_timing_text.specs.Fields.{number}
use Rattle.mintc_timing_text.specs.LineForms.{schedule_lines, schedule_text_lines}
use Rattle.mintc_timing_text.specs.TextLaws.{ScheduleTextsAreTheirLines}
use Rattle.mintc_timing_text.specs.Texts.{NextOfText, IsLast, IsScheduleText, first, body, whole, den, phase}
use Rattle.mintc_timing_text.proofs.SharedReadingLaws.{Follows-append}
use Rattle.mintc_timing_text.proofs.SharedScheduleLaws.{IsInRange-from_text}
use Rattle.mintc_timing_text.proofs.SharedScheduleWritten.{schedule_written}
use Rattle.mintc_timing_text.proofs.ScheduleSpelling.{schedules_have_one_text}

first_written : NextOfText first (codes "schedule 1") (body den)
unfolding digits
first_written = (1, (codes "schedule" ∷ number 1 ∷ [], (omega arith, omega arith, refl), refl), refl)

lines_are_text : (s : Schedule) → IsInRange s → IsScheduleText (text_of (schedule_text_lines s)) s
lines_are_text s h = record {
  lines = schedule_text_lines s;
  whole = refl;
  follows = (
    body den,
    first_written,
    Follows-append NextOfText (body den) (body (phase 0 s)) (whole s) (schedule_lines s) (codes "end" ∷ [])
        (schedule_written NextOfText body IsLast (λ lines line after h. h) s h)
        (whole s, (tt, (codes "end" ∷ [], refl, refl), refl), refl),
  );
}

pub are_their_lines : ScheduleTextsAreTheirLines
are_their_lines text s = (
  λ h. (IsInRange-from_text text s h, schedules_have_one_text text (text_of (schedule_text_lines s)) s h (lines_are_text s (IsInRange-from_text text s h))),
  λ h. subst (λ x. IsScheduleText x s) (sym h.1) (lines_are_text s h.0),
)
