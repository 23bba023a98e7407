-- On a design and a file `check` has an answer, or the file is refused.
use Rattle.std.proofs.Common.{◌≡◌, ◌≢◌, ℕ, pos, ◌≤ℤ◌, List, [], ◌∷◌, ◌++◌, length, refl, sym, inl, inr, ⊎_elim}
use Rattle.std.proofs.lemmas.Bool.{cases_eq}
use Rattle.mintc_text.specs.declared.limits.Most.{Most}
use Rattle.mintc_text.specs.declared.refusals.Refusal.TheVariants as refusal
use Rattle.mintc_text.specs.declared.refusals.Role.TheVariants as role
use Rattle.mintc_timing.specs.declared.clocking.Schedule.{Schedule}
use Rattle.mintc_timing.specs.declared.violation.Violation.{Violation}
use Rattle.mintc_timing.specs.Design.{Timing, phase_count}
use Rattle.mintc_timing.specs.Limits.{IsDesign}
use Rattle.mintc_timing.specs.Paths.{ArePairs}
use Rattle.mintc_timing.specs.Violations.{AreViolations}
use Rattle.mintc_timing_text.specs.Texts.{IsScheduleFault, IsScheduleText}
use Rattle.mintc_timing_text.specs.TextLaws.{HaveScheduleOrFault, ScheduleTextsAreTheirLines}
use Rattle.mintc_departure_laws.specs.Existence.{SchedulesHaveViolations}
use Rattle.mintc_command_answers.specs.Jobs.{IsJudgement, out_of_form, other_phases}
use Rattle.mintc_command_answers.specs.declared.command.Job.TheVariants.{Check}
use Rattle.mintc_command_answers.specs.declared.status.Status.{Status}
use Rattle.mintc_command_answers.specs.declared.status.Status.TheVariants.{Done, Found, Refused}
use Rattle.mintc_existence.specs.Answers.{ChecksHaveAnswers, HasAnswerOrRefusal}
use Rattle.mintc_existence.proofs.TextLaws.{fails_have_texts_lem, passes_have_texts_lem}

no_last : (xs : List Violation) (x : Violation) → [] ≡ xs ++ x ∷ [] → ⊥
no_last [] x e = cc
no_last (y ∷ xs) x e = cc

-- Violations make a judgement.
judged : (t : Timing) (s : Schedule) → pos 1 ≤ℤ s.den → (vs : List Violation) → AreViolations t s vs → (status : Status) × (text : List ℕ) × (status ≢ Refused) × IsJudgement t s status text
judged t s some [] (inl (loop, amount, has, are)) = absurd (no_last _ _ are)
judged t s some [] (inr (none, (late, early, are_late, are_early, are))) =
    let written = passes_have_texts_lem t.flat s late early some in
    (Done, written.0, (λ e. cc), (late, early, inr (none, (late, early, are_late, are_early, are)), are_late, are_early, written.1))
judged t s some (v ∷ vs) are =
    let written = fails_have_texts_lem t s (v ∷ vs) some in
    (Found, written.0, (λ e. cc), (v ∷ vs, are, (λ e. cc), written.1))

answered : SchedulesHaveViolations → ScheduleTextsAreTheirLines → (most : Most) (t : Timing) (file : List ℕ) (s : Schedule) → IsDesign t.flat → ArePairs t.flat t.pairs → IsScheduleText file s →
    HasAnswerOrRefusal most Check t file
answered have lines most t file s limits pairs text =
    let range = ((lines file s).0 text).0 in
    ⊎_elim
    (λ (same : phase_count t.flat ≡ length s.starts).
    let vs = have t s limits pairs range.den.0 in
    let found = judged t s range.den.0 vs.0 vs.1 in
    inr (found.0, found.1, found.2, (s, record { is_text = text; count = sym same }, found.3)))
    (λ (apart : phase_count t.flat ≢ length s.starts). inl (refusal.PhaseMismatch (phase_count t.flat) (length s.starts), other_phases s text apart refl))
    (cases_eq (phase_count t.flat) (length s.starts))

pub checks_have_answers_lem : SchedulesHaveViolations → ScheduleTextsAreTheirLines → HaveScheduleOrFault → ChecksHaveAnswers
checks_have_answers_lem have lines read most t file limits pairs =
    ⊎_elim
    (λ (some : (s : Schedule) × IsScheduleText file s). answered have lines most t file some.0 limits pairs some.1)
    (λ (fault : (n : ℕ) × IsScheduleFault file n). inl (refusal.Syntax role.Schedule fault.0, out_of_form fault.0 refl fault.1))
    (read file)
