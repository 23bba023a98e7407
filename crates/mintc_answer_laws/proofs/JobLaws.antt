-- Two answers to a job on one timing are the same but for what is free.
use Rattle.std.proofs.Common.{◌≡◌, ◌<◌, ◌≤◌, ℕ, ℤ, pos, ◌≤ℤ◌, List, length, get_or, refl, ap, ◌∙◌, sym, subst, inl, inr, ◌⊎◌, ⊎_elim, arith}
use Rattle.std.proofs.lemmas.Bool.{cases_lt}
use Rattle.std.proofs.lemmas.List.{same_lists, get_or_default}
use Rattle.mintc_text.specs.Lines.{text_of}
use Rattle.mintc_text.specs.declared.limits.Most.{Most}
use Rattle.mintc_fraction.specs.Ratio.{Ratio}
use Rattle.mintc_fraction.proofs.SharedLowest.{IsLowest-unique}
use Rattle.mintc_timing.specs.declared.clocking.Schedule.{Schedule}
use Rattle.mintc_timing.specs.declared.violation.Violation.{Violation}
use Rattle.mintc_timing.specs.Design.{Timing, phase_count}
use Rattle.mintc_timing.specs.Laws.{EarlyAreDetermined, LateAreDetermined, LeastCycleIsDetermined, ViolationsAreDetermined}
use Rattle.mintc_timing.specs.Limits.{IsDesign}
use Rattle.mintc_timing.specs.Paths.{HasEnds}
use Rattle.mintc_timing.specs.Violations.{EndInLoop}
use Rattle.mintc_timing_text.specs.TextLaws.{HaveOneSchedule, ScheduleTextsAreTheirLines}
use Rattle.mintc_certificate.specs.declared.certificate.Certificate.{Certificate}
use Rattle.mintc_certificate.specs.declared.certificate.Certificate.TheVariants as certificate
use Rattle.mintc_certificate.specs.TextLaws.{HaveOneCertificate}
use Rattle.mintc_certificate.specs.Valid.{number_of}
use Rattle.mintc_checker.specs.declared.verdict.Verdict.{Verdict}
use Rattle.mintc_checker.specs.declared.verdict.Verdict.TheVariants as verdict
use Rattle.mintc_checker.specs.Verdicts.{IsVerdict}
use Rattle.mintc_report.specs.Answers.{IsFailText, IsPassText}
use Rattle.mintc_report.specs.Laws.{AnswersAreDetermined}
use Rattle.mintc_report.specs.Reports.{verdict_text_of}
use Rattle.mintc_report.specs.Summaries.{IsSummaryText}
use Rattle.mintc_slack.specs.declared.finding.Slacks.{Slacks}
use Rattle.mintc_slack.specs.declared.finding.Slacks.TheVariants as slacks
use Rattle.mintc_slack.specs.Answers.{IsSlackAnswer}
use Rattle.mintc_slack.specs.Laws.{SlackIsDetermined}
use Rattle.mintc_slack.specs.SlackText.{slack_lines}
use Rattle.mintc_command_answers.specs.Jobs.{IsJobAnswer, IsJudgement, IsOptimum, IsScheduleOf}
use Rattle.mintc_command_answers.specs.Optima.{DifferInChain, OptimaAreDetermined, SafeOptimaAreDetermined}
use Rattle.mintc_command_answers.specs.declared.command.Job.{Job}
use Rattle.mintc_command_answers.specs.declared.command.Job.TheVariants.{Check, Optimise, Verify, Report, Safe, Slack}
use Rattle.mintc_command_answers.specs.declared.status.Status.{Status}
use Rattle.mintc_command_answers.specs.declared.status.Status.TheVariants.{Done, Found, Refused, Usage, ReadFault, WriteFault, OutOfMemory}
use Rattle.mintc_answer_laws.specs.Free.{AreFailsOfLoops, AreSameButFree}

-- what the definitions of the parts of answers say
pub record AreJobLaws : Type 0 where
  pub one_schedule : HaveOneSchedule
  pub schedules : ScheduleTextsAreTheirLines
  pub late : LateAreDetermined
  pub early : EarlyAreDetermined
  pub violations : ViolationsAreDetermined
  pub one_certificate : (most : ℕ) → HaveOneCertificate most
  pub optima : OptimaAreDetermined
  pub safe : SafeOptimaAreDetermined
  pub least : LeastCycleIsDetermined
  pub slack : SlackIsDetermined
  pub texts : AnswersAreDetermined

-- ---- judgements

judgement_same : AreJobLaws → (t : Timing) (s : Schedule) (status : Status) (text another : List ℕ) → pos 1 ≤ℤ s.den → IsJudgement t s status text → IsJudgement t s status another →
    (text ≡ another) ⊎ AreFailsOfLoops text another
judgement_same law t s Done text another some (late, early, none, are_late, are_early, written) (late', early', none', are_late', are_early', written') =
    let one_late : late' ≡ late = law.late t s late' late are_late' are_late in
    let one_early : early' ≡ early = law.early t s early' early are_early' are_early in
    let of_early : IsPassText t.flat s late' early another = subst (λ (x : List ℤ). IsPassText t.flat s late' x another) one_early written' in
    let of_both : IsPassText t.flat s late early another = subst (λ (x : List ℤ). IsPassText t.flat s x early another) one_late of_early in
    inl (law.texts.pass t s late early text another some written of_both)
judgement_same law t s Found text another some (vs, are, broken, written) (ws, are', broken', written') =
    ⊎_elim
    (λ (same : vs ≡ ws). inl (law.texts.fail t s ws text another some (subst (λ (x : List Violation). IsFailText t s x text) same written) written'))
    (λ (loops : EndInLoop t s vs × EndInLoop t s ws). inr (t, s, vs, ws, loops.0, loops.1, written, written'))
    (law.violations t s vs ws are are')
judgement_same law t s Refused text another some h g = absurd h
judgement_same law t s Usage text another some h g = absurd h
judgement_same law t s ReadFault text another some h g = absurd h
judgement_same law t s WriteFault text another some h g = absurd h
judgement_same law t s OutOfMemory text another some h g = absurd h

check_same : AreJobLaws → (t : Timing) (file : List ℕ) (s r : Schedule) (status : Status) (text another : List ℕ) → IsScheduleOf file (phase_count t.flat) s → IsScheduleOf file (phase_count t.flat) r →
    IsJudgement t s status text → IsJudgement t r status another → (text ≡ another) ⊎ AreFailsOfLoops text another
check_same law t file s r status text another is is_too h g =
    let one : r ≡ s = law.one_schedule file r s is_too.is_text is.is_text in
    let range = ((law.schedules file s).0 is.is_text).0 in
    judgement_same law t s status text another range.den.0 h (subst (λ (x : Schedule). IsJudgement t x status another) one g)

-- ---- verdicts

one_number : (t : Timing) (c : Certificate) (n m : ℕ) → IsVerdict t c (verdict.Invalid n) → IsVerdict t c (verdict.Invalid m) → n ≡ m
one_number t c n m (test, named, first) (other, named_too, first_too) =
    ⊎_elim
    (λ (below : number_of test < number_of other). absurd (first.fails (first_too.before test below)))
    (λ (above : number_of other ≤ number_of test).
    ⊎_elim
    (λ (below : number_of other < number_of test). absurd (first_too.fails (first.before other below)))
    (λ (least : number_of test ≤ number_of other). omega (arith, named, named_too, above, least))
    (cases_lt (number_of other) (number_of test)))
    (cases_lt (number_of test) (number_of other))

one_verdict : (t : Timing) (c : Certificate) (v w : Verdict) → IsVerdict t c v → IsVerdict t c w → v ≡ w
one_verdict t c verdict.Valid verdict.Valid a b = refl
one_verdict t c verdict.Valid (verdict.Invalid n) a b = absurd (b.2.fails (a b.0))
one_verdict t c (verdict.Invalid n) verdict.Valid a b = absurd (a.2.fails (b a.0))
one_verdict t c (verdict.Invalid n) (verdict.Invalid m) a b = ap verdict.Invalid (one_number t c n m a b)

-- ---- slacks

one_slacks : AreJobLaws → (t : Timing) (x y : Slacks) → IsDesign t.flat → HasEnds t → IsSlackAnswer t x → IsSlackAnswer t y → x ≡ y
one_slacks law t (slacks.Least cycle extra) (slacks.Least other others) limits ends a b =
    let value = law.least t cycle.num cycle.den other.num other.den a.least b.least in
    let one_cycle : cycle ≡ other = IsLowest-unique cycle other a.least.positive b.least.positive a.lowest b.lowest value in
    let counts : length extra ≡ length others = a.slacks.count ∙ sym b.slacks.count in
    let one_extra : extra ≡ others =
    same_lists extra others counts
    (λ k d below.
    let inside : k < length t.pairs = omega (arith, below, a.slacks.count) in
    get_or_default extra k d (pos 0) below
    ∙ law.slack t cycle.num cycle.den other.num other.den k (get_or extra k (pos 0)) (get_or others k (pos 0)) limits ends inside (a.slacks.each k inside) (b.slacks.each k inside)
    ∙ get_or_default others k (pos 0) d (omega (arith, below, counts))) in
    ap (λ (c : Ratio). slacks.Least c extra) one_cycle ∙ ap (λ (e : List ℤ). slacks.Least other e) one_extra
one_slacks law t (slacks.Least cycle extra) slacks.Never limits ends a b = let some = a.least.attained in absurd (b some.0 some.1 some.2)
one_slacks law t slacks.Never (slacks.Least other others) limits ends a b = let some = b.least.attained in absurd (a some.0 some.1 some.2)
one_slacks law t slacks.Never slacks.Never limits ends a b = refl

-- ---- jobs

pub job_same : AreJobLaws → (most : Most) (job : Job) (t : Timing) (file : List ℕ) (status : Status) (text another : List ℕ) → IsDesign t.flat → HasEnds t →
    IsJobAnswer most job t file status text → IsJobAnswer most job t file status another → AreSameButFree job text another
job_same law most Check t file status text another limits ends (s, is, h) (r, is_too, g) = check_same law t file s r status text another is is_too h g
job_same law most Optimise t file status text another limits ends (c, is, e, w) (d, is_too, f, v) = (c, d, law.optima t c d limits ends is is_too, w, v)
job_same law most Verify t file status text another limits ends (c, is, (v, of, e, w)) (d, is_too, (x, of_too, f, y)) =
    let one : d ≡ c = law.one_certificate most.members file d c is_too is in
    let same : v ≡ x = one_verdict t c v x of (subst (λ (k : Certificate). IsVerdict t k x) one of_too) in
    w ∙ ap verdict_text_of same ∙ sym y
job_same law most Report t file status text another limits ends (c, is, e, w) (d, is_too, f, v) = (t.flat, c, d, law.optima t c d limits ends is is_too, w, v)
job_same law most Safe t file status text another limits ends (c, is, e, w) (d, is_too, f, v) = (c, d, law.safe t c d limits ends is is_too, w, v)
job_same law most Slack t file status text another limits ends (few, (x, is, e, w)) (few_too, (y, is_too, f, v)) =
    w ∙ ap (λ (z : Slacks). text_of (slack_lines t z)) (one_slacks law t x y limits ends is is_too) ∙ sym v

-- ---- summaries

pub summary_same : OptimaAreDetermined → AnswersAreDetermined → (number : ℕ) (t : Timing) (c d : Certificate) (text another : List ℕ) → IsDesign t.flat → HasEnds t → IsOptimum t c → IsOptimum t d →
    IsSummaryText number t c text → IsSummaryText number t d another → text ≡ another
summary_same optima texts number t (certificate.Least s ds chain) (certificate.Least r es others) text another limits ends is is_too w v =
    let differ : DifferInChain (certificate.Least s ds chain) (certificate.Least r es others) = optima t (certificate.Least s ds chain) (certificate.Least r es others) limits ends is is_too in
    let own : IsSummaryText number t (certificate.Least s es others) another = subst (λ (x : Schedule). IsSummaryText number t (certificate.Least x es others) another) (sym differ.0) v in
    texts.summary number t (certificate.Least s es others) text another is.optimal.0.clock.den w own
summary_same optima texts number t (certificate.Least s ds chain) (certificate.Never others) text another limits ends is is_too w v =
    absurd (optima t (certificate.Least s ds chain) (certificate.Never others) limits ends is is_too)
summary_same optima texts number t (certificate.Never chain) (certificate.Least r es others) text another limits ends is is_too w v =
    absurd (optima t (certificate.Never chain) (certificate.Least r es others) limits ends is is_too)
summary_same optima texts number t (certificate.Never chain) (certificate.Never others) text another limits ends is is_too w v = w ∙ sym v
