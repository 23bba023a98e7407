-- A defined answer has one status.
use Rattle.std.proofs.Common.{◌≡◌, ◌≢◌, ℕ, ℤ, List, [], ◌∷◌, ◌++◌, get_or, refl, ◌∙◌, sym, subst, inl, inr, ◌⊎◌}
use Rattle.mintc_text.specs.declared.limits.Most.{Most}
use Rattle.mintc_text.specs.declared.refusals.Refusal.{Refusal}
use Rattle.mintc_timing.specs.declared.clocking.Schedule.{Schedule}
use Rattle.mintc_timing.specs.declared.parts.Pair.{Pair}
use Rattle.mintc_timing.specs.declared.violation.Violation.{Violation}
use Rattle.mintc_timing.specs.Design.{Design, Timing}
use Rattle.mintc_timing.specs.Laws.{PairsAreDetermined, ViolationsAreDetermined}
use Rattle.mintc_timing.specs.Paths.{ArePairs}
use Rattle.mintc_timing.specs.Right.{IsRight}
use Rattle.mintc_timing.specs.Violations.{AreViolations, EndInLoop}
use Rattle.mintc_certificate.specs.declared.certificate.Certificate.{Certificate}
use Rattle.mintc_certificate.specs.declared.certificate.Certificate.TheVariants as certificate
use Rattle.mintc_certificate.specs.declared.members.Member.{Member}
use Rattle.mintc_certificate.specs.declared.members.Member.TheVariants as member
use Rattle.mintc_certificate.specs.Optimal.{IsOptimal}
use Rattle.mintc_certificate.specs.TextLaws.{HaveOneCertificate}
use Rattle.mintc_certificate.specs.Valid.{IsMember, IsRing, Passes, Test, counts, clock, bounds, departures, setups, ring, sums}
use Rattle.mintc_checker.specs.declared.verdict.Verdict.{Verdict}
use Rattle.mintc_checker.specs.declared.verdict.Verdict.TheVariants as verdict
use Rattle.mintc_checker.specs.Verdicts.{IsVerdict}
use Rattle.mintc_safe.specs.declared.certificate.SafeCertificate.{SafeCertificate}
use Rattle.mintc_safe.specs.declared.certificate.SafeCertificate.TheVariants as kept
use Rattle.mintc_safe.specs.Hold.{IsSafe}
use Rattle.mintc_safe.specs.SafeOptimum.{IsSafeOptimal}
use Rattle.mintc_slack.specs.declared.finding.Slacks.{Slacks}
use Rattle.mintc_slack.specs.declared.finding.Slacks.TheVariants as slacks
use Rattle.mintc_slack.specs.Answers.{IsSlackAnswer}
use Rattle.mintc_corners.specs.declared.certificate.CornerCertificate.{CornerCertificate}
use Rattle.mintc_corners.specs.declared.certificate.CornerCertificate.TheVariants as joint
use Rattle.mintc_corners.specs.CornerOptimum.{IsOptimumOf}
use Rattle.mintc_corners.specs.Joint.{AreJointlyRight}
use Rattle.mintc_command_answers.specs.Answers.{IsAnswerOn, IsContentAnswer, IsRefusalOn}
use Rattle.mintc_command_answers.specs.Contents.{contents_of}
use Rattle.mintc_command_answers.specs.Corners.{AreGiven, corner_status, corners_of}
use Rattle.mintc_command_answers.specs.Jobs.{IsJobAnswer, IsJudgement, certificate_status, safe_status, slack_status, verdict_status}
use Rattle.mintc_command_answers.specs.Laws.{StatusesAreDetermined}
use Rattle.mintc_command_answers.specs.Sources.{Gives, own_file}
use Rattle.mintc_command_answers.specs.declared.command.Command.{Command}
use Rattle.mintc_command_answers.specs.declared.command.Command.TheVariants.{OfDesign, Sample, Corners}
use Rattle.mintc_command_answers.specs.declared.command.Job.{Job}
use Rattle.mintc_command_answers.specs.declared.command.Job.TheVariants.{Check, Optimise, Verify, Report, Safe, Slack}
use Rattle.mintc_command_answers.specs.declared.command.Source.{Source}
use Rattle.mintc_command_answers.specs.declared.command.Source.TheVariants.{Files}
use Rattle.mintc_command_answers.specs.declared.status.Status.{Status}
use Rattle.mintc_command_answers.specs.declared.status.Status.TheVariants.{Done, Found, Refused, Usage, ReadFault, WriteFault, OutOfMemory}
use Rattle.mintc_command_answers.proofs.OrderLaws.{timing_of, in_each_order, clock_turned, exact_turned, right_turned, right_in_each_order, violations_in_each_order}
use Rattle.mintc_command_answers.proofs.RefusalLaws.{AreTextLaws, exclude_lem, one_design}

-- the laws of texts, of pairs and of violations
pub record AreLaws : Type 0 where
  pub texts : (most : Most) → AreTextLaws most
  pub one_certificate : (most : ℕ) → HaveOneCertificate most
  pub one_pairs : PairsAreDetermined
  pub one_violations : ViolationsAreDetermined

-- The timings are those of one design and one list of pairs, whatever their orders are.
record AreAlike (t u : Timing) : Type 0 where
  flat : t.flat ≡ u.flat
  pairs : t.pairs ≡ u.pairs

alike_back : (t u : Timing) → AreAlike t u → AreAlike u t
alike_back t u h = record { flat = sym h.flat; pairs = sym h.pairs }

-- Files give timings that are alike.
alike : AreLaws → (most : Most) (source : Source) (files : List (List ℕ)) (t u : Timing) → Gives most source files t → Gives most source files u → AreAlike t u
alike law most source files t u a b =
    let flat : t.flat ≡ u.flat = one_design most (law.texts most) source files t.flat u.flat a.design b.design in
    record { flat = flat; pairs = law.one_pairs t.flat t.pairs u.pairs a.pairs (subst (λ (d : Design). ArePairs d u.pairs) (sym flat) b.pairs) }

right_alike : (t u : Timing) (s : Schedule) (d : List ℤ) → AreAlike t u → IsRight t s d → IsRight u s d
right_alike t u s d h = right_in_each_order t u s d h.flat h.pairs

-- ---- judgements

-- A judgement is done where there are no violations, and found where there are some.
abbrev IsJudged : Timing → Schedule → Status → Type 0
IsJudged t s status = ((status ≡ Done) × AreViolations t s [])
    ⊎ ((status ≡ Found) × ((violations : List Violation) × AreViolations t s violations × (violations ≢ [])))

judged : (t : Timing) (s : Schedule) (status : Status) (text : List ℕ) → IsJudgement t s status text → IsJudged t s status
judged t s Done text h = inl (refl, h.2)
judged t s Found text h = inr (refl, (h.0, h.1, h.2))
judged t s Refused text h = absurd h
judged t s Usage text h = absurd h
judged t s ReadFault text h = absurd h
judged t s WriteFault text h = absurd h
judged t s OutOfMemory text h = absurd h

some_last : (xs : List Violation) (x : Violation) → [] ≡ xs ++ x ∷ [] → ⊥
some_last [] x e = cc
some_last (y ∷ xs) x e = cc

none_or_some : AreLaws → (t u : Timing) (s : Schedule) (violations : List Violation) → AreAlike t u → AreViolations t s [] → AreViolations u s violations → violations ≢ [] → ⊥
none_or_some law t u s violations same none are some = go (law.one_violations u s [] violations (violations_in_each_order t u s [] same.flat same.pairs none) are)
  where
    go : ([] ≡ violations) ⊎ (EndInLoop u s [] × EndInLoop u s violations) → ⊥
    go (inl e) = some (sym e)
    go (inr (ends, other)) = some_last _ _ ends.3

one_judgement : AreLaws → (t u : Timing) (s : Schedule) (status other : Status) → AreAlike t u → IsJudged t s status → IsJudged u s other → status ≡ other
one_judgement law t u s status other same (inl a) (inl b) = a.0 ∙ sym b.0
one_judgement law t u s status other same (inl a) (inr b) = absurd (none_or_some law t u s b.1.0 same a.1 b.1.1 b.1.2)
one_judgement law t u s status other same (inr a) (inl b) = absurd (none_or_some law u t s a.1.0 (alike_back t u same) b.1 a.1.1 a.1.2)
one_judgement law t u s status other same (inr a) (inr b) = a.0 ∙ sym b.0

-- ---- a least cycle, or none

one_optimum : (t u : Timing) (c d : Certificate) → AreAlike t u → IsOptimal t c → IsOptimal u d → certificate_status c ≡ certificate_status d
one_optimum t u (certificate.Least s ds chain) (certificate.Least r es another) same a b = refl
one_optimum t u (certificate.Least s ds chain) (certificate.Never another) same a b = absurd (b s ds (right_alike t u s ds same a.0))
one_optimum t u (certificate.Never chain) (certificate.Least r es another) same a b = absurd (a r es (right_alike u t r es (alike_back t u same) b.0))
one_optimum t u (certificate.Never chain) (certificate.Never another) same a b = refl

safe_alike : (t u : Timing) (s : Schedule) (d : List ℤ) → AreAlike t u → IsSafe t s d → IsSafe u s d
safe_alike t u s d same = in_each_order (λ (x : Timing). IsSafe x s d)
    (λ design pairs a b h. record { right = right_turned s design pairs a b d h.right; hold = h.hold }) t u same.flat same.pairs

one_safe : (t u : Timing) (c d : SafeCertificate) → AreAlike t u → IsSafeOptimal t c → IsSafeOptimal u d → safe_status c ≡ safe_status d
one_safe t u (kept.Least s ds chain) (kept.Least r es another) same a b = refl
one_safe t u (kept.Least s ds chain) (kept.Never another) same a b = absurd (b s ds (safe_alike t u s ds same a.0))
one_safe t u (kept.Never chain) (kept.Least r es another) same a b = absurd (a r es (safe_alike u t r es (alike_back t u same) b.0))
one_safe t u (kept.Never chain) (kept.Never another) same a b = refl

one_slack : (t u : Timing) (x y : Slacks) → AreAlike t u → IsSlackAnswer t x → IsSlackAnswer u y → slack_status x ≡ slack_status y
one_slack t u (slacks.Least cycle extra) (slacks.Least other others) same a b = refl
one_slack t u (slacks.Least cycle extra) slacks.Never same a b = let some = a.least.attained in absurd (b some.0 some.1 (right_alike t u some.0 some.1 same some.2))
one_slack t u slacks.Never (slacks.Least other others) same a b =
    let some = b.least.attained in absurd (a some.0 some.1 (right_alike u t some.0 some.1 (alike_back t u same) some.2))
one_slack t u slacks.Never slacks.Never same a b = refl

-- ---- verdicts

module _ (design : Design) (pairs : List Pair) (a b : List ℕ) where
  member_turned : (m : Member) → IsMember (timing_of design pairs a) m → IsMember (timing_of design pairs b) m
  member_turned (member.Start p) h = h
  member_turned (member.Cycle p) h = h
  member_turned (member.Order p) h = h
  member_turned (member.Span p) h = h
  member_turned (member.Width p) h = h
  member_turned (member.Apart i j) h = h
  member_turned (member.Opening l) h = h
  member_turned (member.Opened l) h = h
  member_turned (member.Reach j l path) h = h
  member_turned (member.Setup l) h = h
  member_turned (member.Bound n) h = h

  ring_turned : (members : List Member) → IsRing (timing_of design pairs a) members → IsRing (timing_of design pairs b) members
  ring_turned members h = ((λ n d below. member_turned (get_or members n d) (h.0 n d below)), h.1)

  passes_turned : (c : Certificate) (test : Test) → Passes (timing_of design pairs a) c test → Passes (timing_of design pairs b) c test
  passes_turned (certificate.Least s d chain) counts h = h
  passes_turned (certificate.Least s d chain) clock h = clock_turned s design pairs a b h
  passes_turned (certificate.Least s d chain) bounds h = h
  passes_turned (certificate.Least s d chain) departures h = exact_turned s design pairs a b d h
  passes_turned (certificate.Least s d chain) setups h = h
  passes_turned (certificate.Least s d chain) ring h = ring_turned chain h
  passes_turned (certificate.Least s d chain) sums h = h
  passes_turned (certificate.Never chain) counts h = h
  passes_turned (certificate.Never chain) clock h = h
  passes_turned (certificate.Never chain) bounds h = h
  passes_turned (certificate.Never chain) departures h = h
  passes_turned (certificate.Never chain) setups h = h
  passes_turned (certificate.Never chain) ring h = ring_turned chain h
  passes_turned (certificate.Never chain) sums h = h

passes_alike : (t u : Timing) (c : Certificate) (test : Test) → AreAlike t u → Passes t c test → Passes u c test
passes_alike t u c test same = in_each_order (λ (x : Timing). Passes x c test) (λ design pairs a b. passes_turned design pairs a b c test) t u same.flat same.pairs

one_verdict : (t u : Timing) (c : Certificate) (v w : Verdict) → AreAlike t u → IsVerdict t c v → IsVerdict u c w → verdict_status v ≡ verdict_status w
one_verdict t u c verdict.Valid verdict.Valid same a b = refl
one_verdict t u c verdict.Valid (verdict.Invalid n) same a b = absurd (b.2.fails (passes_alike t u c b.0 same (a b.0)))
one_verdict t u c (verdict.Invalid n) verdict.Valid same a b = absurd (a.2.fails (passes_alike u t c a.0 (alike_back t u same) (b a.0)))
one_verdict t u c (verdict.Invalid n) (verdict.Invalid m) same a b = refl

-- ---- corners

jointly_alike : AreLaws → (most : Most) (corners : List (List (List ℕ))) (ts us : List Timing) → AreGiven most corners ts → AreGiven most corners us →
    (s : Schedule) (ds : List (List ℤ)) → AreJointlyRight ts s ds → AreJointlyRight us s ds
jointly_alike law most [] [] [] a b s ds h = h
jointly_alike law most [] [] (u ∷ us) a b s ds h = absurd b
jointly_alike law most [] (t ∷ ts) us a b s ds h = absurd a
jointly_alike law most (files ∷ corners) [] us a b s ds h = absurd a
jointly_alike law most (files ∷ corners) (t ∷ ts) [] a b s ds h = absurd b
jointly_alike law most (files ∷ corners) (t ∷ ts) (u ∷ us) a b s [] h = absurd h
jointly_alike law most (files ∷ corners) (t ∷ ts) (u ∷ us) a b s (d ∷ ds) h =
    (right_alike t u s d (alike law most Files files t u a.0 b.0) h.0, jointly_alike law most corners ts us a.1 b.1 s ds h.1)

one_joint : (ts us : List Timing) (c d : CornerCertificate) → ((s : Schedule) (ds : List (List ℤ)) → AreJointlyRight ts s ds → AreJointlyRight us s ds) →
    ((s : Schedule) (ds : List (List ℤ)) → AreJointlyRight us s ds → AreJointlyRight ts s ds) → IsOptimumOf ts c → IsOptimumOf us d → corner_status c ≡ corner_status d
one_joint [] us c d there back a b = absurd a
one_joint (t ∷ ts) [] c d there back a b = absurd b
one_joint (t ∷ ts) (u ∷ us) (joint.Least s ds chain) (joint.Least r es another) there back a b = refl
one_joint (t ∷ ts) (u ∷ us) (joint.Least s ds chain) (joint.Never another) there back a b = absurd (b.optimal s ds (there s ds a.optimal.0))
one_joint (t ∷ ts) (u ∷ us) (joint.Never chain) (joint.Least r es another) there back a b = absurd (a.optimal r es (back r es b.optimal.0))
one_joint (t ∷ ts) (u ∷ us) (joint.Never chain) (joint.Never another) there back a b = refl

-- ---- commands

one_job : AreLaws → (most : Most) (job : Job) (t u : Timing) (file : List ℕ) (status other : Status) (text another : List ℕ) → AreAlike t u →
    IsJobAnswer most job t file status text → IsJobAnswer most job u file other another → status ≡ other
one_job law most Check t u file status other text another same (s, is, h) (r, is_too, g) =
    let schedule : r ≡ s = (law.texts most).one_schedule file r s is_too.is_text is.is_text in
    one_judgement law t u s status other same (judged t s status text h) (subst (λ (x : Schedule). IsJudged u x other) schedule (judged u r other another g))
one_job law most Optimise t u file status other text another same (c, is, e, w) (d, is_too, f, v) = e ∙ one_optimum t u c d same is.optimal is_too.optimal ∙ sym f
one_job law most Verify t u file status other text another same (c, is, (v, of, e, w)) (d, is_too, (x, of_too, f, y)) =
    let one : d ≡ c = law.one_certificate most.members file d c is_too is in
    e ∙ one_verdict t u c v x same of (subst (λ (k : Certificate). IsVerdict u k x) one of_too) ∙ sym f
one_job law most Report t u file status other text another same (c, is, e, w) (d, is_too, f, v) = e ∙ one_optimum t u c d same is.optimal is_too.optimal ∙ sym f
one_job law most Safe t u file status other text another same (c, is, e, w) (d, is_too, f, v) = e ∙ one_safe t u c d same is.optimal is_too.optimal ∙ sym f
one_job law most Slack t u file status other text another same (few, (x, is, e, w)) (few_too, (y, is_too, f, v)) = e ∙ one_slack t u x y same is is_too ∙ sym f

one_content : AreLaws → (most : Most) (command : Command) (texts : List (List ℕ)) (status other : Status) (text another : List ℕ) →
    IsContentAnswer most command texts status text → IsContentAnswer most command texts other another → status ≡ other
one_content law most (OfDesign job source) texts status other text another (t, gives, h) (u, gives_too, g) =
    one_job law most job t u (own_file source texts) status other text another (alike law most source texts t u gives gives_too) h g
one_content law most (Sample number) texts status other text another (t, gives, (c, is, e, w)) (u, gives_too, (d, is_too, f, v)) =
    e ∙ one_optimum t u c d (alike law most Files texts t u gives gives_too) is.optimal is_too.optimal ∙ sym f
one_content law most (Corners count) texts status other text another (ts, given, few, (c, is, e, w)) (us, given_too, few_too, (d, is_too, f, v)) =
    e ∙ one_joint ts us c d (jointly_alike law most (corners_of texts) ts us given given_too) (jointly_alike law most (corners_of texts) us ts given_too given) is is_too ∙ sym f

-- An answer is the line of the first refusal, or the answer of a command of which nothing is refused.
abbrev IsRefusedOrAnswer : Most → Command → List (List ℕ) → Status → List ℕ → Type 0
IsRefusedOrAnswer most command texts status text = ((refused : Refusal) × IsRefusalOn most command texts refused × (status ≡ Refused))
    ⊎ IsContentAnswer most command texts status text

refused_or_answer : (most : Most) (command : Command) (texts : List (List ℕ)) (status : Status) (text : List ℕ) → IsAnswerOn most command texts status text → IsRefusedOrAnswer most command texts status text
refused_or_answer most command texts Refused text h = inl (h.0, h.1, refl)
refused_or_answer most command texts Done text h = inr h.1
refused_or_answer most command texts Found text h = inr h.1
refused_or_answer most command texts Usage text h = inr h.1
refused_or_answer most command texts ReadFault text h = inr h.1
refused_or_answer most command texts WriteFault text h = inr h.1
refused_or_answer most command texts OutOfMemory text h = inr h.1

pub statuses_lem : AreLaws → StatusesAreDetermined
statuses_lem law most command files status other text another a b =
    go (refused_or_answer most command (contents_of command files) status text a) (refused_or_answer most command (contents_of command files) other another b)
  where
    go : IsRefusedOrAnswer most command (contents_of command files) status text → IsRefusedOrAnswer most command (contents_of command files) other another → status ≡ other
    go (inl (refused, first, is)) h = is ∙ sym (exclude_lem law.texts most command files refused other another first b)
    go (inr h) (inl (refused, first, is)) = exclude_lem law.texts most command files refused status text first a ∙ sym is
    go (inr h) (inr g) = one_content law most command (contents_of command files) status other text another h g
