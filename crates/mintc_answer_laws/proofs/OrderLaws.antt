-- An answer rests on a design and its pairs alone, and not on the order of its arcs.
use Rattle.std.proofs.Common.{◌≡◌, ℕ, ℤ, pos, ◌+ℤ◌, List, get_or, inl, inr, ◌⊎◌, subst}
use Rattle.std.specs.Prelude.{slice_set}
use Rattle.mintc_text.specs.declared.limits.Most.{Most}
use Rattle.mintc_timing.specs.declared.clocking.Schedule.{Schedule}
use Rattle.mintc_timing.specs.declared.parts.Pair.{Pair}
use Rattle.mintc_timing.specs.declared.violation.Violation.{Violation}
use Rattle.mintc_timing.specs.Clocking.{KeepsClock, KeepsPhase}
use Rattle.mintc_timing.specs.Departures.{AreEarly, AreExact, AreExactEarly, AreLate}
use Rattle.mintc_timing.specs.Design.{Design, Timing, no_pair}
use Rattle.mintc_timing.specs.Right.{IsRight, IsLeastCycle, IsHopeless}
use Rattle.mintc_timing.specs.Violations.{AreViolations, HasLoop, IsLoop}
use Rattle.mintc_certificate.specs.declared.certificate.Certificate.{Certificate}
use Rattle.mintc_certificate.specs.declared.certificate.Certificate.TheVariants as certificate
use Rattle.mintc_certificate.specs.declared.members.Member.{Member}
use Rattle.mintc_certificate.specs.declared.members.Member.TheVariants as member
use Rattle.mintc_certificate.specs.Optimal.{IsOptimal}
use Rattle.mintc_certificate.specs.Valid.{IsMember, IsRing, IsValid, Passes, Test, counts, clock, bounds, departures, setups, ring, sums}
use Rattle.mintc_checker.specs.declared.verdict.Verdict.{Verdict}
use Rattle.mintc_checker.specs.declared.verdict.Verdict.TheVariants as verdict
use Rattle.mintc_checker.specs.Verdicts.{IsVerdict}
use Rattle.mintc_optimise.specs.Optimum.{HasEarliest, HasSimple}
use Rattle.mintc_report.specs.Answers.{IsFailText}
use Rattle.mintc_report.specs.Summaries.{IsSummaryText}
use Rattle.mintc_safe.specs.declared.certificate.SafeCertificate.{SafeCertificate}
use Rattle.mintc_safe.specs.declared.certificate.SafeCertificate.TheVariants as kept
use Rattle.mintc_safe.specs.declared.members.SafeMember.{SafeMember}
use Rattle.mintc_safe.specs.declared.members.SafeMember.TheVariants as safe
use Rattle.mintc_safe.specs.Hold.{IsHopelessForHold, IsSafe, IsSafeCycle}
use Rattle.mintc_safe.specs.SafeOptimum.{HasSafeEarliest, IsSafeMember, IsSafeOptimal, IsSafeOptimum, IsSafeRing, IsSafeValid}
use Rattle.mintc_slack.specs.declared.finding.Slacks.{Slacks}
use Rattle.mintc_slack.specs.declared.finding.Slacks.TheVariants as slacks
use Rattle.mintc_slack.specs.Answers.{IsSlackAnswer}
use Rattle.mintc_slack.specs.Raised.{raised, raised_pair}
use Rattle.mintc_slack.specs.Slack.{AreSlacks, IsSlack, IsSlower}
use Rattle.mintc_slack.specs.SlackText.{slack_lines}
use Rattle.mintc_text.specs.Lines.{text_of}
use Rattle.mintc_command_answers.specs.Jobs.{IsJobAnswer, IsJudgement, IsOptimum}
use Rattle.mintc_command_answers.specs.declared.command.Job.{Job}
use Rattle.mintc_command_answers.specs.declared.command.Job.TheVariants.{Check, Optimise, Verify, Report, Safe, Slack}
use Rattle.mintc_command_answers.specs.declared.status.Status.{Status}
use Rattle.mintc_command_answers.specs.declared.status.Status.TheVariants.{Done, Found, Refused, Usage, ReadFault, WriteFault, OutOfMemory}

-- the timing of a design with an order and pairs
abbrev pub timing_of : Design → List Pair → List ℕ → Timing
timing_of design pairs order = record { flat = design; order = order; pairs = pairs }

-- What holds of a design and its pairs in each order holds of each timing of them.
pub in_each_order : (P : Timing → Type 0) → ((design : Design) (pairs : List Pair) (a b : List ℕ) → P (timing_of design pairs a) → P (timing_of design pairs b)) →
    (t u : Timing) → t.flat ≡ u.flat → t.pairs ≡ u.pairs → P t → P u
in_each_order P turned t u flat pairs h =
    let own : P (timing_of t.flat t.pairs u.order) = turned t.flat t.pairs t.order u.order h in
    let of_pairs : P (timing_of t.flat u.pairs u.order) = subst (λ (x : List Pair). P (timing_of t.flat x u.order)) pairs own in
    subst (λ (x : Design). P (timing_of x u.pairs u.order)) flat of_pairs

-- ---- schedules

module _ (s : Schedule) (design : Design) (pairs : List Pair) (a b : List ℕ) where
  phase_turned : (p : ℕ) → KeepsPhase (timing_of design pairs a) s p → KeepsPhase (timing_of design pairs b) s p
  phase_turned p h = record { start = h.start; span = h.span; order = h.order; wide = h.wide; apart = h.apart }

  clock_turned : KeepsClock (timing_of design pairs a) s → KeepsClock (timing_of design pairs b) s
  clock_turned h = record { den = h.den; starts = h.starts; widths = h.widths; each = λ p low high. phase_turned p (h.each p low high) }

  exact_turned : (d : List ℤ) → AreExact (timing_of design pairs a) s d → AreExact (timing_of design pairs b) s d
  exact_turned d h = record { count = h.count; each = h.each }

  early_turned : (d : List ℤ) → AreExactEarly (timing_of design pairs a) s d → AreExactEarly (timing_of design pairs b) s d
  early_turned d h = record { count = h.count; each = h.each }

  pub right_turned : (d : List ℤ) → IsRight (timing_of design pairs a) s d → IsRight (timing_of design pairs b) s d
  right_turned d h = record { clock = clock_turned h.clock; bounds = h.bounds; exact = exact_turned d h.exact; setup = h.setup }

  is_loop_turned : (loop : List ℕ) → IsLoop (timing_of design pairs a) loop → IsLoop (timing_of design pairs b) loop
  is_loop_turned loop h = record { exist = h.exist; latches = h.latches; closed = h.closed; once = h.once }

  loop_turned : (loop : List ℕ) (amount : ℤ) → HasLoop (timing_of design pairs a) s loop amount → HasLoop (timing_of design pairs b) s loop amount
  loop_turned loop amount h = record { is_loop = is_loop_turned loop h.is_loop; is_amount = h.is_amount; above = h.above }

  fail_turned : (vs : List Violation) (text : List ℕ) → IsFailText (timing_of design pairs a) s vs text → IsFailText (timing_of design pairs b) s vs text
  fail_turned vs text h = record { answers = h.answers; each = h.each; whole = h.whole }

  safe_turned : (d : List ℤ) → IsSafe (timing_of design pairs a) s d → IsSafe (timing_of design pairs b) s d
  safe_turned d h = record { right = right_turned d h.right; hold = h.hold }

module _ (s : Schedule) (design : Design) (pairs : List Pair) (a b : List ℕ) where
  are_late_turned : (d : List ℤ) → AreLate (timing_of design pairs a) s d → AreLate (timing_of design pairs b) s d
  are_late_turned d h = record { exact = exact_turned s design pairs a b d h.exact; least = λ e exact. h.least e (exact_turned s design pairs b a e exact) }

  are_early_turned : (d : List ℤ) → AreEarly (timing_of design pairs a) s d → AreEarly (timing_of design pairs b) s d
  are_early_turned d h = record { exact = early_turned s design pairs a b d h.exact; least = λ e exact. h.least e (early_turned s design pairs b a e exact) }

  violations_turned : (vs : List Violation) → AreViolations (timing_of design pairs a) s vs → AreViolations (timing_of design pairs b) s vs
  violations_turned vs (inl (loop, amount, has, are)) = inl (loop, amount, loop_turned s design pairs a b loop amount has, are)
  violations_turned vs (inr (none, (late, early, are_late, are_early, are))) =
      inr ((λ loop amount has. none loop amount (loop_turned s design pairs b a loop amount has)), (late, early, are_late_turned late are_late, are_early_turned early are_early, are))

  judgement_turned : (status : Status) (text : List ℕ) → IsJudgement (timing_of design pairs a) s status text → IsJudgement (timing_of design pairs b) s status text
  judgement_turned Done text (late, early, none, are_late, are_early, written) = (late, early, violations_turned _ none, are_late_turned late are_late, are_early_turned early are_early, written)
  judgement_turned Found text (vs, are, some, written) = (vs, violations_turned vs are, some, fail_turned s design pairs a b vs text written)
  judgement_turned Refused text h = absurd h
  judgement_turned Usage text h = absurd h
  judgement_turned ReadFault text h = absurd h
  judgement_turned WriteFault text h = absurd h
  judgement_turned OutOfMemory text h = absurd h

-- ---- least cycles

module _ (design : Design) (pairs : List Pair) (a b : List ℕ) where
  least_turned : (num den : ℤ) → IsLeastCycle (timing_of design pairs a) num den → IsLeastCycle (timing_of design pairs b) num den
  least_turned num den h = record {
    positive = h.positive;
    attained = (h.attained.0, h.attained.1, right_turned h.attained.0 design pairs a b h.attained.1 h.attained.2, h.attained.3);
    least = λ s d right. h.least s d (right_turned s design pairs b a d right);
  }

  hopeless_turned : IsHopeless (timing_of design pairs a) → IsHopeless (timing_of design pairs b)
  hopeless_turned h = λ s d right. h s d (right_turned s design pairs b a d right)

  slower_turned : (num den : ℤ) → IsSlower (timing_of design pairs a) num den → IsSlower (timing_of design pairs b) num den
  slower_turned num den h = record { other_num = h.other_num; other_den = h.other_den; least = least_turned h.other_num h.other_den h.least; above = h.above }

  safe_cycle_turned : (num den : ℤ) → IsSafeCycle (timing_of design pairs a) num den → IsSafeCycle (timing_of design pairs b) num den
  safe_cycle_turned num den h = record {
    positive = h.positive;
    attained = (h.attained.0, h.attained.1, safe_turned h.attained.0 design pairs a b h.attained.1 h.attained.2, h.attained.3);
    least = λ s d right. h.least s d (safe_turned s design pairs b a d right);
  }

  hopeless_safe_turned : IsHopelessForHold (timing_of design pairs a) → IsHopelessForHold (timing_of design pairs b)
  hopeless_safe_turned h = λ s d right. h s d (safe_turned s design pairs b a d right)

  -- ---- certificates

  pub member_turned : (m : Member) → IsMember (timing_of design pairs a) m → IsMember (timing_of design pairs b) m
  member_turned (member.Start p) h = h
  member_turned (member.Cycle p) h = h
  member_turned (member.Order p) h = h
  member_turned (member.Span p) h = h
  member_turned (member.Width p) h = h
  member_turned (member.Apart i j) h = h
  member_turned (member.Opening l) h = h
  member_turned (member.Opened l) h = h
  member_turned (member.Reach j l path) h = h
  member_turned (member.Setup l) h = h
  member_turned (member.Bound n) h = h

  ring_turned : (members : List Member) → IsRing (timing_of design pairs a) members → IsRing (timing_of design pairs b) members
  ring_turned members h = ((λ n d below. member_turned (get_or members n d) (h.0 n d below)), h.1)

  passes_turned : (c : Certificate) (test : Test) → Passes (timing_of design pairs a) c test → Passes (timing_of design pairs b) c test
  passes_turned (certificate.Least s d chain) counts h = h
  passes_turned (certificate.Least s d chain) clock h = clock_turned s design pairs a b h
  passes_turned (certificate.Least s d chain) bounds h = h
  passes_turned (certificate.Least s d chain) departures h = exact_turned s design pairs a b d h
  passes_turned (certificate.Least s d chain) setups h = h
  passes_turned (certificate.Least s d chain) ring h = ring_turned chain h
  passes_turned (certificate.Least s d chain) sums h = h
  passes_turned (certificate.Never chain) counts h = h
  passes_turned (certificate.Never chain) clock h = h
  passes_turned (certificate.Never chain) bounds h = h
  passes_turned (certificate.Never chain) departures h = h
  passes_turned (certificate.Never chain) setups h = h
  passes_turned (certificate.Never chain) ring h = ring_turned chain h
  passes_turned (certificate.Never chain) sums h = h

  valid_turned : (c : Certificate) → IsValid (timing_of design pairs a) c → IsValid (timing_of design pairs b) c
  valid_turned c h = λ test. passes_turned c test (h test)

  optimal_turned : (c : Certificate) → IsOptimal (timing_of design pairs a) c → IsOptimal (timing_of design pairs b) c
  optimal_turned (certificate.Least s d chain) h = (right_turned s design pairs a b d h.0, least_turned s.cycle s.den h.1)
  optimal_turned (certificate.Never chain) h = hopeless_turned h

  earliest_turned : (c : Certificate) → HasEarliest (timing_of design pairs a) c → HasEarliest (timing_of design pairs b) c
  earliest_turned (certificate.Least s d chain) h = h
  earliest_turned (certificate.Never chain) h = h

  simple_turned : (c : Certificate) → HasSimple (timing_of design pairs a) c → HasSimple (timing_of design pairs b) c
  simple_turned c h = record { listed = h.listed; once = h.once }

  optimum_turned : (c : Certificate) → IsOptimum (timing_of design pairs a) c → IsOptimum (timing_of design pairs b) c
  optimum_turned c h = record {
    valid = valid_turned c h.valid;
    optimal = optimal_turned c h.optimal;
    earliest = earliest_turned c h.earliest;
    simple = simple_turned c h.simple;
    in_range = h.in_range;
    short = h.short;
  }

  summary_turned : (number : ℕ) (c : Certificate) (text : List ℕ) → IsSummaryText number (timing_of design pairs a) c text → IsSummaryText number (timing_of design pairs b) c text
  summary_turned number (certificate.Least s d chain) text h = record { cycle_word = h.cycle_word; is_cycle = h.is_cycle; whole = h.whole }
  summary_turned number (certificate.Never chain) text h = h

module _ (design : Design) (pairs : List Pair) (a b : List ℕ) where
  verdict_turned : (c : Certificate) (v : Verdict) → IsVerdict (timing_of design pairs a) c v → IsVerdict (timing_of design pairs b) c v
  verdict_turned c verdict.Valid h = valid_turned design pairs a b c h
  verdict_turned c (verdict.Invalid n) (test, named, h) = (
    test,
    named,
    record {
      fails = λ passes. h.fails (passes_turned design pairs b a c test passes);
      before = λ other below. passes_turned design pairs a b c other (h.before other below);
    },
  )

  -- ---- certificates that keep each hold

  safe_member_turned : (m : SafeMember) → IsSafeMember (timing_of design pairs a) m → IsSafeMember (timing_of design pairs b) m
  safe_member_turned (safe.Plain m) h = (member_turned design pairs a b m h.0, h.1)
  safe_member_turned (safe.Hold j l path) h = h

  safe_ring_turned : (members : List SafeMember) → IsSafeRing (timing_of design pairs a) members → IsSafeRing (timing_of design pairs b) members
  safe_ring_turned members h = record { each = λ n d below. safe_member_turned (get_or members n d) (h.each n d below); closed = h.closed }

  safe_valid_turned : (c : SafeCertificate) → IsSafeValid (timing_of design pairs a) c → IsSafeValid (timing_of design pairs b) c
  safe_valid_turned (kept.Least s d chain) h = (safe_turned s design pairs a b d h.0, safe_ring_turned chain h.1, h.2)
  safe_valid_turned (kept.Never chain) h = (safe_ring_turned chain h.0, h.1)

  safe_optimal_turned : (c : SafeCertificate) → IsSafeOptimal (timing_of design pairs a) c → IsSafeOptimal (timing_of design pairs b) c
  safe_optimal_turned (kept.Least s d chain) h = (safe_turned s design pairs a b d h.0, safe_cycle_turned design pairs a b s.cycle s.den h.1)
  safe_optimal_turned (kept.Never chain) h = hopeless_safe_turned design pairs a b h

  safe_earliest_turned : (c : SafeCertificate) → HasSafeEarliest (timing_of design pairs a) c → HasSafeEarliest (timing_of design pairs b) c
  safe_earliest_turned (kept.Least s d chain) h = h
  safe_earliest_turned (kept.Never chain) h = h

  safe_optimum_turned : (c : SafeCertificate) → IsSafeOptimum (timing_of design pairs a) c → IsSafeOptimum (timing_of design pairs b) c
  safe_optimum_turned c h = record {
    valid = safe_valid_turned c h.valid;
    optimal = safe_optimal_turned c h.optimal;
    earliest = safe_earliest_turned c h.earliest;
    simple = h.simple;
    in_range = h.in_range;
  }

  -- ---- slacks

  -- the pairs with the greatest delay of one greater
  abbrev pairs_raised : ℕ → ℤ → List Pair
  pairs_raised n u = slice_set pairs n (raised_pair (get_or pairs n no_pair) u)

  lost_turned : (num den : ℤ) (n : ℕ) (u : ℤ) → IsSlower (raised (timing_of design pairs a) n u) num den ⊎ IsHopeless (raised (timing_of design pairs a) n u) →
      IsSlower (raised (timing_of design pairs b) n u) num den ⊎ IsHopeless (raised (timing_of design pairs b) n u)
  lost_turned num den n u (inl h) = inl (slower_turned design (pairs_raised n u) a b num den h)
  lost_turned num den n u (inr h) = inr (hopeless_turned design (pairs_raised n u) a b h)

  slack_turned : (num den : ℤ) (n : ℕ) (u : ℤ) → IsSlack (timing_of design pairs a) num den n u → IsSlack (timing_of design pairs b) num den n u
  slack_turned num den n u h = record {
    least = least_turned design pairs a b num den h.least;
    low = h.low;
    kept = least_turned design (pairs_raised n u) a b num den h.kept;
    lost = lost_turned num den n (u +ℤ pos 1) h.lost;
  }

  slacks_turned : (num den : ℤ) (extra : List ℤ) → AreSlacks (timing_of design pairs a) num den extra → AreSlacks (timing_of design pairs b) num den extra
  slacks_turned num den extra h = record { count = h.count; each = λ n below. slack_turned num den n (get_or extra n (pos 0)) (h.each n below) }

  slack_answer_turned : (x : Slacks) → IsSlackAnswer (timing_of design pairs a) x → IsSlackAnswer (timing_of design pairs b) x
  slack_answer_turned (slacks.Least cycle extra) h = record {
    least = least_turned design pairs a b cycle.num cycle.den h.least;
    lowest = h.lowest;
    modest = h.modest;
    slacks = slacks_turned cycle.num cycle.den extra h.slacks;
  }
  slack_answer_turned slacks.Never h = hopeless_turned design pairs a b h

  -- the lines of slacks name elements and pairs alone, so they are one list for both timings
  job_turned : (most : Most) (job : Job) (file : List ℕ) (status : Status) (text : List ℕ) → IsJobAnswer most job (timing_of design pairs a) file status text →
      IsJobAnswer most job (timing_of design pairs b) file status text
  job_turned most Check file status text (s, is, h) = (s, is, judgement_turned s design pairs a b status text h)
  job_turned most Optimise file status text (c, is, e, w) = (c, optimum_turned design pairs a b c is, e, w)
  job_turned most Verify file status text (c, is, (v, of, e, w)) = (c, is, (v, verdict_turned c v of, e, w))
  job_turned most Report file status text (c, is, e, w) = (c, optimum_turned design pairs a b c is, e, w)
  job_turned most Safe file status text (c, is, e, w) = (c, safe_optimum_turned c is, e, w)
  job_turned most Slack file status text (few, (x, is, e, w)) = (few, (x, slack_answer_turned x is, e, slack_written x w))
    where
      slack_written : (x : Slacks) → text ≡ text_of (slack_lines (timing_of design pairs a) x) → text ≡ text_of (slack_lines (timing_of design pairs b) x)
      slack_written (slacks.Least cycle extra) w = w
      slack_written slacks.Never w = w

pub job_in_each_order : (most : Most) (job : Job) (file : List ℕ) (status : Status) (text : List ℕ) (t u : Timing) → t.flat ≡ u.flat → t.pairs ≡ u.pairs →
    IsJobAnswer most job t file status text → IsJobAnswer most job u file status text
job_in_each_order most job file status text =
    in_each_order (λ (x : Timing). IsJobAnswer most job x file status text) (λ design pairs a b. job_turned design pairs a b most job file status text)

pub optimum_in_each_order : (c : Certificate) (t u : Timing) → t.flat ≡ u.flat → t.pairs ≡ u.pairs → IsOptimum t c → IsOptimum u c
optimum_in_each_order c = in_each_order (λ (x : Timing). IsOptimum x c) (λ design pairs a b. optimum_turned design pairs a b c)

pub summary_in_each_order : (number : ℕ) (c : Certificate) (text : List ℕ) (t u : Timing) → t.flat ≡ u.flat → t.pairs ≡ u.pairs → IsSummaryText number t c text → IsSummaryText number u c text
summary_in_each_order number c text = in_each_order (λ (x : Timing). IsSummaryText number x c text) (λ design pairs a b. summary_turned design pairs a b number c text)
