-- The clock of a design, and the clocks of a schedule.
use Rattle.std.proofs.Common.{◌≡◌, ◌∙◌, ◌==◌, ℕ, ℤ, Bool, true, false, cond, List, length, map, Option, Some, None, IfSome, arith, refl, ap, sym, subst}
use Rattle.std.proofs.lemmas.Bool.{eqb-true}
use Rattle.std.proofs.lemmas.Bool.Decides.{nat_tests}
use Rattle.std.proofs.lemmas.List.{length-map}
use Rattle.mintc_text.specs.declared.limits.Most.{Most}
use Rattle.mintc_text.specs.declared.refusals.Refusal.{Refusal}
use Rattle.mintc_text.specs.declared.refusals.Refusal.TheVariants as refusal
use Rattle.mintc_timing.specs.Design.{Design, Timing, phase_count}
use Rattle.mintc_timing.specs.declared.clocking.Schedule.{Schedule}
use Rattle.mintc_certificate.specs.declared.certificate.Certificate.{Certificate}
use Rattle.mintc_certificate.specs.declared.certificate.Certificate.TheVariants.{Least}
use Rattle.mintc_certificate.specs.declared.members.Member.{Member}
use Rattle.mintc_checker.specs.Verdicts.{IsVerdict}
use Rattle.mintc_checker.specs.declared.verdict.Verdict.{Verdict}
use Rattle.mintc_checker.specs.declared.verdict.Verdict.TheVariants.{Valid}
use Rattle.mintc_clock.specs.ClockOf.{IsClock, IsClockRefusal}
use Rattle.mintc_clock.specs.Laws.{ClocksAreDetermined, ClocksAreNotRefused, ClocksKeepLimits, KeepsLimits}
use Rattle.mintc_clock.specs.declared.clock.Clock.{Clock}
use Rattle.mintc_clock.specs.declared.clock.PhaseDef.{PhaseDef}
use Rattle.mintc_build.specs.FilesDesign.{CellText, IsDesignOver}
use Rattle.mintc_command_answers.specs.Sources.{Gives, file_at}
use Rattle.mintc_command_answers.specs.declared.command.Source.{Source}
use Rattle.mintc_command_answers.specs.declared.command.Source.TheVariants.{Table, Files, Liberty}
use Rattle.mintcx_frame.specs.declared.view.View.{View}
use Rattle.mintcx_sdc.specs.Named.{named_clock, named_phase}
use Rattle.mintcx_sdc.specs.declared.text.Titles.{Titles}
use Rattle.mintcx_answers.specs.declared.clocks.Clocks.{Clocks}
use Rattle.mintcx_answers.specs.Clocks.{IsByVerdict, IsChosen, IsClockFor, IsClockIn, IsClockOf, IsOfCertificate, IsOfLeast, IsReadIn, of_phases}
use Rattle.mintcx_answers.specs.Shown.{IsSystemFor}

-- ---- the clock

-- a text that has a clock isn't refused
not_refused : ClocksAreNotRefused → (text : List ℕ) (clock : Clock) (refused : Refusal) → IsClock text clock → IsClockRefusal text refused → ⊥
not_refused law text clock (refusal.BadClock n r) is bad = law text clock n r is bad
not_refused law text clock _ is bad = bad

-- what is said of the clock of a design
pub record IsFitting (from : Source) (files : List (List ℕ)) (t : Timing) (clock : Clock) : Type 0 where
  pub value : IsClockOf from files t clock
  pub limits : KeepsLimits clock
  pub alike : length clock.phases ≡ phase_count t.flat

-- the phases of a design over a clock are its
over_clock : (most : Most) (v d : List ℕ) (c : CellText) (k : List ℕ) (design : Design) (clock : Clock) → ClocksAreDetermined → IsDesignOver most v d c k design → IsClock k clock →
    length clock.phases ≡ phase_count design
over_clock most v d c k design clock same h is =
    let made : design.phases ≡ map (λ (p : PhaseDef). p.name) h.clock.phases = ap (λ (x : Design). x.phases) h.annotated.whole.made in
    ap (λ (x : Clock). length x.phases) (same k clock h.clock is h.read.clock_read)
    ∙ sym (length-map h.clock.phases (λ (p : PhaseDef). p.name)) ∙ ap length (sym made)

-- the clock that was read of a description
of_read : (most : Most) (v d : List ℕ) (c : CellText) (k : List ℕ) (t : Timing) (read : Option Clock) (clock : Clock) → ClocksKeepLimits → ClocksAreDetermined → ClocksAreNotRefused →
    IsDesignOver most v d c k t.flat → IsReadIn k read → IsChosen t read clock → IsClock k clock × KeepsLimits clock × (length clock.phases ≡ phase_count t.flat)
of_read most v d c k t (Some own) clock keep same not h is chosen =
    let stands : IsClock k clock = subst (IsClock k) (sym chosen) is in
    (stands, keep k clock stands, over_clock most v d c k t.flat clock same h stands)
of_read most v d c k t None clock keep same not h (refused, bad) chosen = absurd (not_refused not k h.clock refused h.read.clock_read bad)

-- the clock of the design that files give
pub clock_fits : (most : Most) (from : Source) (files : List (List ℕ)) (t : Timing) (read : Option Clock) (clock : Clock) → ClocksKeepLimits → ClocksAreDetermined → ClocksAreNotRefused →
    Gives most from files t → IsClockIn from files read → (read ≡ None → KeepsLimits clock) → IsChosen t read clock → IsFitting from files t clock
clock_fits most Table files t read clock keep same not gives is limits chosen =
    let own : clock ≡ named_clock t.flat.phases = subst (λ (x : Option Clock). IsChosen t x clock) is chosen in
    record { value = own; limits = limits is; alike = ap (λ (x : Clock). length x.phases) own ∙ length-map t.flat.phases named_phase }
clock_fits most Files files t read clock keep same not gives is limits chosen =
    let h = of_read most (file_at files 0) (file_at files 1) _ (file_at files 3) t read clock keep same not gives.design is chosen in
    record { value = h.0; limits = h.1; alike = h.2 }
clock_fits most Liberty files t read clock keep same not gives is limits chosen =
    let h = of_read most (file_at files 0) (file_at files 1) _ (file_at files 3) t read clock keep same not gives.design is chosen in
    record { value = h.0; limits = h.1; alike = h.2 }

-- ---- the schedule of a certificate

-- the clocks of a valid one
pub clocks_of_least : (t : Timing) (clock : Clock) (c : Certificate) (s : Schedule) (ds : List ℤ) (ms : List Member) (titles : Titles) (view : View) (v : Verdict) (told : Clocks) →
    c ≡ Least s ds ms → v ≡ Valid → IsVerdict t c v → IsOfLeast t clock s titles told → IsOfCertificate t clock c titles view told
clocks_of_least t clock c s ds ms titles view v told is valid verdict h =
    let own : IsByVerdict t clock (Least s ds ms) titles view Valid told = h in
    let judged = subst (λ (y : Verdict). IsByVerdict t clock (Least s ds ms) titles view y told) (sym valid) own in
    (v, verdict, subst (λ (x : Certificate). IsByVerdict t clock x titles view v told) (sym is) judged)

-- ---- the clock beside the design at hand, or that of the design that files give

-- a clock has its own number of phases
same_count : (own : Clock) (count : ℕ) (b : Bool) → length own.phases ≡ count → (length own.phases == count) ≡ b → cond b (Some own) None ≡ Some own
same_count own count true same is = refl
same_count own count false same is = grind (arith, nat_tests)

-- what is said of the clock of the design at hand, or of that of files
pub record IsFittingFor (shown : Option Design) (from : Source) (files : List (List ℕ)) (t : Timing) (clock : Clock) : Type 0 where
  pub value : IsClockFor shown from files t clock
  pub limits : KeepsLimits clock
  pub alike : length clock.phases ≡ phase_count t.flat

-- what was read keeps its limits
keeps_in : (files : List (List ℕ)) (from : Source) (read : Option Clock) → ClocksKeepLimits → IsClockIn from files read → IfSome read KeepsLimits
keeps_in files Table read keep is = subst (λ (r : Option Clock). IfSome r KeepsLimits) (sym is) tt
keeps_in files Files None keep is = tt
keeps_in files Files (Some own) keep is = keep (file_at files 3) own is
keeps_in files Liberty None keep is = tt
keeps_in files Liberty (Some own) keep is = keep (file_at files 3) own is

-- In a run with these limits.
module _ (most : Most) (from : Source) (files : List (List ℕ)) (t : Timing) (clock : Clock) where
  -- the clock of the design that files give has as many phases
  own_phases : (read : Option Clock) → ClocksKeepLimits → ClocksAreDetermined → ClocksAreNotRefused → Gives most from files t → IsClockIn from files read → of_phases (phase_count t.flat) read ≡ read
  own_phases None keep same not gives is = refl
  own_phases (Some own) keep same not gives is =
      let fits = clock_fits most from files t (Some own) own keep same not gives is (λ none. absurd (cc none)) refl in
      same_count own (phase_count t.flat) (length own.phases == phase_count t.flat) fits.alike refl

  by_names : (clock ≡ named_clock t.flat.phases) → length clock.phases ≡ phase_count t.flat
  by_names own = ap (λ (x : Clock). length x.phases) own ∙ length-map t.flat.phases named_phase

  by_count : (own : Clock) (b : Bool) → (length own.phases == phase_count t.flat) ≡ b → KeepsLimits own → IsChosen t (cond b (Some own) None) clock →
      ((cond b (Some own) None) ≡ None → KeepsLimits clock) → KeepsLimits clock × (length clock.phases ≡ phase_count t.flat)
  by_count own true is keeps chosen limits =
      (subst KeepsLimits (sym chosen) keeps, ap (λ (x : Clock). length x.phases) chosen ∙ eqb-true (length own.phases) (phase_count t.flat) is)
  by_count own false is keeps chosen limits = (limits refl, by_names chosen)

  fits : (read : Option Clock) → IfSome read KeepsLimits → IsChosen t (of_phases (phase_count t.flat) read) clock → (of_phases (phase_count t.flat) read ≡ None → KeepsLimits clock) →
      KeepsLimits clock × (length clock.phases ≡ phase_count t.flat)
  fits None keeps chosen limits = (limits refl, by_names chosen)
  fits (Some own) keeps chosen limits = by_count own (length own.phases == phase_count t.flat) refl keeps chosen limits

  pub clock_for : (shown : Option Design) (read : Option Clock) → ClocksKeepLimits → ClocksAreDetermined → ClocksAreNotRefused → IsSystemFor most shown from files t → IsClockIn from files read →
      (of_phases (phase_count t.flat) read ≡ None → KeepsLimits clock) → IsChosen t (of_phases (phase_count t.flat) read) clock → IsFittingFor shown from files t clock
  clock_for None read keep same not gives is limits chosen =
      let own = own_phases read keep same not gives is in
      let h = clock_fits most from files t read clock keep same not gives is (subst (λ (r : Option Clock). r ≡ None → KeepsLimits clock) own limits)
      (subst (λ (r : Option Clock). IsChosen t r clock) own chosen) in
      record { value = h.value; limits = h.limits; alike = h.alike }
  clock_for (Some design) read keep same not gives is limits chosen =
      let h = fits read (keeps_in files from read keep is) chosen limits in
      record { value = (read, is, chosen); limits = h.0; alike = h.1 }
