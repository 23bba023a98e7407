-- The texts of the two latches by computation.
use Rattle.std.proofs.Common.{ℕ, pos, List, [], ◌∷◌, codes, decimal, refl, arith}
use Rattle.std.proofs.lemmas.Int.{ints}
use Rattle.std.specs.Fmt.{digits}
use Rattle.mintc_text.specs.Lines.{text_of}
use Rattle.mintc_timing_text.specs.Texts.{IsScheduleText, IsScheduleFault, first, body, den, cycle, phases, phase, whole, no_phases, with_phase}
use Rattle.mintc_timing_text.proofs.SharedTextLaws.{no_line}
use Rattle.mintc_timing.specs.Worked.{of_100}

abbrev pub text_100 : List ℕ
text_100 = text_of (codes "schedule 1" ∷ codes "den 1" ∷ codes "cycle 100" ∷ codes "phases 2" ∷ codes "phase 0 10" ∷ codes "phase 10 30" ∷ codes "end" ∷ [])

pub schedule_text_100 : IsScheduleText text_100 of_100
unfolding digits
schedule_text_100 = record {
  lines = codes "schedule 1" ∷ codes "den 1" ∷ codes "cycle 100" ∷ codes "phases 2" ∷ codes "phase 0 10" ∷ codes "phase 10 30" ∷ codes "end" ∷ [];
  whole = refl;
  follows = (
    body den,
    (1, (codes "schedule" ∷ decimal 1 ∷ [], (omega arith, omega arith, refl), refl), refl),
    (
      body (cycle (pos 1)),
      (pos 1, (codes "den" ∷ decimal 1 ∷ [], ((omega (arith, ints), omega (arith, ints)), refl), refl), refl),
      (
        body (phases (pos 1) (pos 100)),
        (pos 100, (codes "cycle" ∷ decimal 100 ∷ [], ((omega (arith, ints), omega (arith, ints)), refl), refl), refl),
        (
          body (phase 2 (no_phases (pos 1) (pos 100))),
          (2, (codes "phases" ∷ decimal 2 ∷ [], (omega arith, omega arith, refl), refl), refl),
          (
            body (phase 1 (with_phase (no_phases (pos 1) (pos 100)) (pos 0, pos 10))),
            ((pos 0, pos 10), (codes "phase" ∷ decimal 0 ∷ decimal 10 ∷ [], ((omega (arith, ints), omega (arith, ints)), (omega (arith, ints), omega (arith, ints)), refl), refl), refl),
            (
              body (phase 0 of_100),
              ((pos 10, pos 30), (codes "phase" ∷ decimal 10 ∷ decimal 30 ∷ [], ((omega (arith, ints), omega (arith, ints)), (omega (arith, ints), omega (arith, ints)), refl), refl), refl),
              (whole of_100, (tt, (codes "end" ∷ [], refl, refl), refl), refl),
            ),
          ),
        ),
      ),
    ),
  );
}

pub empty_schedule_fault : IsScheduleFault [] 1
empty_schedule_fault = record {
  before = [];
  left = [];
  state = first;
  whole = refl;
  follows = refl;
  count = refl;
  stuck = λ line more after h g. no_line line more h;
  unfinished = λ e. absurd e;
}
