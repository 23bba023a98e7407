-- The lines of a schedule lead through its states, in whatever text they stand.
use Rattle.std.proofs.Common.{◌≡◌, ℕ, suc, ℤ, List, [], ◌∷◌, ◌++◌, length, map, All, refl, ap, ◌∙◌, sym, subst, arith, append_assoc}
use Rattle.std.proofs.lemmas.List.{append-nil}
use Rattle.std.proofs.lemmas.List.Elements.{All-head, All-tail}
use Rattle.std.specs.List.{zip}
use Rattle.mintc_text.specs.Lines.{Follows}
use Rattle.mintc_timing.specs.declared.clocking.Schedule.{Schedule}
use Rattle.mintc_timing.specs.Limits.{IsNumerator, IsInRange}
use Rattle.mintc_timing_text.specs.LineForms.{phase_line, schedule_lines}
use Rattle.mintc_timing_text.specs.Texts.{NextOfSchedule, ScheduleLines, den, cycle, phases, phase, schedule_of, no_phases}

module _ {S : Type 0} (next : S → List ℕ → S → Type 0) (within : ScheduleLines → S) (beyond : Schedule → List ℕ → S → Type 0)
    (leads : (lines : ScheduleLines) (line : List ℕ) (after : S) → NextOfSchedule within beyond lines line after → next (within lines) line after) where
  abbrev Leads : S → List (List ℕ) → S → Type 0
  Leads a lines b = Follows next a lines b

  phases_written : (d t : ℤ) (so wo xs ys : List ℤ) → length ys ≡ length xs → All IsNumerator xs → All IsNumerator ys →
      Leads (within (phase (length xs) (schedule_of d t so wo))) (map phase_line (zip xs ys)) (within (phase 0 (schedule_of d t (so ++ xs) (wo ++ ys))))
  phases_written d t so wo [] [] same h g = ap (λ (x : List ℤ). within (phase 0 (schedule_of d t x wo))) (sym (append-nil so)) ∙ ap (λ (x : List ℤ). within (phase 0 (schedule_of d t (so ++ []) x))) (sym (append-nil wo))
  phases_written d t so wo [] (y ∷ ys) same h g = absurd (omega (arith, same))
  phases_written d t so wo (x ∷ xs) [] same h g = absurd (omega (arith, same))
  phases_written d t so wo (x ∷ xs) (y ∷ ys) same h g =
      let rest = phases_written d t (so ++ x ∷ []) (wo ++ y ∷ []) xs ys (omega (arith, same)) (All-tail IsNumerator x xs h) (All-tail IsNumerator y ys g) in
      let starts = append_assoc so (x ∷ []) xs in
      let widths = append_assoc wo (y ∷ []) ys in
      let R : List ℤ → List ℤ → Type 0 = λ a b. Leads (within (phase (length xs) (schedule_of d t (so ++ x ∷ []) (wo ++ y ∷ [])))) (map phase_line (zip xs ys)) (within (phase 0 (schedule_of d t a b))) in
      let one = subst (λ (a : List ℤ). R a ((wo ++ y ∷ []) ++ ys)) starts rest in
      let all = subst (λ (b : List ℤ). R (so ++ x ∷ xs) b) widths one in (
        within (phase (length xs) (schedule_of d t (so ++ x ∷ []) (wo ++ y ∷ []))),
        leads _ _ _ ((x, y), (_, (All-head IsNumerator x xs h, All-head IsNumerator y ys g, refl), refl), refl),
        all,
      )

  pub schedule_written : (s : Schedule) → IsInRange s → Leads (within den) (schedule_lines s) (within (phase 0 s))
  schedule_written s h = (
    within (cycle s.den),
    leads _ _ _ (s.den, (_, (h.den, refl), refl), refl),
    (
      within (phases s.den s.cycle),
      leads _ _ _ (s.cycle, (_, (h.cycle, refl), refl), refl),
      (
        within (phase (length s.starts) (no_phases s.den s.cycle)),
        leads _ _ _ (length s.starts, (_, (h.phases.0, h.phases.1, refl), refl), refl),
        phases_written s.den s.cycle [] [] s.starts s.widths h.alike h.starts h.widths,
      ),
    ),
  )
