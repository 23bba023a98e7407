-- The widest pulses on a phase, one element after another.
use Rattle.std.proofs.Common.{◌≡◌, ℕ, ◌+◌, ◌==◌, Bool, true, false, Option, Some, None, [], ◌∷◌, if◌then◌else◌, arith, ap, ◌∙◌}
use Rattle.std.proofs.lemmas.Bool.Decides.{nat_tests}
use Rattle.std.proofs.lemmas.Grind.{fold-append}
use Rattle.std.specs.List.{range_with_len}
use Rattle.mintc_timing.specs.Design.{Design, phase_of}
use Rattle.mintcx_judgements.specs.Rules.{wider_of, widest_on}
use Rattle.mintcx_judgements.proofs.CauseLaws.{range_more}

module _ (design : Design) (p k : ℕ) where
  abbrev so_far : Option ℕ
  so_far = widest_on design p (range_with_len 0 k)

  abbrev one_more : Option ℕ
  one_more = widest_on design p (range_with_len 0 (k + 1))

  step_is : one_more ≡ (if phase_of design k == p then wider_of design so_far k else so_far)
  step_is =
      ap (widest_on design p) (range_more k)
      ∙ fold-append (λ best l. if phase_of design l == p then wider_of design best l else best) None (range_with_len 0 k) (k ∷ [])

  -- the element is on the phase
  pub widest_here : (b : Bool) → (phase_of design k == p) ≡ b → phase_of design k ≡ p → one_more ≡ wider_of design so_far k
  widest_here true e h = step_is ∙ ap (λ (c : Bool). if c then wider_of design so_far k else so_far) e
  widest_here false e h = absurd (grind (arith, nat_tests))

  -- it is on another
  pub widest_there : (b : Bool) → (phase_of design k == p) ≡ b → (phase_of design k ≡ p → ⊥) → one_more ≡ so_far
  widest_there true e h = absurd (h (grind (arith, nat_tests)))
  widest_there false e h = step_is ∙ ap (λ (c : Bool). if c then wider_of design so_far k else so_far) e
