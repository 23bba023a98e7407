-- A step that is taken several times.
use Rattle.std.specs.Prelude.{ℕ, zero, suc, Option, Some}
use Rattle.std.specs.Option.{option_and_then}

-- what is left after so many turns of a step, and None where one of them can't be taken
abbrev pub after_turns : {A : Type 0} → (A → Option A) → ℕ → A → Option A
after_turns step zero a = Some a
after_turns step (suc n) a = option_and_then (after_turns step n) (step a)
