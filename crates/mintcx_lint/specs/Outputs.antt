-- Listed outputs on a phase of flops. An output is due where its phase ends, and data of flops departs where it starts:
-- so it may come a cycle and the phase's width later.
use Rattle.std.specs.Prelude.{◌==◌, ℕ, ◌+◌, Bool, not, ◌&&◌, List, [], ◌∷◌, ◌++◌, take, if◌then◌else◌}
use Rattle.std.specs.List.{list_any}
use Rattle.mintc_clock.specs.declared.clock.Listed.{Listed}
use Rattle.mintc_timing.specs.Design.{Design}

-- Whether there are flops on a phase and no latches, among so many of the first elements: some element is on it, and
-- none that is on it is no flop.
abbrev pub has_flops_alone : Design → ℕ → ℕ → Bool
has_flops_alone d storage phase = list_any (λ e. e.phase == phase) (take storage d.elements)
    && not (list_any (λ e. (e.phase == phase) && not e.flop) (take storage d.elements))

-- the number of a listed port, where that is on a phase
abbrev pub on_phase : ℕ → ℕ → Listed → List ℕ
on_phase phase number listed = if listed.phase == phase then number ∷ [] else []

-- the numbers of those listed ports that are on a phase, counted on from a number
abbrev pub numbers_on : ℕ → ℕ → List Listed → List ℕ
numbers_on phase number [] = []
numbers_on phase number (l ∷ ls) = on_phase phase number l ++ numbers_on phase (number + 1) ls

-- the numbers of the listed outputs on a phase, where there are flops on it and no latches
abbrev pub late_outputs : Design → ℕ → List Listed → ℕ → List ℕ
late_outputs d storage outputs phase =
    if has_flops_alone d storage phase then numbers_on phase 1 outputs else []
