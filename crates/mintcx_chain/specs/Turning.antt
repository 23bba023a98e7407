-- Where a chain begins.
use Rattle.std.specs.Prelude.{◌≡◌, ◌<◌, ◌-◌, ◌*◌, ℕ, ℤ, pos, Bool, ◌||◌, if◌then◌else◌, nat_le, nat_lt, int_lt, List}
use Rattle.std.specs.Prelude.{◌++◌}
use Rattle.std.specs.Prelude.{length, take, drop, slice_index_or, All, IsFalse}
use Rattle.std.specs.Ordering.{int_eq}
use Rattle.mintc_timing.specs.declared.link.LinkKind.TheVariants.{Other}
use Rattle.mintc_timing.specs.Design.{Design, phase_count}
use Rattle.mintc_timing.specs.Departures.{departure}
use Rattle.mintcx_chain.specs.declared.stages.Stage.{Stage}
use Rattle.mintcx_chain.specs.declared.stages.Why.TheVariants.{Rule}

-- when an element departs, by its node; time 0, starts and ends have 0
abbrev pub moment_of : Design → List ℤ → ℕ → ℤ
moment_of design d n = if nat_le n (2 * phase_count design) then pos 0 else departure d (n - 2 * phase_count design - 1)

-- A chain begins at one node sooner than at another: at time 0, then at the start and the end of each phase in turn,
-- then at the element that departs sooner, and of several at that of the lesser number.
abbrev pub comes_before : Design → List ℤ → ℕ → ℕ → Bool
comes_before design d a b =
    if nat_le a (2 * phase_count design) || nat_le b (2 * phase_count design)
    || int_eq (moment_of design d a) (moment_of design d b)
    then nat_lt a b
    else int_lt (moment_of design d a) (moment_of design d b)

-- what stands for a stage past the end
abbrev pub no_stage : Stage
no_stage = record { from = 0; to = 0; delay = pos 0; cycles = 0; why = Rule (Other 0) }

-- the stage of a number
abbrev pub stage_at : List Stage → ℕ → Stage
stage_at stages n = slice_index_or stages n no_stage

-- of two stages by their numbers the one at which a chain begins sooner, the first of them where neither does
abbrev pub sooner : Design → List ℤ → List Stage → ℕ → ℕ → ℕ
sooner design d stages first other =
    if comes_before design d (stage_at stages other).from (stage_at stages first).from then other else first

-- No stage leads from a node that comes before that of stage n.
pub record IsBeginning (design : Design) (d : List ℤ) (stages : List Stage) (n : ℕ) : Type 0 where
  pub there : n < length stages
  pub first : All (λ (k : Stage). IsFalse (comes_before design d k.from (stage_at stages n).from)) stages

-- a ring from its n-th item round to it
abbrev pub turned : {X : Type 0} → ℕ → List X → List X
turned n ring = drop n ring ++ take n ring

-- The stages are turned to their beginning.
abbrev pub HasTurned : Design → List ℤ → List Stage → List Stage → Type 0
HasTurned design d stages result = (n : ℕ) × IsBeginning design d stages n × (result ≡ turned n stages)
