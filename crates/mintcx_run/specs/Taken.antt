-- What is taken of the files of a call.
use Rattle.std.specs.Prelude.{◌≡◌, ◌≤◌, ◌<◌, ◌⊎◌, ℕ, Bool, true, false, ◌&&◌, List, length, slice_index_or}
use Rattle.mintc_text.specs.declared.limits.TheConstants.{MOST_BYTES}
use Rattle.mintc_text.specs.declared.refusals.Role.{Role}
use Rattle.mintc_text.specs.declared.refusals.Role.TheVariants as role
use Rattle.mintc_command_answers.specs.Commands.{roles_of}
use Rattle.mintc_command_answers.specs.Sources.{file_at}
use Rattle.mintcx_clamp.specs.Clamping.{HasClamped, IsBelow}
use Rattle.mintcx_requests.specs.Requests.{Text}
use Rattle.mintcx_run.specs.declared.orders.Order.{Order}

-- A text of delays that is refused for a number below 0, and one with 0 for such numbers: what is read of that are its
-- delays so, and it isn't refused for one.
pub record IsClamped (front taken : Text) : Type 0 where
  pub short : length front ≤ MOST_BYTES
  pub below : IsBelow front
  pub has : HasClamped front taken
  pub left : IsBelow taken → ⊥

-- a file is taken as it is; or, where that is asked, it may be clamped
abbrev pub IsTaken : Bool → Text → Text → Type 0
IsTaken false front taken = taken ≡ front
IsTaken true front taken = (taken ≡ front) ⊎ IsClamped front taken

-- delays are in a file
abbrev pub are_delays : Role → Bool
are_delays role.Delays = true
are_delays other = false

-- 0 is asked for in the place of delays below 0 of a file, by its number from 0 on
abbrev pub is_asked : Order → ℕ → Bool
is_asked order at = order.call.clamp && are_delays (slice_index_or (roles_of order.call.command) at role.Netlist)

-- Each file is taken as it is; or, of delays and where that is asked, it may be clamped.
pub record AreTaken (order : Order) (fronts taken : List Text) : Type 0 where
  pub count : length taken ≡ length fronts
  pub each : (at : ℕ) → at < length fronts → IsTaken (is_asked order at) (file_at fronts at) (file_at taken at)
