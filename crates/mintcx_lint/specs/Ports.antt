-- Ports of the top of which a clock description says nothing.
use Rattle.std.specs.Prelude.{◌≡◌, ◌==◌, ℕ, nat_eq, Bool, true, false, not, ◌&&◌, ◌||◌, List, ◌∷◌, bytes_eq}
use Rattle.std.specs.Prelude.{filter, length, map}
use Rattle.std.specs.Prelude.{slice_index_or}
use Rattle.std.specs.Bool.{beq}
use Rattle.std.specs.List.{count_by, list_any, starts_with}
use Rattle.mintc_clock.specs.declared.clock.Clock.{Clock}
use Rattle.mintc_clock.specs.declared.clock.Listed.{Listed}
use Rattle.mintc_clock.specs.declared.clock.PhaseDef.{PhaseDef}
use Rattle.mintc_flatten_hierarchy.specs.declared.hierarchy.TopPort.{TopPort}
use Rattle.mintc_text_names.specs.Names.{is_among}
use Rattle.mintcx_lint.specs.declared.ports.Unlisted.{Unlisted}

-- whether a text names a bit of a port: it begins with the port's name, and an opening bracket is behind that
abbrev pub is_bit_of : List ℕ → List ℕ → Bool
is_bit_of port text = starts_with nat_eq text port && (slice_index_or text (length port) 0 == 91)

-- whether a phase comes on a port, or on a bit of it
abbrev pub is_on : List ℕ → PhaseDef → Bool
is_on port phase = bytes_eq phase.port port || is_bit_of port phase.port

-- the names of listed ports
abbrev pub names_of : List Listed → List (List ℕ)
names_of listed = map (λ l. l.port) listed

-- whether a clock description speaks of a port: a phase comes on it, or it is a listed input or output
abbrev pub is_named : Clock → List ℕ → Bool
is_named clock port = list_any (is_on port) clock.phases
    || (is_among port (names_of clock.inputs) || is_among port (names_of clock.outputs))

-- the ports that no phase and no list names, in their order
abbrev pub unlisted : List TopPort → Clock → List TopPort
unlisted ports clock = filter (λ p. not (is_named clock p.name)) ports

-- how many of some ports are outputs, or inputs
abbrev pub count_of : Bool → List TopPort → ℕ
count_of output ports = count_by (λ p. beq p.output output) ports

-- There are such ports: so many inputs, so many outputs, and the first of all has this name.
pub record IsUnlisted (ports : List TopPort) (clock : Clock) (found : Unlisted) : Type 0 where
  pub first : TopPort
  pub later : List TopPort
  pub are : unlisted ports clock ≡ first ∷ later
  pub name : found.first ≡ first.name
  pub inputs : found.inputs ≡ count_of false (unlisted ports clock)
  pub outputs : found.outputs ≡ count_of true (unlisted ports clock)
