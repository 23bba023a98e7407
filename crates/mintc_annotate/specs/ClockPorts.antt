-- The ports that a clock names.
use Rattle.std.specs.Prelude.{◌≡◌, ℕ, Bool, true, false, ◌&&◌, List, ◌++◌, map, find, Option, Some, option_map, is_some}
use Rattle.std.specs.Prelude.{bytes_eq}
use Rattle.std.specs.Bool.{beq}
use Rattle.mintc_text.specs.declared.refusals.Refusal.{Refusal}
use Rattle.mintc_text.specs.declared.refusals.Refusal.TheVariants as refusal
use Rattle.mintc_text.specs.declared.refusals.Role.TheVariants as role
use Rattle.mintc_flatten_hierarchy.specs.declared.hierarchy.Hierarchy.{Hierarchy}
use Rattle.mintc_flatten_hierarchy.specs.declared.hierarchy.TopPort.{TopPort}
use Rattle.mintc_clock.specs.declared.clock.Clock.{Clock}
use Rattle.mintc_clock.specs.declared.clock.Listed.{Listed}
use Rattle.mintc_clock.specs.declared.clock.PhaseDef.{PhaseDef}
use Rattle.mintc_clock.specs.ClockOf.{first_failing}
use Rattle.mintc_annotate_resolve.specs.Pins.{all_names}
use Rattle.mintc_annotate_resolve.specs.Ports.{place_in, if_input}

-- the bit of a phase: of an input
abbrev pub phase_bit_in : List (List ℕ) → List TopPort → PhaseDef → Option ℕ
phase_bit_in names ports phase = if_input (place_in names ports phase.port)

-- the bits of a listed port, which is a whole port of its direction
abbrev pub listed_in : List TopPort → Bool → Listed → Option (List ℕ)
listed_in ports output listed = option_map (λ p. p.bits)
    (find (λ p. bytes_eq p.name listed.port && beq p.output output) ports)

-- which of the phases, the listed inputs and the listed outputs have their ports
abbrev pub has_phases_in : List (List ℕ) → List TopPort → List PhaseDef → List Bool
has_phases_in names ports phases = map (λ p. is_some (phase_bit_in names ports p)) phases

-- which of a clock's phases have their ports in a hierarchy
abbrev pub has_phases : Hierarchy → Clock → List Bool
has_phases h clock = has_phases_in (all_names h) h.ports clock.phases

-- which of some listed ports are there
abbrev pub has_listed_in : List TopPort → Bool → List Listed → List Bool
has_listed_in ports output listed = map (λ l. is_some (listed_in ports output l)) listed

-- which of the ports that a clock names are there: of phases, of inputs, of outputs
abbrev pub has_ports_in : List (List ℕ) → List TopPort → Clock → List Bool
has_ports_in names ports clock = has_phases_in names ports clock.phases ++ has_listed_in ports false clock.inputs
    ++ has_listed_in ports true clock.outputs

-- the same of the ports of a hierarchy
abbrev pub has_ports : Hierarchy → Clock → List Bool
has_ports h clock = has_ports_in (all_names h) h.ports clock

-- the number, from 1, of the first that has not
abbrev pub first_false : List Bool → Option ℕ
first_false tests = first_failing (λ test. test) 1 tests

-- NoInstance with an entry, if there is one
abbrev pub IsEntryRefusal : Option ℕ → Refusal → Type 0
IsEntryRefusal first (refusal.NoInstance role.Clock entry) = first ≡ Some entry
IsEntryRefusal first _ = ⊥

-- NoInstance with the first entry that has not its port
abbrev pub IsPortRefusal : List Bool → Refusal → Type 0
IsPortRefusal tests refused = IsEntryRefusal (first_false tests) refused
