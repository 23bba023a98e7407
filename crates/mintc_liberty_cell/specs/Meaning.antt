-- The cell of a group.
use Rattle.std.specs.Prelude.{ℕ, pos, Bool, true, false, not, ◌&&◌, ◌||◌, if◌then◌else◌, List, [], ◌∷◌, length, map}
use Rattle.std.specs.Prelude.{filter, flat_map, nat_le, Option, Some, None, is_some, option_map, codes, bytes_eq}
use Rattle.std.specs.List.{list_all}
use Rattle.std.specs.Option.{option_or}
use Rattle.mintc_toml.specs.Rules.{is_name}
use Rattle.mintc_cells.specs.declared.cell.Cell.{Cell}
use Rattle.mintc_cells.specs.declared.cell.Cell.TheVariants.{Gate, Latch, Flop, Clock}
use Rattle.mintc_cells.specs.Pins.{is_distinct}
use Rattle.mintc_cells.specs.Rules.{is_cell}
use Rattle.mintc_liberty_cell.specs.declared.pins.Role.{Role}
use Rattle.mintc_liberty_cell.specs.declared.pins.Role.TheVariants as role
use Rattle.mintc_liberty_tokens.specs.Tokens.{Token, word, string, names_in, bytes_of}
use Rattle.mintc_liberty_tokens.specs.Statements.{Statements, none, more, attribute, plain, group}
use Rattle.mintc_liberty_cell.specs.Expressions.{Literal, expression, is_among}

-- What stands directly among statements

-- the value of the last attribute of a name
abbrev pub last_value : List ℕ → Statements → Option (List ℕ)
last_value k none = None
last_value k (more (attribute w v) is) = option_or (last_value k is) (if bytes_eq w k then Some (flat_map bytes_of v)
    else None)
last_value k (more (plain w ts) is) = last_value k is
last_value k (more (group w ts inner) is) = last_value k is

-- that value is this text
abbrev pub is_text : List ℕ → Option (List ℕ) → Bool
is_text t None = false
is_text t (Some v) = bytes_eq v t

-- whether the last attribute of a name has this value
abbrev pub says : List ℕ → List ℕ → Statements → Bool
says key text is = is_text text (last_value key is)

-- A group: its name, its items, and the statements inside.
pub record Group : Type 0 where
  pub name : List ℕ
  pub items : List Token
  pub inner : Statements

-- the groups among some statements
abbrev pub groups : Statements → List Group
groups none = []
groups (more (attribute w v) is) = groups is
groups (more (plain w ts) is) = groups is
groups (more (group w ts inner) is) = record { name = w; items = ts; inner = inner } ∷ groups is

-- the one item, if it is a name
abbrev pub only_name : List Token → Option (List ℕ)
only_name (word w ∷ []) = Some w
only_name (string s ∷ []) = Some s
only_name _ = None

-- Pins

-- A pin: its name, its role where its direction gives it one, and what is said of its function.
pub record Pin : Type 0 where
  pub name : List ℕ
  pub has : Option Role
  pub function : Option (List ℕ)

-- an input may be a clock
abbrev pub role_of : Statements → Option Role
role_of inner =
    if says (codes "direction") (codes "input") inner
    then Some (if says (codes "clock") (codes "true") inner then role.Clock else role.Input)
    else (if says (codes "direction") (codes "output") inner then Some role.Output
    else None)

-- a pin of these parts
abbrev pub pin_with : Option Role → Option (List ℕ) → List ℕ → Pin
pin_with has function name = record { name = name; has = has; function = function }

-- the pin of a name, by the statements of its group
abbrev pub pin_of : Statements → List ℕ → Pin
pin_of inner name = pin_with (role_of inner) (last_value (codes "function") inner) name

-- the pins of a group, but for those inside the cell
abbrev pub pins_of : Group → List Pin
pins_of g =
    if bytes_eq g.name (codes "pin") && not (says (codes "direction") (codes "internal") g.inner)
    then map (pin_of g.inner) (names_in g.items)
    else []

-- the pins of some groups
abbrev pub pins_in : List Group → List Pin
pins_in gs = flat_map pins_of gs

-- whether a pin of one role is one of another: a clock is an input
abbrev pub is_as : Role → Role → Bool
is_as role.Input role.Input = true
is_as role.Input role.Clock = true
is_as role.Clock role.Clock = true
is_as role.Output role.Output = true
is_as _ _ = false

-- whether a pin has a role
abbrev pub has_role : Role → Option Role → Bool
has_role r None = false
has_role r (Some s) = is_as r s

-- the pins of a role
abbrev pub with_role : Role → List Pin → List Pin
with_role r ps = filter (λ p. has_role r p.has) ps

-- the names of pins
abbrev pub names : List Pin → List (List ℕ)
names ps = map (λ p. p.name) ps

-- the names of the inputs, clocks among them
abbrev pub inputs : List Pin → List (List ℕ)
inputs ps = names (with_role role.Input ps)

-- the names of the outputs
abbrev pub outputs : List Pin → List (List ℕ)
outputs ps = names (with_role role.Output ps)

-- a pin is an input or an output, and its name is one
abbrev pub is_pin : Pin → Bool
is_pin p = is_name p.name && is_some p.has

-- no more pins than a gate may have
abbrev pub fits : List Pin → Bool
fits ps = nat_le (length ps) 80 && list_all is_pin ps

-- and none comes twice
abbrev pub are_pins : List Pin → Bool
are_pins ps = fits ps && is_distinct (names ps)

-- the names that are none of two
abbrev pub others : List ℕ → List ℕ → List (List ℕ) → List (List ℕ)
others a b ns = filter (λ n. not (bytes_eq n a || bytes_eq n b)) ns

-- Latches and flops

-- a control pin, plain or inverted, and the name of another pin for the data
abbrev pub stored : Option Literal → Option Literal → Option (Literal × List ℕ)
stored (Some control) (Some value) = if bytes_eq control.0 value.0 then None else Some (control, value.0)
stored _ _ = None

-- what two attributes of a group say of the inputs
abbrev pub stores : List Pin → List ℕ → List ℕ → Statements → Option (Literal × List ℕ)
stores ps control value inner = stored (expression (inputs ps) (last_value control inner))
    (expression (inputs ps) (last_value value inner))

-- the latch of a control pin and a data pin, without numbers
abbrev pub latch_by : List Pin → Literal × List ℕ → Cell
latch_by ps s = Latch s.1 s.0.0 s.0.1 (outputs ps) (others s.1 s.0.0 (inputs ps)) (pos 0) (pos 0) false (pos 0) (pos 0)
    (pos 0) (pos 0) false (pos 0)

-- the flop of a control pin and a data pin, without numbers
abbrev pub flop_by : List Pin → Literal × List ℕ → Cell
flop_by ps s = Flop s.1 s.0.0 s.0.1 (outputs ps) (others s.1 s.0.0 (inputs ps)) (pos 0) (pos 0) false (pos 0) (pos 0)
    (pos 0)

-- Clock cells and gates

-- the only one
abbrev pub only : {A : Type 0} → List A → Option A
only (x ∷ []) = Some x
only _ = None

-- the output's function is an expression over the clock
abbrev pub clocked : List (List ℕ) → List ℕ → List ℕ → Option Literal → Option Cell
clocked ins clock output (Some l) = if bytes_eq l.0 clock
    then Some (Clock clock output (not l.1) (others clock clock ins)) else None
clocked ins clock output None = None

-- the clock cell of one clock and one output, if it is one
abbrev pub clock_by : List Pin → Option Pin → Option Pin → Option Cell
clock_by ps (Some clock) (Some output) = clocked (inputs ps) clock.name output.name
    (expression (inputs ps) output.function)
clock_by ps _ _ = None

-- the gate of some pins, without numbers
abbrev pub gate_by : List Pin → Cell
gate_by ps = Gate (inputs ps) (outputs ps) (pos 0) (pos 0)

-- a cell, or the gate where there is none
abbrev pub or_gate : List Pin → Option Cell → Cell
or_gate ps (Some cell) = cell
or_gate ps None = gate_by ps

-- the clock cell of just one clock and one output, or else the gate
abbrev pub stateless : List Pin → Cell
stateless ps = or_gate ps (clock_by ps (only (with_role role.Clock ps)) (only (with_role role.Output ps)))

-- Cells

-- what keeps a state
abbrev pub keeping : List (List ℕ)
keeping = codes "latch" ∷ codes "ff" ∷ codes "statetable" ∷ codes "latch_bank" ∷ codes "ff_bank" ∷ []

-- the groups that keep a state
abbrev pub keepers : List Group → List Group
keepers gs = filter (λ g. is_among keeping g.name) gs

-- the latch or flop of a group that keeps a state
abbrev pub keeper_by : List Pin → Group → Option Cell
keeper_by ps g =
    if bytes_eq g.name (codes "latch")
    then option_map (latch_by ps) (stores ps (codes "enable") (codes "data_in") g.inner)
    else (if bytes_eq g.name (codes "ff")
    then option_map (flop_by ps) (stores ps (codes "clocked_on") (codes "next_state") g.inner)
    else None)

-- the cell of some pins, where at most one group keeps a state
abbrev pub by_keepers : List Pin → List Group → Option Cell
by_keepers ps [] = Some (stateless ps)
by_keepers ps (g ∷ []) = keeper_by ps g
by_keepers ps _ = None

-- a cell within the rules of a cell description
abbrev pub kept : Option Cell → Option Cell
kept None = None
kept (Some cell) = if is_cell cell then Some cell else None

-- no pins of several bits
abbrev pub is_plain : List Group → Bool
is_plain gs = list_all (λ g. not (is_among (codes "bus" ∷ codes "bundle" ∷ []) g.name)) gs

-- the cell of a group's groups and pins, None where it is passed over
abbrev pub cell_by : List Group → Option Cell
cell_by gs = if is_plain gs && are_pins (pins_in gs) then kept (by_keepers (pins_in gs) (keepers gs)) else None

-- the cell of the statements in its group
abbrev pub cell_of : Statements → Option Cell
cell_of inner = cell_by (groups inner)
