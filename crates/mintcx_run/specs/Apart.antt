-- The design with edges apart of an order of four files, and a table in their place.
use Rattle.std.specs.Prelude.{◌⊎◌, ◌++◌, ◌∷◌, Bool, true, false, List, take, drop}
use Rattle.mintc_text.specs.Limits.{large}
use Rattle.mintc_timing.specs.Design.{Design}
use Rattle.mintc_command_answers.specs.Commands.{roles_of}
use Rattle.mintc_command_answers.specs.Sources.{AreShort, IsLengthRefusal}
use Rattle.mintc_command_answers.specs.declared.command.Command.{Command}
use Rattle.mintc_command_answers.specs.declared.command.Command.TheVariants.{OfDesign}
use Rattle.mintc_command_answers.specs.declared.command.Source.TheVariants as source
use Rattle.mintcx_apart.specs.Apart.{IsDesignApart, IsHaltApart}
use Rattle.mintcx_edges.specs.declared.halt.Halt.{Halt}
use Rattle.mintcx_edges.specs.declared.halt.Halt.TheVariants as halt
use Rattle.mintcx_requests.specs.Requests.{Text}
use Rattle.mintcx_run.specs.declared.orders.Order.{Order}

-- the cells of a command are those of a library, which is described for it or not
abbrev pub is_of_library : Command → Bool → Bool
is_of_library (OfDesign job source.Liberty) described = true
is_of_library command described = described

-- what an order's cells are: those of a library
abbrev pub has_library : Order → Bool
has_library order = is_of_library order.call.command order.call.of_library

-- the first of the names of four files, and those behind them
abbrev pub lone : {X : Type 0} → List X → List X
lone names = take 1 names ++ drop 4 names

-- a text in the place of the first four
abbrev pub in_place : Text → List Text → List Text
in_place text texts = text ∷ drop 4 texts

-- a command, asked of a table
abbrev pub on_table : Command → Command
on_table (OfDesign job from) = OfDesign job source.Table
on_table command = command

-- An order of four files, asked of a table in their place, which goes by the name of the netlist.
abbrev pub of_table : Order → Order
of_table order = record {
  call = record {
    command = on_table order.call.command;
    aspect = order.call.aspect;
    of_library = false;
    gates = order.call.gates;
    clamp = order.call.clamp;
    apart = order.call.apart;
    files = lone order.call.files;
    certificate = order.call.certificate;
  };
  manner = order.manner;
}

-- the first text that is too long is told, of all texts of an order
abbrev pub IsLongHalt : Order → List Text → Halt → Type 0
IsLongHalt order taken (halt.Refused refused) = IsLengthRefusal large (roles_of order.call.command) taken refused
IsLongHalt order taken why = ⊥

-- The design with edges apart of what is taken of the files of an order, of which none is too long.
abbrev pub IsMade : Order → List Text → Design → Type 0
IsMade order taken design = AreShort large taken
    × IsDesignApart large (has_library order) order.call.gates taken design

-- Why there is none: a text is too long, or so it is of the design.
abbrev pub IsUnmade : Order → List Text → Halt → Type 0
IsUnmade order taken why = IsLongHalt order taken why
    ⊎ (AreShort large taken × IsHaltApart large (has_library order) order.call.gates taken why)
