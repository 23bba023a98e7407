-- The command line, as clap's `specs/Simple.antt` writes one.
use Rattle.std.specs.Prelude.{◌≡◌, Bool, true, false, List, [], ◌∷◌, map, fold, Some, codes, if◌then◌else◌}
use Rattle.clap.specs.Words.{App, Rule, Text, new_app, new_rule, with_rule, with_subcommand}
use Rattle.clap.specs.declared.builder.action.ArgAction.TheVariants.{Append, SetTrue}
use Rattle.clap.specs.declared.builder.value_parser.ValueParser.TheVariants as parser
use Rattle.std.specs.Borrow.{Bor}
use Rattle.mintcx_requests.specs.declared.commands.Asked.{Asked}
use Rattle.mintcx_requests.specs.declared.commands.Asked.TheVariants.{Check, Optimise, Verify, Slack, Schedule}
use Rattle.mintcx_requests.specs.declared.commands.Asked.TheVariants.{Sdc, Draw, Explain}
use Rattle.mintcx_words.specs.declared.command_line.Choices.{Choices}
use Rattle.mintcx_requests.specs.Commands.{commands, has_rows, has_table, word_of}

-- ---- arguments

-- an option with one value, read back by its long name
abbrev pub option_rule : Text → Rule
option_rule name = record (new_rule name) { long = Some name; value_names = 1 }

-- an option that may be used several times
abbrev pub list_rule : Text → Rule
list_rule name = record (option_rule name) { action = Some Append }

-- an option without a value, set or not
abbrev pub flag_rule : Text → Rule
flag_rule name = record (new_rule name) { long = Some name; action = Some SetTrue }

-- an option with one of some words
abbrev pub word_rule : Text → Bor (List (Bor Text)) → Rule
word_rule name words = record (option_rule name) { parser = Some (parser.Names words) }

-- the same, with the word that stands where the option isn't given
abbrev pub choice_rule : Text → Text → Bor (List (Bor Text)) → Rule
choice_rule name default words =
    record (option_rule name) { defaults = default ∷ []; parser = Some (parser.Names words) }

-- what a command is about
abbrev pub subject_rule : Bool → Rule
subject_rule required = record (new_rule (codes "subject")) { value_names = 1; required = required }

-- ---- the options of a design, of an answer, and of a command alone

-- the delay files: one, and for corners several
abbrev pub delays_rule : Asked → Rule
delays_rule asked = if has_table asked then option_rule (codes "sdf") else list_rule (codes "sdf")

-- the options that name a design, but for the last
abbrev pub front_rules : Asked → List Rule
front_rules asked = record (option_rule (codes "project")) { short = Some 112 } ∷ option_rule (codes "netlist")
    ∷ delays_rule asked ∷ option_rule (codes "cells")
    ∷ option_rule (codes "lib") ∷ list_rule (codes "clock-cell") ∷ option_rule (codes "clock") ∷ []

-- the options of how delays are taken, and edges
abbrev pub taking_rules : Choices → List Rule
taking_rules words = word_rule (codes "edges") words.edges ∷ flag_rule (codes "clamp-negative") ∷ []

-- the last options that name a design
abbrev pub back_rules : Choices → Asked → List Rule
back_rules words asked =
    if has_table asked then option_rule (codes "table") ∷ taking_rules words else taking_rules words

-- the options of the answer's form and unit
abbrev pub form_rules : Choices → List Rule
form_rules words = choice_rule (codes "format") (codes "text") words.formats
    ∷ choice_rule (codes "unit") (codes "auto") words.units ∷ []

-- the option of the answer's rows, where it has some
abbrev pub limit_rules : Asked → List Rule
limit_rules asked =
    if has_rows asked then record (option_rule (codes "limit")) { defaults = codes "10" ∷ [] } ∷ [] else []

-- the other options of the answer
abbrev pub output_rules : Choices → List Rule
output_rules words = record (option_rule (codes "output")) { short = Some 111 }
    ∷ record (flag_rule (codes "quiet")) { short = Some 113 }
    ∷ choice_rule (codes "errors") (codes "full") words.errors
    ∷ choice_rule (codes "color") (codes "auto") words.colors ∷ []

-- what a command alone takes
abbrev pub own_rules : Asked → List Rule
own_rules Check = subject_rule true ∷ []
own_rules Optimise = option_rule (codes "certificate") ∷ option_rule (codes "cycle") ∷ []
own_rules Verify = subject_rule true ∷ []
own_rules Slack = flag_rule (codes "histogram") ∷ []
own_rules Schedule = subject_rule false ∷ option_rule (codes "cycle") ∷ []
own_rules Sdc = subject_rule true ∷ []
own_rules Draw = subject_rule false ∷ record (flag_rule (codes "histogram")) { long = Some (codes "slack") } ∷ []
own_rules Explain = subject_rule true ∷ []
own_rules _ = []

-- ---- the commands, and the program

-- other words for a command
abbrev pub aliases_of : Asked → List Text
aliases_of Optimise = codes "optimize" ∷ []
aliases_of _ = []

-- a command before its arguments
abbrev pub bare : Asked → App
bare asked = record { top = record (new_app (word_of asked)).top { aliases = aliases_of asked }; subs = [] }

-- a command with some more arguments
abbrev pub with_rules : App → List Rule → App
with_rules a rules = fold with_rule a rules

-- a command with the options of a design
abbrev pub with_design : Choices → App → Asked → App
with_design words a asked = with_rules (with_rules a (front_rules asked)) (back_rules words asked)

-- a command with the options of an answer
abbrev pub with_answer : Choices → App → Asked → App
with_answer words a asked =
    with_rules (with_rules (with_rules a (form_rules words)) (limit_rules asked)) (output_rules words)

-- a command with the options that most have; an explanation needs none
abbrev pub common : Choices → Asked → App
common words Explain = bare Explain
common words asked = with_answer words (with_design words (bare asked) asked) asked

-- one of the commands
abbrev pub command_of : Choices → Asked → App
command_of words asked = with_rules (common words asked) (own_rules asked)

-- the program before its commands
abbrev pub bare_program : App
bare_program = record {
  top = record (new_app (codes "mintcx")).top {
    has_version = true;
    subcommand_required = true;
    arg_required_else_help = true;
  };
  subs = [];
}

-- the program with one more command
abbrev pub with_command : Choices → App → Asked → App
with_command words a asked = with_subcommand a (command_of words asked).top

-- the program, where options take the words of these lists
abbrev pub program_of : Choices → App
program_of words = fold (with_command words) bare_program commands

-- ---- the words that some options take

-- the texts behind references
abbrev pub texts : Bor (List (Bor Text)) → List Text
texts words = map (λ w. w.now) words.now

pub record HasWords (words : Choices) : Type 0 where
  pub formats : texts words.formats ≡ codes "text" ∷ codes "plain" ∷ codes "json" ∷ codes "csv" ∷ []
  pub units : texts words.units ≡ codes "auto" ∷ codes "fs" ∷ codes "ps" ∷ codes "ns" ∷ []
  pub edges : texts words.edges ≡ codes "merged" ∷ codes "apart" ∷ []
  pub errors : texts words.errors ≡ codes "full" ∷ codes "short" ∷ []
  pub colors : texts words.colors ≡ codes "auto" ∷ codes "always" ∷ codes "never" ∷ []

-- the command line of mintcx
abbrev pub IsProgram : App → Type 0
IsProgram a = (words : Choices) × HasWords words × (a ≡ program_of words)
