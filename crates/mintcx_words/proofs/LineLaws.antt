-- How commands grow, and what a parse of the program gives.
use Rattle.std.proofs.Common.{◌≡◌, ◌∙◌, ℕ, Bool, true, false, ◌&&◌, ◌||◌, List, [], ◌∷◌, map, refl, ap, ap₂, subst}
use Rattle.std.proofs.Common.{Result, Ok, Err, IfOk, Bor, ◌++◌}
use Rattle.std.proofs.Common.{◌+◌, ◌<◌, ◌≤◌, length, drop, get_or, add-one, drop-cons}
use Rattle.std.proofs.lemmas.List.{drop_all, map-append}
use Rattle.std.specs.List.{fold}
use Rattle.clap.specs.Simple.{app_of_fields}
use Rattle.clap.specs.Words.{AddsArg, AddsCommandAliases, AddsInTurn, AddsSubcommand, App, FailsBy, HasMatchesOf}
use Rattle.clap.specs.Words.{Text, app_of, new_app}
use Rattle.clap.specs.Words.{fault_of, is_simple, is_simple_and_free, rule_of, with_subcommand}
use Rattle.clap.specs.declared.builder.arg.Arg.{Arg}
use Rattle.clap.specs.declared.builder.command.Command.{Command}
use Rattle.clap.specs.declared.builder.command.Command.TheViews.{out-Command}
use Rattle.clap.specs.declared.builder.command.Command.TheOpen.{Command-F}
use Rattle.clap.specs.declared.error.Error.{Error}
use Rattle.clap.specs.declared.parser.matches.ArgMatches.{ArgMatches}
use Rattle.mintcx_requests.specs.Commands.{word_of}
use Rattle.mintcx_requests.specs.declared.commands.Asked.{Asked}
use Rattle.mintcx_words.specs.CommandLine.{aliases_of, bare, program_of, with_rules}
use Rattle.mintcx_words.specs.Lines.{AreLocal, IsCommandLine, IsParse}
use Rattle.mintcx_words.specs.declared.command_line.Choices.{Choices}

neither : (a b : Bool) → a ≡ false → b ≡ false → (a || b) ≡ false
neither false b p q = q
neither true b p q = p

-- arguments that are added in turn add their rules
pub rules_added : (old : Command) (args : List Arg) (new : Command) → (out-Command old).has_globals ≡ false → AreLocal args
    → AddsInTurn AddsArg old args new → IsCommandLine (with_rules (app_of old) (map rule_of args)) new
rules_added old [] new local all same = subst (IsCommandLine (app_of old)) same (refl, local)
rules_added old (a ∷ args) new local all steps =
    let step = steps.1 in
    let rest = rules_added steps.0 args new (step.globals ∙ neither _ _ local all.0) all.1 steps.2 in
    (rest.0 ∙ ap (λ x. with_rules x (map rule_of args)) (step.shape all.0), rest.1)

-- a command that reads words as an app, with further names
abbrev with_names : App → List Text → App
with_names a more = record a { top = record a.top { aliases = a.top.aliases ++ more } }

-- names that are added are added to the shape
pub names_added : (old new : Command) (more : List (Bor Text × Bool)) → (out-Command old).has_globals ≡ false
    → AddsCommandAliases old new more → IsCommandLine (with_names (app_of old) (map (λ m. m.0.now) more)) new
names_added old new more local adds =
    let aliases = ap (map (λ (m : Bor Text × Bool). m.0.now)) adds.1 ∙ map-append (λ (m : Bor Text × Bool). m.0.now) (out-Command old).aliases.items more in (
      ap app_of_fields adds.0 ∙ ap (λ (names : List Text). record (app_of old) { top = record (app_of old).top { aliases = names } }) aliases,
      ap (λ (f : Command-F Command). f.has_globals) adds.0 ∙ local,
    )

-- the word of a command, and its second name
pub named : (asked : Asked) (old new : Command) (more : List (Bor Text × Bool)) → app_of old ≡ new_app (word_of asked)
    → (out-Command old).has_globals ≡ false → map (λ m. m.0.now) more ≡ aliases_of asked → AddsCommandAliases old new more
    → IsCommandLine (bare asked) new
named asked old new more is local names adds =
    subst (λ (a : App). IsCommandLine a new) (ap₂ with_names is names) (names_added old new more local adds)

-- a command that is added adds its shape
pub command_added : (old sub new : Command) (a : App) → (out-Command old).has_globals ≡ false → IsCommandLine a sub → AddsSubcommand old sub new
    → IsCommandLine (with_subcommand (app_of old) a.top) new
command_added old sub new a local is step =
    (step.shape is.1 ∙ ap (λ (x : App). with_subcommand (app_of old) x.top) is.0, step.globals ∙ neither _ _ local is.1)

module _ {A B : Type 0} where
  -- what is made of the items from one on, by that one and those behind it
  pub fold_on : (f : B → A → B) (x : B) (xs : List A) (i : ℕ) (d : A) → i < length xs
      → fold f x (drop i xs) ≡ fold f (f x (get_or xs i d)) (drop (i + 1) xs)
  fold_on f x xs i d within = rw (add-one, drop-cons xs i d within)

  -- nothing is made of no items
  pub fold_done : (f : B → A → B) (x : B) (xs : List A) (i : ℕ) → length xs ≤ i → fold f x (drop i xs) ≡ x
  fold_done f x xs i all = rw (drop_all i xs all)

-- the program is simple, and no argument has a rule on another
pub program_is_simple : (words : Choices) → is_simple_and_free (program_of words) ≡ true
program_is_simple words = refl

first_holds : (a b : Bool) → (a && b) ≡ true → a ≡ true
first_holds true b e = refl
first_holds false b e = e

-- what clap says of a parse of a simple command
parse_of : (a : App) (words : List (List ℕ)) (r : Result ArgMatches Error) → is_simple_and_free a ≡ true
    → IfOk r (HasMatchesOf a words) → (is_simple_and_free a ≡ true → FailsBy (fault_of a words) r) → IsParse a words r
parse_of a words (Ok m) simple matches kinds = matches (first_holds (is_simple a) _ simple)
parse_of a words (Err e) simple matches kinds = kinds simple

pub is_parse : (a b : App) (words : List (List ℕ)) (r : Result ArgMatches Error) → a ≡ b → is_simple_and_free b ≡ true
    → IfOk r (HasMatchesOf a words) → (is_simple_and_free a ≡ true → FailsBy (fault_of a words) r) → IsParse b words r
is_parse a b words r same simple matches kinds = subst (λ x. IsParse x words r) same (parse_of a words r (ap is_simple_and_free same ∙ simple) matches kinds)
