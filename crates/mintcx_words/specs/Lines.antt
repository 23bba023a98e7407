-- What is said of the values that clap builds of.
use Rattle.std.specs.Prelude.{◌≡◌, ℕ, false, List, [], ◌∷◌, map, Result, MatchResult}
use Rattle.clap.specs.Words.{App, HasKind, Rule, app_of, fault_of, found_of, matches_of, rows_of, rule_of}
use Rattle.clap.specs.Words.{subcommand_of, subcommand_rows_of}
use Rattle.clap.specs.declared.builder.arg.Arg.{Arg}
use Rattle.clap.specs.declared.builder.command.Command.{Command}
use Rattle.clap.specs.declared.builder.command.Command.TheViews.{out-Command}
use Rattle.clap.specs.declared.error.Error.{Error}
use Rattle.clap.specs.declared.parser.matches.ArgMatches.{ArgMatches}

-- no argument is global
abbrev pub AreLocal : List Arg → Type 0
AreLocal [] = Unit {0}
AreLocal (a ∷ args) = (a.global ≡ false) × AreLocal args

-- the arguments have these rules, and none is global
abbrev pub AreRules : List Rule → List Arg → Type 0
AreRules rules args = (map rule_of args ≡ rules) × AreLocal args

-- the command reads words as this one, and no argument is global
abbrev pub IsCommandLine : App → Command → Type 0
IsCommandLine a c = (app_of c ≡ a) × ((out-Command c).has_globals ≡ false)

-- What a parse of a simple command gives: the matches of the definition, and the subcommand with its matches; or an
-- error of a kind that the definition allows.
abbrev pub IsParse : App → List (List ℕ) → Result ArgMatches Error → Type 0
IsParse a words r = MatchResult r (λ m. (rows_of (found_of m) ≡ matches_of a words)
    × (subcommand_rows_of m ≡ subcommand_of a words)) (HasKind (fault_of a words))
