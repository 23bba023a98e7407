-- From the getters of clap's matches to its rows.
use Rattle.std.proofs.Common.{◌≡◌, ◌∙◌, refl, sym, ap, ap₂, subst, true≢false, Bor, Option, Some, None, List, inl, inr}
use Rattle.std.proofs.Common.{ℕ, ◌+◌, ◌<◌, suc, Bool, false, ◌∷◌, length, drop, get_or, add-one, drop-cons}
use Rattle.std.specs.Prelude.{Box, find, is_some, option_map, option_and_then, unwrap_or}
use Rattle.std.specs.Box.{box_value}
use Rattle.std.specs.Str.{bytes_eq}
use Rattle.clap.specs.Facts.{Entry}
use Rattle.clap.specs.Matches.{matched_of, subcommand_name_of}
use Rattle.clap.specs.Walk.{Row, Text, row_of}
use Rattle.clap.specs.Words.{App, HasKind, fault_of, found_of, kind_of, rows_of, subcommand_rows, subcommand_rows_of}
use Rattle.clap.specs.declared.error.Error.{Error}
use Rattle.clap.specs.declared.error.kind.ErrorKind.{ErrorKind}
use Rattle.clap.specs.declared.error.kind.ErrorKind.TheVariants.{OutOfMemory}
use Rattle.clap.specs.declared.parser.matches.ArgMatches.{ArgMatches}
use Rattle.clap.specs.declared.parser.matches.ArgMatches.TheViews.{out-ArgMatches, out-SubCommand}
use Rattle.clap.specs.declared.parser.matches.SubCommand.{SubCommand}
use Rattle.clap.specs.declared.parser.matches.Found.{Found}
use Rattle.clap.proofs.WalkLemmas.{find_row, first_value-rows, raw_values-rows}
use Rattle.mintcx_requests.specs.Commands.{command_named}
use Rattle.mintcx_words.specs.Given.{given_by, given_of, source_at}
use Rattle.mintcx_words.specs.Misread.{IsAsking, IsMisread, Misreads}
use Rattle.mintcx_words.specs.declared.words.Misread.{Misread}
use Rattle.mintcx_words.specs.declared.words.Misread.TheVariants as misread

-- where the values of an option come from
pub source-rows : (f : Found) (id : Text) → option_and_then (λ a. a.source) (matched_of f id) ≡ source_at (rows_of f) id
source-rows f id = go (find (λ (e : Entry). bytes_eq e.0.now id) f.entries.items) ∙ ap (option_and_then (λ (r : Row). r.source)) (sym (find_row f.entries.items id))
  where
    go : (o : Option Entry) → option_and_then (λ a. a.source) (option_map (λ (e : Entry). e.1) o) ≡ option_and_then (λ (r : Row). r.source) (option_map row_of o)
    go None = refl
    go (Some e) = refl

module _ {Z : Type 0} where
  -- the subcommand that is handed out is the one of the rows
  pub subcommand_found : (r : Option (Bor Text × Bor ArgMatches)) (sub : Option (Box SubCommand Z))
      → option_map (λ p. p.0.now) r ≡ option_map (λ b. (out-SubCommand (box_value b)).name.now) sub
      → option_map (λ p. rows_of (found_of p.1.now)) r ≡ option_map (λ p. p.1) (subcommand_rows sub)
      → option_map (λ p. (p.0.now, rows_of (found_of p.1.now))) r ≡ subcommand_rows sub
  subcommand_found None None name rows = refl
  subcommand_found (Some p) (Some b) name rows =
      ap₂ (λ n rs. Some (n, rs)) (ap (λ o. unwrap_or o p.0.now) name) (ap (λ o. unwrap_or o (rows_of (found_of p.1.now))) rows)
  subcommand_found None (Some b) name rows = absurd (true≢false (sym (ap is_some name)))
  subcommand_found (Some p) None name rows = absurd (true≢false (ap is_some name))

-- what the matches of the program give, by the subcommand that is handed out
given_by_found : (m : ArgMatches) (r : Option (Bor Text × Bor ArgMatches))
    → option_map (λ p. p.0.now) r ≡ subcommand_name_of m
    → option_map (λ p. rows_of (found_of p.1.now)) r ≡ option_map (λ p. p.1) (subcommand_rows (out-ArgMatches m).subcommand)
    → option_and_then given_of (option_map (λ (p : Bor Text × Bor ArgMatches). (p.0.now, rows_of (found_of p.1.now))) r)
    ≡ option_and_then given_of (subcommand_rows_of m)
given_by_found m r name rows = ap (option_and_then given_of) (subcommand_found r (out-ArgMatches m).subcommand name rows)

-- no subcommand is handed out: nothing is given
pub none_given : (m : ArgMatches) (r : Option (Bor Text × Bor ArgMatches))
    → option_map (λ p. p.0.now) r ≡ subcommand_name_of m
    → option_map (λ p. rows_of (found_of p.1.now)) r ≡ option_map (λ p. p.1) (subcommand_rows (out-ArgMatches m).subcommand)
    → r ≡ None → None ≡ option_and_then given_of (subcommand_rows_of m)
none_given m r name rows is =
    subst (λ (o : Option (Bor Text × Bor ArgMatches)). option_and_then given_of (option_map (λ (p : Bor Text × Bor ArgMatches). (p.0.now, rows_of (found_of p.1.now))) o)
    ≡ option_and_then given_of (subcommand_rows_of m)) is (given_by_found m r name rows)

-- a subcommand is handed out: its matches give what is given
pub some_given : (m : ArgMatches) (r : Option (Bor Text × Bor ArgMatches)) (p : Bor Text × Bor ArgMatches)
    → option_map (λ p. p.0.now) r ≡ subcommand_name_of m
    → option_map (λ p. rows_of (found_of p.1.now)) r ≡ option_map (λ p. p.1) (subcommand_rows (out-ArgMatches m).subcommand)
    → r ≡ Some p → option_map (given_by (rows_of (found_of p.1.now))) (command_named p.0.now) ≡ option_and_then given_of (subcommand_rows_of m)
some_given m r p name rows is =
    subst (λ (o : Option (Bor Text × Bor ArgMatches)). option_and_then given_of (option_map (λ (p : Bor Text × Bor ArgMatches). (p.0.now, rows_of (found_of p.1.now))) o)
    ≡ option_and_then given_of (subcommand_rows_of m)) is (given_by_found m r name rows)

-- the first item is not the one that is looked for
find_behind : {A : Type 0} (p : A → Bool) (x : A) (xs : List A) → p x ≡ false → find p (x ∷ xs) ≡ find p xs
find_behind p x xs fails = rw fails

-- an item that is not the one that is looked for is passed
pub find_passes : {A : Type 0} (p : A → Bool) (xs : List A) (i : ℕ) (d : A) → i < length xs → p (get_or xs i d) ≡ false
    → find p (drop i xs) ≡ find p (drop (i + 1) xs)
find_passes p xs i d within fails =
    rw (add-one, drop-cons xs i d within) (find_behind p (get_or xs i d) (drop (suc i) xs) fails)

-- an error for want of memory asks for nothing
never_asks : (kind : ErrorKind) → kind ≡ OutOfMemory → IsAsking kind → ⊥
never_asks kind none (inl help) = cc
never_asks kind none (inr version) = cc

-- what is said of an error of a parse is right of the words
pub misread_of : (a : App) (words : List Text) (e : Error) (m : Misread) → HasKind (fault_of a words) e → IsMisread (kind_of e) m
    → Misreads a words m
misread_of a words e (misread.Answer text) (inl none) asking = absurd (never_asks (kind_of e) none asking)
misread_of a words e (misread.Answer text) (inr among) asking = (kind_of e, among, asking)
misread_of a words e (misread.Wrong text) (inl none) is = absurd (is.1 none)
misread_of a words e (misread.Wrong text) (inr among) is = (kind_of e, among, is.0)
misread_of a words e misread.NoCommand kind is = absurd is
misread_of a words e misread.OutOfMemory kind is = tt

-- the getters of clap's matches, by rows
pub ruleset getters = (first_value-rows, raw_values-rows, source-rows)
