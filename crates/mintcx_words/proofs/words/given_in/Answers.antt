use Rattle.std.proofs.Common.{◌∙◌, ap, sym}
use Rattle.std.specs.Prelude.{Some, option_map}
use Rattle.clap.specs.Words.{found_of, rows_of}
use Rattle.mintcx_requests.specs.declared.given.Given.{Given}
use Rattle.mintcx_words.specs.Given.{given_by}
use Rattle.mintcx_words.proofs.WordLaws.{some_given}
use Rattle.mintcx_words.proofs.words.given_in.Goals as goal

pub returns-in-None : goal.returns-in-None
returns-in-None c =
    let given = some_given c.args.matches.now c.subcommand.result (c.in-Some.name, c.in-Some.inner) c.subcommand.ensures.name c.subcommand.ensures.rows c.in-Some.is in
    ap (option_map (given_by (rows_of (found_of c.in-Some.inner.now)))) (sym c.in-None.is ∙ c.command_named.ensures) ∙ given

pub returns-in_ok-given_by-in-Some-command_named : goal.returns-in_ok-given_by-in-Some-command_named
returns-in_ok-given_by-in-Some-command_named c =
    let rows = rows_of (found_of c.in-Some.inner.now) in
    let given = some_given c.args.matches.now c.subcommand.result (c.in-Some.name, c.in-Some.inner) c.subcommand.ensures.name c.subcommand.ensures.rows c.in-Some.is in
    ap (λ (g : Given). Some g) c.in_ok-given_by-in-Some-command_named.ensures
    ∙ ap (option_map (given_by rows)) (sym c.in-Some-command_named.is ∙ c.command_named.ensures) ∙ given
