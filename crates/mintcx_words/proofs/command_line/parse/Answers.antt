use Rattle.std.specs.Prelude.{map, string_bytes}
use Rattle.clap.specs.Words.{app_of}
use Rattle.mintcx_words.specs.CommandLine.{program_of}
use Rattle.mintcx_words.proofs.LineLaws.{is_parse, program_is_simple}
use Rattle.mintcx_words.proofs.command_line.parse.Goals as goal

pub returns : goal.returns
returns c =
    let parse = c.try_get_matches_from in
    is_parse (app_of c.in_ok-command.command) (program_of c.args.choices) (map string_bytes c.args.words.now) parse.result
    c.in_ok-command.ensures.0 (program_is_simple c.args.choices) parse.ensures.matches parse.ensures.kinds
