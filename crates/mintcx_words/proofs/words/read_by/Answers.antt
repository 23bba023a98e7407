use Rattle.std.specs.Prelude.{map, string_bytes}
use Rattle.mintcx_words.specs.CommandLine.{program_of}
use Rattle.mintcx_words.proofs.WordLaws.{misread_of}
use Rattle.mintcx_words.proofs.words.read_by.Goals as goal

pub returns-in-Err : goal.returns-in-Err
returns-in-Err c =
    misread_of (program_of c.args.choices) (map string_bytes c.args.words.now) c.in-Err.error c.misread_by.result
    c.in-Err.ensures c.misread_by.ensures
