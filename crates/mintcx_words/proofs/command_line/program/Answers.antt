use Rattle.std.proofs.Common.{◌∙◌, ◌+◌, ap, sym, drop}
use Rattle.std.specs.List.{fold}
use Rattle.clap.specs.Words.{App, app_of}
use Rattle.mintcx_requests.specs.declared.commands.Asked.TheVariants.{Check}
use Rattle.mintcx_requests.specs.declared.commands.TheConstants.{COMMANDS}
use Rattle.mintcx_words.specs.CommandLine.{with_command}
use Rattle.mintcx_words.proofs.LineLaws.{fold_done, fold_on}
use Rattle.mintcx_words.proofs.command_line.program.Goals as goal

pub loop-asked-preserved : goal.loop-asked-preserved
loop-asked-preserved c =
    let f = with_command c.args.words in
    let i = c.loop-asked.asked-index in
    let rest = fold_on f (app_of c.loop-asked.command) COMMANDS i Check c.loop-asked-test.true in (
      ap (λ (a : App). fold f a (drop (i + 1) COMMANDS)) c.in_ok-command-2.ensures.0 ∙ (sym rest ∙ c.loop-asked.invariant.0),
      c.in_ok-command-2.ensures.1,
    )

pub returns : goal.returns
returns c =
    let f = with_command c.args.words in
    let none = fold_done f (app_of c.loop-asked.command) COMMANDS c.loop-asked.asked-index c.loop-asked-test.false in
    (sym none ∙ c.loop-asked.invariant.0, c.loop-asked.invariant.1)
