use Rattle.std.proofs.Common.{◌≡◌, ◌∙◌, ap, sym, false}
use Rattle.std.proofs.lemmas.Result.{IfOk-weaker}
use Rattle.clap.specs.Simple.{app_of_fields}
use Rattle.clap.specs.Words.{app_of, new_app}
use Rattle.clap.specs.declared.builder.command.Command.{Command}
use Rattle.clap.specs.declared.builder.command.Command.TheOpen.{Command-F}
use Rattle.clap.specs.declared.builder.command.Command.TheViews.{out-Command}
use Rattle.mintcx_requests.specs.Commands.{word_of}
use Rattle.mintcx_words.specs.CommandLine.{aliases_of}
use Rattle.mintcx_words.proofs.LineLaws.{named}
use Rattle.mintcx_words.proofs.command_line.bare.Goals as goal

pub returns-in-Optimise : goal.returns-in-Optimise
returns-in-Optimise c =
    let old = c.about-command.result in
    let is : app_of old ≡ new_app (word_of c.args.asked) = ap app_of_fields c.about-command.ensures ∙ (c.new.ensures.app ∙ ap new_app c.word-name.ensures) in
    let local : (out-Command old).has_globals ≡ false = ap (λ (f : Command-F Command). f.has_globals) c.about-command.ensures ∙ c.new.ensures.local in
    IfOk-weaker c.visible_alias.result _ _ (λ new adds. named c.args.asked old new _ is local (ap aliases_of (sym c.in-Optimise.is)) adds) c.visible_alias.ensures
