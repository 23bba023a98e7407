use Rattle.std.proofs.Common.{◌≡◌, ◌∙◌, ap, sym, false, get_or}
use Rattle.std.specs.Prelude.{bytes_eq}
use Rattle.mintcx_requests.specs.Commands.{word_of}
use Rattle.mintcx_requests.specs.declared.commands.Asked.{Asked}
use Rattle.mintcx_requests.specs.declared.commands.Asked.TheVariants.{Check}
use Rattle.mintcx_requests.specs.declared.commands.TheConstants.{COMMANDS}
use Rattle.mintcx_words.proofs.WordLaws.{find_passes}
use Rattle.mintcx_words.proofs.words.command_named.Goals as goal

pub loop-asked-preserved : goal.loop-asked-preserved
loop-asked-preserved c =
    let name = c.args.name.now in
    let i = c.loop-asked.asked-index in
    let other : bytes_eq (word_of (get_or COMMANDS i Check)) name ≡ false =
    ap (λ w. bytes_eq w name) (sym c.word.ensures) ∙ (sym c.eq.ensures ∙ c.if-eq.false) in
    sym (find_passes (λ (asked : Asked). bytes_eq (word_of asked) name) COMMANDS i Check c.loop-asked-test.true other) ∙ c.loop-asked.invariant
