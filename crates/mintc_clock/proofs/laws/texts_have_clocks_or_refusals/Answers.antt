use Rattle.mintc_clock.proofs.EachTextLaws.{texts_have_clocks_or_refusals_lem}
use Rattle.mintc_clock.proofs.laws.texts_have_clocks_or_refusals.Goals as goal

pub returns : goal.returns
returns c = texts_have_clocks_or_refusals_lem
