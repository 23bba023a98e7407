use Rattle.std.proofs.Common.{subst, sym}
use Rattle.mintc_timing.specs.declared.parts.Pair.{Pair}
use Rattle.mintc_timing.specs.Design.{no_pair}
use Rattle.mintc_timing.specs.Limits.{IsDelay}
use Rattle.mintcx_fares.proofs.PairLaws.{least_in_range}
use Rattle.mintcx_fares.proofs.items.item_of.Goals as goal

pub item_by-requires-clause-least : goal.item_by-requires-clause-least
item_by-requires-clause-least c =
    let t = c.args.causes.now.told.system.now in
    subst (λ (pair : Pair). IsDelay pair.min) (sym c.pair.ensures.value)
    (least_in_range t.flat t.order t.pairs c.pair.ensures.design c.pair.ensures.kept c.in-Some.number no_pair c.in-Some.ensures.inside)
