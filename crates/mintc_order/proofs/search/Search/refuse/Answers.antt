use Rattle.std.proofs.Common.{◌≡◌, ◌+◌, ◌-◌, get_or, arith, refl}
use Rattle.std.proofs.lemmas.List.{get_or_default}
use Rattle.mintc_order.proofs.Closing.{at_place, IsArcLoop-closing, LeavesOnce-closing}
use Rattle.mintc_order.proofs.search.Search.refuse.Goals as goal
use Rattle.mintc_order.proofs.search.Search.refuse.Goals.{After-index}

-- the bit's mark, by its place on the path
mark : (c : After-index) → get_or c.args.self.now.marks.items c.args.bit 0 ≡ c.index.result.now - 2 + 2
mark c = omega (arith, get_or_default c.args.self.now.marks.items c.args.bit 0 c.index.result.now c.requires.bit, c.requires.waits, c.requires.met)

pub cycle_from-requires-clause-first : goal.cycle_from-requires-clause-first
cycle_from-requires-clause-first c = omega (arith, at_place c.requires.search.0 c.requires.search.1 c.args.bit (c.index.result.now - 2) (mark (goal.at.cycle_from-requires-clause-first c).After-index) c.requires.ends)

pub returns-in-Ok : goal.returns-in-Ok
returns-in-Ok c = λ arcs leaving all.
    let p = c.requires.search.0 in
    let s = c.requires.search.1 in
    let of_bit = mark (goal.at.returns-in-Ok c).After-index in
    let closing = rw c.deref.ensures.value at c.in-Ok.ensures in
    rw c.new.ensures (
      c.in-Ok.arcs.items,
      refl,
      IsArcLoop-closing p s c.args.bit (c.index.result.now - 2) of_bit c.requires.ends leaving all c.in-Ok.arcs.items closing,
      LeavesOnce-closing p s c.args.bit (c.index.result.now - 2) of_bit c.requires.ends leaving all c.in-Ok.arcs.items closing,
    )
