use Rattle.std.proofs.Common.{sym, subst}
use Rattle.mintc_edges.specs.declared.told.Said.{Said}
use Rattle.mintc_edges.specs.Told.{IsToldMore}
use Rattle.mintc_edges.proofs.TakenLaws.{no-matter, has-place, taken-one, on-ok-both}
use Rattle.mintc_edges.proofs.gathering.apply_target.Goals as goal

pub widen-requires : goal.widen-requires
widen-requires c =
    has-place c.args.lookup.now.hierarchy.now c.args.lookup.now.cells.now c.requires.cells.each c.args.delay.now c.requires.edges c.args.target c.requires.apt c.args.told.now c.in-Some.matter (sym c.in-Some.ensures) c.requires.room c.requires.there

pub returns-in-Some : goal.returns-in-Some
returns-in-Some c =
    on-ok-both c.widen.result (λ more room.
    taken-one c.args.lookup.now.hierarchy.now c.args.lookup.now.cells.now c.requires.cells.each c.args.delay.now c.requires.edges c.args.target c.requires.apt c.args.told.now c.widen.new.self c.in-Some.matter (sym c.in-Some.ensures)
    (subst (λ (x : Said). IsToldMore c.args.told.now c.widen.new.self c.in-Some.matter x) c.said_of-said.ensures more) room) c.widen.ensures.told c.widen.ensures.room

pub returns-in-None : goal.returns-in-None
returns-in-None c =
    absurd (no-matter c.args.lookup.now.hierarchy.now c.args.lookup.now.cells.now c.requires.cells.each c.args.delay.now c.requires.edges c.args.target c.requires.apt (sym c.in-None.ensures))
