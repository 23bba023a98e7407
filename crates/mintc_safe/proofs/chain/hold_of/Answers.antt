use Rattle.std.proofs.Common.{◌∙◌, refl, sym}
use Rattle.std.proofs.lemmas.List.{get_or_default}
use Rattle.mintc_timing.specs.Design.{no_pair}
use Rattle.mintc_safe.proofs.HoldLaws.{min_read}
use Rattle.mintc_safe.proofs.SharedStandingLaws.{hold_stands}
use Rattle.mintc_safe.proofs.chain.hold_of.Goals as goal

pub shortest_path_of-requires : goal.shortest_path_of-requires
shortest_path_of-requires c =
    let t = c.args.system.now in
    let p = c.pair-pair.result.now in
    let read = min_read t c.pair-pair.ensures.design c.pair-pair.ensures.kept c.args.number c.requires.number p c.pair-pair.ensures.value in
    (p, (c.args.number, c.requires.number, get_or_default t.pairs c.args.number p no_pair c.requires.number ∙ sym c.pair-pair.ensures.value), refl, refl, sym read)

pub returns : goal.returns
returns c =
    let t = c.args.system.now in
    let limits = c.pair-pair.ensures.design in
    let kept = c.pair-pair.ensures.kept in
    let is = c.pair-pair.ensures.value in
    rw is
    (hold_stands t limits kept c.args.number c.in_ok-arcs.arcs c.requires.number c.requires.held (rw is at c.in_ok-arcs.ensures.path)
    (rw is at (c.in_ok-arcs.ensures.delay ∙ min_read t limits kept c.args.number c.requires.number c.pair-pair.result.now is)))
