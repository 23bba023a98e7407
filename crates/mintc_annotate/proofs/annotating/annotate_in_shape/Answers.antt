use Rattle.std.proofs.Common.{◌∙◌, sym, arith}
use Rattle.std.proofs.lemmas.Result.{err_from_is_err_and}
use Rattle.mintc_annotate.specs.Gathered.{design_of_gathered}
use Rattle.mintc_annotate.specs.Made.{too_many}
use Rattle.mintc_annotate.proofs.AnnotateLaws.{few_gathered, made_of, built, stops_gathering}
use Rattle.mintc_annotate.proofs.SharedPartLaws.{parts_of}
use Rattle.mintc_annotate.proofs.annotating.annotate_in_shape.Goals as goal

pub build-requires-clause-parts : goal.build-requires-clause-parts
build-requires-clause-parts c =
    let made = made_of c.args.hierarchy.now c.args.cells.now c.args.clock.now c.in_ok-gathered.gathered c.in_ok-gathered.ensures.0 c.args.delays.now.items c.in_ok-gathered.ensures.1 in
    let sound = c.delays_are_within.ensures c.requires.delays.0 c.args.delays.now.items c.requires.delays.2 in
    let keeps = c.clocks_keep_limits.ensures c.requires.clock.0 c.args.clock.now c.requires.clock.2 in
    parts_of c.args.hierarchy.now c.args.cells.now c.args.clock.now c.args.delays.now.items _ c.requires.shape c.count-count.ensures.kept.each keeps sound made

pub build-requires-clause-few : goal.build-requires-clause-few
build-requires-clause-few c =
    let few = few_gathered c.args.hierarchy.now c.args.cells.now c.args.clock.now c.in_ok-gathered.gathered c.in_ok-gathered.ensures.0 c.args.limits.now (sym c.limit.ensures.refusal ∙ c.in-None.is) in
    omega (arith, few, c.limit.ensures.kept.elements)

pub returns-in-Some : goal.returns-in-Some
returns-in-Some c =
    let made = made_of c.args.hierarchy.now c.args.cells.now c.args.clock.now c.in_ok-gathered.gathered c.in_ok-gathered.ensures.0 c.args.delays.now.items c.in_ok-gathered.ensures.1 in
    too_many (design_of_gathered c.args.hierarchy.now c.args.cells.now c.args.clock.now c.in_ok-gathered.gathered) made (sym c.limit.ensures.refusal ∙ c.in-Some.is)

pub returns-in-None : goal.returns-in-None
returns-in-None c =
    let made = made_of c.args.hierarchy.now c.args.cells.now c.args.clock.now c.in_ok-gathered.gathered c.in_ok-gathered.ensures.0 c.args.delays.now.items c.in_ok-gathered.ensures.1 in
    built c.args.limits.now c.args.hierarchy.now c.args.cells.now c.args.clock.now c.args.delays.now.items _ c.build.result made (sym c.limit.ensures.refusal ∙ c.in-None.is) c.build.ensures

pub returns-in_err-gathered : goal.returns-in_err-gathered
returns-in_err-gathered c =
    let p = err_from_is_err_and c.from_residual.result c.from_residual.ensures.1 in
    rw (p.1, p.2) (stops_gathering c.args.limits.now c.args.hierarchy.now c.args.cells.now c.args.clock.now c.args.delays.now.items c.in_err-gathered.field-0.0 c.in_err-gathered.ensures)
