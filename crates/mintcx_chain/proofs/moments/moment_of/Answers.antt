use Rattle.std.proofs.Common.{◌<◌, ◌*◌, ◌-◌, ℕ, w64, sym, subst, ap, ◌∙◌, arith}
use Rattle.std.proofs.lemmas.Int.{ints, clamps, to_z-of_z}
use Rattle.mintc_timing.specs.Design.{phase_count}
use Rattle.mintc_timing.specs.Times.{element_time}
use Rattle.mintcx_chain.proofs.MomentLaws.{elements}
use Rattle.mintcx_chain.proofs.moments.moment_of.Goals as goal

pub returns-then-node-edges-clause-value : goal.returns-then-node-edges-clause-value
returns-then-node-edges-clause-value c =
    let design = c.args.flat.now in
    let s = c.args.schedule.now in
    let d = c.args.departures.now in
    let node = c.args.node in
    let low = c.element_moment.ensures.range.0 in
    let high = c.element_moment.ensures.range.1 in
    let count = c.phase_count-edges.ensures.value in
    let past : 2 * phase_count design < node = subst (λ (k : ℕ). 2 * k < node) count c.if-node-edges.true in
    to_z-of_z w64 c.element_moment.result (omega (arith, ints, clamps)) ∙ c.element_moment.ensures.value
    ∙ ap (λ (k : ℕ). element_time design s d (node - 2 * k - 1)) count
    ∙ sym (elements design s d node past c.requires.node)
