use Rattle.std.proofs.Common.{◌≡◌, ℤ, ◌+ℤ◌, ◌/◌, to_z, of_z, w64, sym, ap, ◌∙◌, arith}
use Rattle.std.proofs.lemmas.Int.{ints, clamps}
use Rattle.mintc_timing.specs.Clocking.{start_of}
use Rattle.mintcx_chain.proofs.MomentLaws.{ends}
use Rattle.mintcx_chain.proofs.moments.edge_moment.Goals as goal

pub returns-else-node-eq1-clause-value : goal.returns-else-node-eq1-clause-value
returns-else-node-eq1-clause-value c =
    let s = c.args.schedule.now in
    let node = c.args.node in
    let from = c.start_at-else-node-eq1.ensures.range.0 in
    let to = c.start_at-else-node-eq1.ensures.range.1 in
    let low = c.width_at.ensures.range.0 in
    let high = c.width_at.ensures.range.1 in
    let both : to_z w64 (of_z w64 (to_z w64 (of_z w64 c.start_at-else-node-eq1.result) +ℤ to_z w64 (of_z w64 c.width_at.result))) ≡ c.start_at-else-node-eq1.result +ℤ c.width_at.result = omega (arith, ints, clamps) in
    both ∙ ap (λ (z : ℤ). z +ℤ c.width_at.result) c.start_at-else-node-eq1.ensures.value
    ∙ ap (λ (z : ℤ). start_of s (node / 2) +ℤ z) c.width_at.ensures.value
    ∙ sym (ends c.args.flat.now s c.args.departures.now node c.if-node-eq1.false c.requires.first c.requires.last)
