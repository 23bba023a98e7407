use Rattle.std.proofs.Common.{◌≡◌, ℤ, pos, ◌-ℤ◌, FitsSigned, w64, to_z, of_z, ap, arith, rules}
use Rattle.std.specs.Int.{w128, int_max}
use Rattle.std.proofs.lemmas.Int.{ints, clamps}
use Rattle.mintc_edges.proofs.elements.open_no_later.Goals as goal

pub overflow_cast-own : goal.overflow_cast-own
overflow_cast-own c =
    let own = c.args.own.now in
    let merged = c.args.merged.now in
    let a : FitsSigned w64 own.dq_max = search rules in
    let b : FitsSigned w64 own.cq_max = search rules in
    let d : FitsSigned w64 merged.cq_max = search rules in
    let e : FitsSigned w64 merged.dq_max = search rules in
    omega (arith, ints, clamps, c.max.ensures.value, c.from.ensures, c.opening-opening.ensures, a, b, d, e)

pub returns : goal.returns
returns c =
    let own = c.args.own.now in
    let merged = c.args.merged.now in
    let a : FitsSigned w64 own.dq_max = search rules in
    let b : FitsSigned w64 own.cq_max = search rules in
    let d : FitsSigned w64 merged.cq_max = search rules in
    let e : FitsSigned w64 merged.dq_max = search rules in
    let value : to_z w64 (of_z w64 (to_z w128 (of_z w128 c.max.result))) ≡ int_max own.dq_max (own.cq_max -ℤ int_max (pos 0) (merged.cq_max -ℤ merged.dq_max)) =
    omega (arith, ints, clamps, c.max.ensures.value, c.from.ensures, c.opening-opening.ensures, a, b, d, e) in
    ap (λ (v : ℤ). record c.args.own.now { dq_max = v }) value
