use Rattle.std.proofs.Common.{◌<◌, length, pos, ap, ◌∙◌, arith, append_assoc, ℕ}
use Rattle.mintc_timing.specs.declared.parts.Bound.{Bound}
use Rattle.mintc_timing.specs.declared.parts.Point.TheVariants as point
use Rattle.mintc_timing.specs.Links.{bound_link}
use Rattle.mintc_timing.specs.Design.{Design}
use Rattle.mintc_constraints.proofs.Appending.{numbered-more}
use Rattle.mintc_constraints.proofs.listing.append_bounds.Goals as goal

abbrev no_bound : Bound
no_bound = record { from = point.Origin; to = point.Origin; gap = pos 0; cycles = 0 }

pub loop-number-preserved : goal.loop-number-preserved
loop-number-preserved c =
    let bounds = c.args.system.now.flat.bounds in
    let n = c.loop-number.number in
    let same = c.bounds-bounds.ensures.value ∙ ap (λ (d : Design). d.bounds) c.flat.ensures.value in
    let h : n < length bounds = rw same at c.loop-number-test.true in
    let made = rw same at c.bound_link.ensures.value in
    grind (arith, append_assoc, numbered-more (λ (b : ℕ × Bound). bound_link b.0 b.1) bounds 0 n no_bound h)
