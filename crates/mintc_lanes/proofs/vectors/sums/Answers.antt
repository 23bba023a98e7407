use Rattle.std.proofs.Common.{◌∙◌, of_z, w64}
use Rattle.std.specs.Prelude.{replicate}
use Rattle.std.proofs.lemmas.Simd.{length-replicate}
use Rattle.mintc_lanes.proofs.Selecting.{length-bits_of, length-summed, IsVector-from_numbers, sum_at, bits_of}
use Rattle.mintc_lanes.proofs.vectors.sums.Goals as goal

pub returns-clause-vector : goal.returns-clause-vector
returns-clause-vector c =
    let x = c.args.x in
    IsVector-from_numbers _ _
    (length-summed (bits_of x) (replicate 8 (of_z w64 c.args.add)) (length-bits_of x ∙ c.requires.x.count) (length-replicate 8 (of_z w64 c.args.add)))
    (sum_at x c.args.add c.requires.x c.ranges.add c.requires.fits) c.requires.fits

pub returns-clause-numbers : goal.returns-clause-numbers
returns-clause-numbers c = sum_at c.args.x c.args.add c.requires.x c.ranges.add c.requires.fits
