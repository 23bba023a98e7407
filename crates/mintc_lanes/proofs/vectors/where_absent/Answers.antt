use Rattle.std.proofs.Common.{◌∙◌, eqb, of_z, w64}
use Rattle.std.specs.Prelude.{replicate}
use Rattle.std.proofs.lemmas.Simd.{length-replicate}
use Rattle.mintc_lanes.specs.declared.TheConstants.{ABSENT}
use Rattle.mintc_lanes.proofs.Selecting.{length-bits_of, length-selected, IsVector-from_numbers, where_absent_is, SFits-where_absent_at, bits_of}
use Rattle.mintc_lanes.proofs.vectors.where_absent.Goals as goal

pub returns-clause-vector : goal.returns-clause-vector
returns-clause-vector c =
    let x = c.args.x in
    let y = c.args.absent in
    let z = c.args.present in
    IsVector-from_numbers _ _
    (length-selected eqb (bits_of x) (replicate 8 (of_z w64 ABSENT)) (bits_of y) (bits_of z) (length-bits_of x ∙ c.requires.x.count)
    (length-replicate 8 (of_z w64 ABSENT)) (length-bits_of y ∙ c.requires.absent.count) (length-bits_of z ∙ c.requires.present.count))
    (where_absent_is x y z c.requires.x c.requires.absent c.requires.present)
    (λ k lt. SFits-where_absent_at x y z k lt c.requires.absent c.requires.present)

pub returns-clause-numbers : goal.returns-clause-numbers
returns-clause-numbers c = where_absent_is c.args.x c.args.absent c.args.present c.requires.x c.requires.absent c.requires.present
