use Rattle.std.proofs.Common.{◌≡◌, ◌∙◌, ℕ, ℤ, ◌<◌, w64}
use Rattle.std.specs.Prelude.{None}
use Rattle.std.proofs.lemmas.Int.{to_z-of_z}
use Rattle.mintc_lanes.specs.Lanes.{lane_at, joined}
use Rattle.mintc_lanes.specs.Vectors.{number_at}
use Rattle.mintc_lanes.proofs.Joining.{sum_fits, are_plus, plus_within}
use Rattle.mintc_lanes.proofs.Reading.{read, read_is, read_vector}
use Rattle.mintc_lanes.proofs.row.plus_row.Goals as goal

pub sums-requires-clause-x : goal.sums-requires-clause-x
sums-requires-clause-x c = read_vector _ c.numbers-others.ensures.vector

pub sums-requires-clause-fits : goal.sums-requires-clause-fits
sums-requires-clause-fits c = λ k lt.
    rw (read_is c.numbers-others.result c.numbers-others.ensures.vector, to_z-of_z w64 c.args.add c.ranges.add, c.numbers-others.ensures.numbers)
    (sum_fits (number_at c.args.other.now k) c.args.add (c.requires.other k lt) c.requires.add)

pub where_absent-requires-clause-x : goal.where_absent-requires-clause-x
where_absent-requires-clause-x c = read_vector _ c.numbers-others.ensures.vector

pub where_absent-requires-clause-absent : goal.where_absent-requires-clause-absent
where_absent-requires-clause-absent c = read_vector _ c.numbers-others.ensures.vector

pub where_absent-requires-clause-present : goal.where_absent-requires-clause-present
where_absent-requires-clause-present c = read_vector _ c.sums.ensures.vector

pub returns : goal.returns
returns c =
    let other = c.args.other.now in
    let others_is : read c.numbers-others.result ≡ other = read_is c.numbers-others.result c.numbers-others.ensures.vector ∙ c.numbers-others.ensures.numbers in
    let lanes : (choose : ℤ → ℤ → ℤ) (k : ℕ) → k < 8 → lane_at c.where_absent.result k ≡ joined choose None (lane_at other k) c.args.add =
    are_plus other c.sums.result c.where_absent.result c.args.add c.requires.other c.requires.add
    (rw (others_is, to_z-of_z w64 c.args.add c.ranges.add) at c.sums.ensures.numbers)
    (rw (others_is, read_is c.sums.result c.sums.ensures.vector) at c.where_absent.ensures.numbers) in
    rw (read_is c.where_absent.result c.where_absent.ensures.vector)
    record { lanes = lanes; bounds = plus_within other c.where_absent.result c.args.add lanes }
