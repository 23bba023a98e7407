use Rattle.std.proofs.Common.{◌≡◌, ◌∙◌, ◌+ℤ◌, w64}
use Rattle.std.specs.Int.{int_max}
use Rattle.std.proofs.lemmas.Int.{to_z-of_z}
use Rattle.mintc_lanes.specs.Lanes.{AreJoined}
use Rattle.mintc_lanes.specs.Vectors.{HasNumbers, number_at}
use Rattle.mintc_lanes.proofs.Joining.{sum_fits, sum_differs, greater_joined, are_joined, are_present, are_within, IsChoice-int_max}
use Rattle.mintc_lanes.proofs.Reading.{read, read_is, read_vector}
use Rattle.mintc_lanes.proofs.row.max_plus_row.Goals as goal

pub sums-sum-requires-clause-x : goal.sums-sum-requires-clause-x
sums-sum-requires-clause-x c = read_vector _ c.numbers-others.ensures.vector

pub sums-sum-requires-clause-fits : goal.sums-sum-requires-clause-fits
sums-sum-requires-clause-fits c = λ k lt.
    rw (read_is c.numbers-others.result c.numbers-others.ensures.vector, to_z-of_z w64 c.args.add c.ranges.add, c.numbers-others.ensures.numbers)
    (sum_fits (number_at c.args.other.now k) c.args.add (c.requires.other k lt) c.requires.add)

pub greater-requires-clause-x : goal.greater-requires-clause-x
greater-requires-clause-x c = read_vector _ c.numbers-own.ensures.vector

pub greater-requires-clause-y : goal.greater-requires-clause-y
greater-requires-clause-y c = read_vector _ c.sums-sum.ensures.vector

pub greater-requires-clause-near : goal.greater-requires-clause-near
greater-requires-clause-near c = λ k lt.
    let own_is = read_is c.numbers-own.result c.numbers-own.ensures.vector ∙ c.numbers-own.ensures.numbers in
    let others_is = read_is c.numbers-others.result c.numbers-others.ensures.vector ∙ c.numbers-others.ensures.numbers in
    let sums = rw (others_is, to_z-of_z w64 c.args.add c.ranges.add) at c.sums-sum.ensures.numbers in
    rw (own_is, read_is c.sums-sum.result c.sums-sum.ensures.vector)
    (sum_differs (number_at c.args.row.now k) (number_at c.args.other.now k) (number_at c.sums-sum.result k) c.args.add (c.requires.row k lt) (c.requires.other k lt) c.requires.add (sums k lt))

pub where_absent-requires-clause-x : goal.where_absent-requires-clause-x
where_absent-requires-clause-x c = read_vector _ c.numbers-others.ensures.vector

pub where_absent-requires-clause-absent : goal.where_absent-requires-clause-absent
where_absent-requires-clause-absent c = read_vector _ c.numbers-own.ensures.vector

pub where_absent-requires-clause-present : goal.where_absent-requires-clause-present
where_absent-requires-clause-present c = read_vector _ c.greater.ensures.vector

pub returns : goal.returns
returns c =
    let row = c.args.row.now in
    let other = c.args.other.now in
    let own_is : read c.numbers-own.result ≡ row = read_is c.numbers-own.result c.numbers-own.ensures.vector ∙ c.numbers-own.ensures.numbers in
    let others_is : read c.numbers-others.result ≡ other = read_is c.numbers-others.result c.numbers-others.ensures.vector ∙ c.numbers-others.ensures.numbers in
    let sum_is = read_is c.sums-sum.result c.sums-sum.ensures.vector in
    let chosen_is = read_is c.greater.result c.greater.ensures.vector in
    let new = c.where_absent.result in
    let sums : HasNumbers c.sums-sum.result (λ k. number_at other k +ℤ c.args.add) = rw (others_is, to_z-of_z w64 c.args.add c.ranges.add) at c.sums-sum.ensures.numbers in
    let choices : HasNumbers c.greater.result (λ k. int_max (number_at row k) (number_at c.sums-sum.result k)) = rw (own_is, sum_is) at c.greater.ensures.numbers in
    let lanes : AreJoined int_max row other c.args.add new =
    are_joined int_max row other c.sums-sum.result c.greater.result new c.args.add IsChoice-int_max c.requires.row c.requires.other c.requires.add sums choices
    (greater_joined row other c.sums-sum.result c.greater.result new c.args.add c.requires.other c.requires.add sums choices
    (rw (others_is, own_is, chosen_is) at c.where_absent.ensures.numbers)) in
    rw (read_is new c.where_absent.ensures.vector)
    record {
      lanes = lanes;
      present = are_present int_max row other new c.args.add lanes;
      bounds = are_within int_max row other new c.args.add IsChoice-int_max lanes;
    }
