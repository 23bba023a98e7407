use Rattle.std.proofs.Common.{◌≡◌, ◌∙◌, w64}
use Rattle.std.specs.Int.{int_min}
use Rattle.std.proofs.lemmas.Int.{to_z-of_z}
use Rattle.mintc_lanes.specs.Lanes.{AreJoined}
use Rattle.mintc_lanes.specs.Vectors.{number_at}
use Rattle.mintc_lanes.proofs.Joining.{sum_fits, sum_differs, are_joined, are_present, are_within, IsChoice-int_min}
use Rattle.mintc_lanes.proofs.Reading.{read, read_is, read_vector}
use Rattle.mintc_lanes.proofs.row.min_plus_row.Goals as goal

pub sums-sum-requires-clause-x : goal.sums-sum-requires-clause-x
sums-sum-requires-clause-x c = read_vector _ c.numbers-others.ensures.vector

pub sums-sum-requires-clause-fits : goal.sums-sum-requires-clause-fits
sums-sum-requires-clause-fits c = λ k lt.
    rw (read_is c.numbers-others.result c.numbers-others.ensures.vector, to_z-of_z w64 c.args.add c.ranges.add, c.numbers-others.ensures.numbers)
    (sum_fits (number_at c.args.other.now k) c.args.add (c.requires.other k lt) c.requires.add)

pub lesser-requires-clause-x : goal.lesser-requires-clause-x
lesser-requires-clause-x c = read_vector _ c.numbers-own.ensures.vector

pub lesser-requires-clause-y : goal.lesser-requires-clause-y
lesser-requires-clause-y c = read_vector _ c.sums-sum.ensures.vector

pub lesser-requires-clause-near : goal.lesser-requires-clause-near
lesser-requires-clause-near c = λ k lt.
    let own_is = read_is c.numbers-own.result c.numbers-own.ensures.vector ∙ c.numbers-own.ensures.numbers in
    let others_is = read_is c.numbers-others.result c.numbers-others.ensures.vector ∙ c.numbers-others.ensures.numbers in
    let sums = rw (others_is, to_z-of_z w64 c.args.add c.ranges.add) at c.sums-sum.ensures.numbers in
    rw (own_is, read_is c.sums-sum.result c.sums-sum.ensures.vector)
    (sum_differs (number_at c.args.row.now k) (number_at c.args.other.now k) (number_at c.sums-sum.result k) c.args.add (c.requires.row k lt) (c.requires.other k lt) c.requires.add (sums k lt))

pub choose_lanes-requires-clause-row : goal.choose_lanes-requires-clause-row
choose_lanes-requires-clause-row c = read_vector _ c.numbers-own.ensures.vector

pub choose_lanes-requires-clause-other : goal.choose_lanes-requires-clause-other
choose_lanes-requires-clause-other c = read_vector _ c.numbers-others.ensures.vector

pub choose_lanes-requires-clause-sum : goal.choose_lanes-requires-clause-sum
choose_lanes-requires-clause-sum c = read_vector _ c.sums-sum.ensures.vector

pub choose_lanes-requires-clause-chosen : goal.choose_lanes-requires-clause-chosen
choose_lanes-requires-clause-chosen c = read_vector _ c.lesser.ensures.vector

pub returns : goal.returns
returns c =
    let row = c.args.row.now in
    let other = c.args.other.now in
    let own_is : read c.numbers-own.result ≡ row = read_is c.numbers-own.result c.numbers-own.ensures.vector ∙ c.numbers-own.ensures.numbers in
    let others_is : read c.numbers-others.result ≡ other = read_is c.numbers-others.result c.numbers-others.ensures.vector ∙ c.numbers-others.ensures.numbers in
    let sum_is = read_is c.sums-sum.result c.sums-sum.ensures.vector in
    let chosen_is = read_is c.lesser.result c.lesser.ensures.vector in
    let lanes : AreJoined int_min row other c.args.add c.choose_lanes.result =
    are_joined int_min row other c.sums-sum.result c.lesser.result c.choose_lanes.result c.args.add IsChoice-int_min c.requires.row c.requires.other c.requires.add
    (rw (others_is, to_z-of_z w64 c.args.add c.ranges.add) at c.sums-sum.ensures.numbers)
    (rw (own_is, sum_is) at c.lesser.ensures.numbers)
    (rw (own_is, others_is, sum_is, chosen_is) at c.choose_lanes.ensures.numbers) in
    rw (read_is c.choose_lanes.result c.choose_lanes.ensures.vector)
    record {
      lanes = lanes;
      present = are_present int_min row other c.choose_lanes.result c.args.add lanes;
      bounds = are_within int_min row other c.choose_lanes.result c.args.add IsChoice-int_min lanes;
    }
