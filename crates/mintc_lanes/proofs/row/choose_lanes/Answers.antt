use Rattle.std.proofs.Common.{ap, ◌∙◌, if◌then◌else◌}
use Rattle.std.specs.Ordering.{int_eq}
use Rattle.mintc_lanes.specs.declared.TheConstants.{ABSENT}
use Rattle.mintc_lanes.specs.Vectors.{number_at}
use Rattle.mintc_lanes.proofs.Reading.{read_is, read_vector}
use Rattle.mintc_lanes.proofs.row.choose_lanes.Goals as goal

pub where_absent-requires-clause-x : goal.where_absent-requires-clause-x
where_absent-requires-clause-x c = search (read_vector, c.requires.row, c.requires.other, c.requires.sum, c.requires.chosen)

pub where_absent-requires-clause-absent : goal.where_absent-requires-clause-absent
where_absent-requires-clause-absent c = search (read_vector, c.requires.row, c.requires.other, c.requires.sum, c.requires.chosen)

pub where_absent-requires-clause-present : goal.where_absent-requires-clause-present
where_absent-requires-clause-present c = search (read_vector, c.requires.row, c.requires.other, c.requires.sum, c.requires.chosen)

pub where_absent-requires-2-clause-x : goal.where_absent-requires-2-clause-x
where_absent-requires-2-clause-x c = search (read_vector, c.requires.row, c.requires.other, c.requires.sum, c.requires.chosen)

pub where_absent-requires-2-clause-absent : goal.where_absent-requires-2-clause-absent
where_absent-requires-2-clause-absent c = search (read_vector, c.requires.row, c.requires.other, c.requires.sum, c.requires.chosen)

pub where_absent-requires-2-clause-present : goal.where_absent-requires-2-clause-present
where_absent-requires-2-clause-present c = read_vector _ c.where_absent.ensures.vector

pub returns-clause-vector : goal.returns-clause-vector
returns-clause-vector c = read_vector _ c.where_absent-2.ensures.vector

pub returns-clause-numbers : goal.returns-clause-numbers
returns-clause-numbers c = λ k lt.
    let row = c.args.row in
    let other = c.args.other in
    let beside = c.where_absent.result in
    let outer = rw (read_is other c.requires.other, read_is row c.requires.row, read_is beside c.where_absent.ensures.vector) at (c.where_absent-2.ensures.numbers k lt) in
    let inner = rw (read_is row c.requires.row, read_is c.args.sum c.requires.sum, read_is c.args.chosen c.requires.chosen) at (c.where_absent.ensures.numbers k lt) in
    rw (read_is c.where_absent-2.result c.where_absent-2.ensures.vector)
    (outer ∙ ap (λ v. if int_eq (number_at other k) ABSENT then number_at row k else v) inner)
