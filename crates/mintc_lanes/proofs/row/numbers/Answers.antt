use Rattle.std.proofs.Common.{◌≡◌, subst, sym, length, rules}
use Rattle.mintc_lanes.specs.Vectors.{IsVector}
use Rattle.mintc_lanes.proofs.Joining.{row_vector}
use Rattle.mintc_lanes.proofs.Reading.{read_is}
use Rattle.mintc_lanes.proofs.row.numbers.Goals as goal

pub returns-clause-vector : goal.returns-clause-vector
returns-clause-vector c =
    let count : length c.args.row.now ≡ 8 = search rules in
    let vector = row_vector c.args.row.now count c.requires in
    subst IsVector (sym (read_is c.args.row.now vector)) vector

pub returns-clause-numbers : goal.returns-clause-numbers
returns-clause-numbers c =
    let count : length c.args.row.now ≡ 8 = search rules in
    read_is c.args.row.now (row_vector c.args.row.now count c.requires)
