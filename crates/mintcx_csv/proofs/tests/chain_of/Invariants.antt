use Rattle.mintcx_csv.specs.Records.{IsBetween}
use Rattle.mintcx_csv.proofs.tests.chain_of.Given as goal

-- the next record may come
abbrev pub invariant-loop-fields : goal.invariant-loop-fields
invariant-loop-fields l = IsBetween l.records
