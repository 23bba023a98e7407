use Rattle.mintcx_csv.specs.Records.{IsBetween}
use Rattle.mintcx_csv.proofs.tests.table_of.Given as goal

-- the next record may come
abbrev pub invariant-loop-place : goal.invariant-loop-place
invariant-loop-place l = IsBetween l.records
