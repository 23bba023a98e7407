use Rattle.std.proofs.Common.{◌≡◌, ◌∷◌, map, take}
use Rattle.mintcx_csv.specs.Chains.{hop_fields, hop_record}
use Rattle.mintcx_csv.specs.Records.{IsBetween, text_so_far}
use Rattle.mintcx_csv.specs.Tables.{text_of}
use Rattle.mintcx_csv.proofs.chains.hops_csv.Given as goal

-- the records so far are written, and the next one may come
abbrev pub invariant-loop-stage : goal.invariant-loop-stage
invariant-loop-stage l = record {
  between : IsBetween l.records;
  text : text_so_far l.records ≡ text_of (hop_fields ∷ map (hop_record l.flat) (take l.stage-index l.stages));
}
