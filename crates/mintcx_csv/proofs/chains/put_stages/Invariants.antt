use Rattle.std.proofs.Common.{◌≡◌, ◌++◌, map}
use Rattle.std.specs.List.{range_with_len}
use Rattle.mintcx_csv.specs.Chains.{chain_record_at}
use Rattle.mintcx_csv.specs.Records.{IsBetween, text_so_far}
use Rattle.mintcx_csv.specs.Tables.{text_of}
use Rattle.mintcx_csv.proofs.chains.put_stages.Given as goal

-- the records so far are written, and the next one may come
abbrev pub invariant-loop-number : goal.invariant-loop-number
invariant-loop-number l = record {
  between : IsBetween l.records;
  text : text_so_far l.records ≡ text_so_far l.initial.records ++ text_of (map (chain_record_at l.flat l.den l.rows l.stages) (range_with_len 0 l.number));
}
