use Rattle.std.proofs.Common.{◌≡◌, ◌++◌, map}
use Rattle.std.specs.List.{range_with_len}
use Rattle.mintcx_csv.specs.Cycles.{shown_phase}
use Rattle.mintcx_csv.specs.Records.{IsBetween, text_so_far}
use Rattle.mintcx_csv.specs.Tables.{text_of}
use Rattle.mintcx_csv.proofs.cycles.put_phases.Given as goal

-- the records so far are written, and the next one may come
abbrev pub invariant-loop-at : goal.invariant-loop-at
invariant-loop-at l = record {
  between : IsBetween l.records;
  text : text_so_far l.records ≡ text_so_far l.initial.records ++ text_of (map (shown_phase l.flat l.schedule) (range_with_len 1 l.at));
}
