use Rattle.std.proofs.Common.{◌≡◌, take}
use Rattle.mintcx_csv.specs.Passes.{pass_records}
use Rattle.mintcx_csv.specs.Records.{IsBetween, text_so_far}
use Rattle.mintcx_csv.specs.Tables.{text_of}
use Rattle.mintcx_csv.proofs.passes.rooms_csv.Given as goal

-- the records so far are written, and the next one may come
abbrev pub invariant-loop-place : goal.invariant-loop-place
invariant-loop-place l = record {
  between : IsBetween l.records;
  text : text_so_far l.records ≡ text_of (pass_records l.causes.told.system.now l.causes.told.schedule.now l.causes.late.now l.causes.early.now (take l.place-index l.places));
}
