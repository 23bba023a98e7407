use Rattle.std.proofs.Common.{◌≡◌, ◌∷◌, map, take}
use Rattle.mintcx_csv.specs.Records.{IsBetween, text_so_far}
use Rattle.mintcx_csv.specs.Slacks.{slack_fields, slack_record}
use Rattle.mintcx_csv.specs.Tables.{text_of}
use Rattle.mintcx_csv.proofs.slacks.places_csv.Given as goal

-- the records so far are written, and the next one may come
abbrev pub invariant-loop-place : goal.invariant-loop-place
invariant-loop-place l = record {
  between : IsBetween l.records;
  text : text_so_far l.records ≡ text_of (slack_fields ∷ map (slack_record l.system) (take l.place-index l.places));
}
