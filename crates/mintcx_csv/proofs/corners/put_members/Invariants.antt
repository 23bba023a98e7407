use Rattle.std.proofs.Common.{◌≡◌, ◌++◌, map, take}
use Rattle.mintcx_chain.specs.Turning.{turned}
use Rattle.mintcx_csv.specs.Corners.{member_record}
use Rattle.mintcx_csv.specs.Records.{IsBetween, text_so_far}
use Rattle.mintcx_csv.specs.Tables.{text_of}
use Rattle.mintcx_csv.proofs.corners.put_members.Given as goal

-- the records so far are written, and the next one may come
abbrev pub invariant-loop-at : goal.invariant-loop-at
invariant-loop-at l = record {
  between : IsBetween l.records;
  text : text_so_far l.records ≡ text_so_far l.initial.records ++ text_of (map (member_record l.systems) (take l.at (turned l.ring.first l.ring.members.now)));
}
