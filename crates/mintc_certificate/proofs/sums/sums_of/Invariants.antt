use Rattle.std.proofs.Common.{◌≡◌, ◌*◌, pos, neg_ℤ, ◌≤ℤ◌, take}
use Rattle.mintc_timing.specs.Links.{cycles_of, delay_of}
use Rattle.mintc_certificate.specs.Valid.{links_of_members}
use Rattle.mintc_certificate.proofs.sums.sums_of.Given as goal

-- the sums over the members so far
abbrev pub invariant-loop-member : goal.invariant-loop-member
invariant-loop-member l = record {
  delay_is : l.delay ≡ delay_of (links_of_members l.flat (take l.member-index l.members));
  delay_low : neg_ℤ (pos (l.member-index * 2000000000)) ≤ℤ l.delay;
  delay_high : l.delay ≤ℤ pos (l.member-index * 2000000000);
  cycles_is : l.cycles ≡ cycles_of (links_of_members l.flat (take l.member-index l.members));
  cycles_low : pos 0 ≤ℤ l.cycles;
  cycles_high : l.cycles ≤ℤ pos l.member-index;
}
