-- What a valid certificate in its ranges keeps.
use Rattle.std.proofs.Common.{◌≡◌, ℕ, ℤ, List}
use Rattle.std.specs.Prelude.{All}
use Rattle.mintc_timing.specs.declared.clocking.Schedule.{Schedule}
use Rattle.mintc_timing.specs.Design.{Timing}
use Rattle.mintc_timing.specs.Limits.{IsInRange}
use Rattle.mintc_certificate.specs.declared.certificate.Certificate.TheVariants.{Least, Never}
use Rattle.mintc_certificate.specs.declared.members.Member.{Member}
use Rattle.mintc_certificate.specs.Ranges.{IsDeparture, IsLeastInRange}
use Rattle.mintc_certificate.specs.Valid.{IsMember, IsValid, counts, ring}
use Rattle.mintc_safe.specs.declared.certificate.SafeCertificate.TheVariants as safe
use Rattle.mintc_safe.specs.declared.members.SafeMember.{SafeMember}
use Rattle.mintc_safe.specs.SafeOptimum.{IsSafeLeastInRange, IsSafeMember, IsSafeValid}
use Rattle.mintcx_chain.specs.Rows.{IsClocked}
use Rattle.mintcx_cycles.specs.AtCycles.{IsRightAt, IsShortAt}

pub clocked : (t : Timing) (s : Schedule) (d : List ℤ) (chain : List Member) → IsValid t (Least s d chain) → IsLeastInRange s d chain → IsClocked t.flat s d
clocked t s d chain valid range = record {
  in_range = range.schedule_in;
  phases = (valid counts).0;
  departures = range.each;
  elements = (valid counts).2;
}

pub members_of_least : (t : Timing) (s : Schedule) (d : List ℤ) (chain : List Member) → IsValid t (Least s d chain) → All (IsMember t) chain
members_of_least t s d chain valid = (valid ring).0

pub members_of_never : (t : Timing) (chain : List Member) → IsValid t (Never chain) → All (IsMember t) chain
members_of_never t chain valid = (valid ring).0

-- the same where each hold is kept
pub safe_clocked : (t : Timing) (s : Schedule) (d : List ℤ) (chain : List SafeMember) → IsSafeValid t (safe.Least s d chain) → IsSafeLeastInRange s d chain → IsClocked t.flat s d
safe_clocked t s d chain valid range = record {
  in_range = range.schedule_in;
  phases = valid.0.right.clock.starts;
  departures = range.each;
  elements = valid.0.right.exact.count;
}

pub safe_members_of_least : (t : Timing) (s : Schedule) (d : List ℤ) (chain : List SafeMember) → IsSafeValid t (safe.Least s d chain) → All (IsSafeMember t) chain
safe_members_of_least t s d chain valid = valid.1.each

pub safe_members_of_never : (t : Timing) (chain : List SafeMember) → IsSafeValid t (safe.Never chain) → All (IsSafeMember t) chain
safe_members_of_never t chain valid = valid.0.each

-- and at a cycle time that is asked for
pub right_clocked : (t : Timing) (cycle : ℕ) (s : Schedule) (d : List ℤ) → IsRightAt t cycle s d → IsInRange s → All IsDeparture d → IsClocked t.flat s d
right_clocked t cycle s d found range each = record {
  in_range = range;
  phases = found.right.clock.starts;
  departures = each;
  elements = found.right.exact.count;
}

pub members_of_short : (t : Timing) (cycle : ℕ) (chain : List Member) → IsShortAt t cycle chain → All (IsMember t) chain
members_of_short t cycle chain found = found.ring.0
