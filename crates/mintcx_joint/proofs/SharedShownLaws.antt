-- The members of the chain of an optimum are shown by corners that are there.
use Rattle.std.proofs.Common.{◌≡◌, ℕ, zero, suc, ◌<◌, ◌≤◌, ℤ, List, [], ◌∷◌, length, get_or, arith, refl, ap, ◌∙◌, sym, subst}
use Rattle.std.specs.Prelude.{All}
use Rattle.std.proofs.lemmas.List.{get_or_default}
use Rattle.mintc_timing.specs.declared.clocking.Schedule.{Schedule}
use Rattle.mintc_timing.specs.Design.{Design, Timing, phase_count}
use Rattle.mintc_timing.specs.Limits.{IsInRange, IsPhase}
use Rattle.mintc_timing.specs.Numbers.{DifferInNumbers}
use Rattle.mintc_certificate.specs.declared.members.Member.{Member}
use Rattle.mintc_certificate.specs.declared.members.Member.TheVariants as member
use Rattle.mintc_certificate.specs.CertificateText.{IsCounted}
use Rattle.mintc_certificate.specs.Valid.{IsMember, IsNamed}
use Rattle.mintc_corners.specs.declared.members.CornerMember.{CornerMember}
use Rattle.mintc_corners.specs.declared.certificate.CornerCertificate.TheVariants.{Least, Never}
use Rattle.mintc_corners.specs.CornerOptimum.{corner_of, IsCornerChainInRange, IsCornerRing, IsOfClock, IsOfCorner, IsOptimumOf}
use Rattle.mintc_corners.specs.Joined.{no_timing}
use Rattle.mintc_corners.specs.Joint.{AreCorners, AreJointlyRight, side_by_side}
use Rattle.mintcx_joint.specs.Shown.{corner_at, shown_by, widest_corner, IsNumbered, IsShown}
use Rattle.mintcx_joint.proofs.SharedTurnLaws.{widest_below}

-- what is read of the first corner is its design
pub first_design : (ts : List Timing) (t : Timing) (design : Design) → 1 ≤ length ts → design ≡ (get_or ts 0 t).flat → design ≡ (corner_at ts 0).flat
first_design ts t design some same =
    let below : 0 < length ts = omega arith in
    same ∙ ap (λ (u : Timing). u.flat) (get_or_default ts 0 t no_timing below)

-- each corner differs from the first in numbers alone
pub differ : (t : Timing) (ts : List Timing) (c : ℕ) (none : Timing) → AreCorners (t ∷ ts) → c < length ts → DifferInNumbers t.flat (get_or ts c none).flat
differ t [] c none are below = absurd (omega arith)
differ t (u ∷ ts) zero none are below = are.0
differ t (u ∷ ts) (suc c) none are below = differ t ts c none are.1 (omega arith)

-- so it has as many phases
pub phases_of_corner : (t : Timing) (ts : List Timing) (c : ℕ) → AreCorners (t ∷ ts) → c < length (t ∷ ts) → phase_count (corner_at (t ∷ ts) c).flat ≡ phase_count t.flat
phases_of_corner t ts zero are below = refl
phases_of_corner t ts (suc c) are below = ap length (differ t ts c no_timing are (omega arith)).phases

phases_beside : (t : Timing) (ts : List Timing) → phase_count (side_by_side t ts).flat ≡ phase_count t.flat
phases_beside t [] = refl
phases_beside t (u ∷ ts) = refl

bounds_beside : (t : Timing) (ts : List Timing) → length (side_by_side t ts).flat.bounds ≡ length t.flat.bounds
bounds_beside t [] = refl
bounds_beside t (u ∷ ts) = refl

module _ (t : Timing) (ts : List Timing) (are : AreCorners (t ∷ ts)) where
  abbrev all : List Timing
  all = t ∷ ts

  phase_in : (c p : ℕ) → c < length (t ∷ ts) → IsPhase (phase_count (side_by_side t ts).flat) p → IsPhase (phase_count (corner_at (t ∷ ts) c).flat) p
  phase_in c p below h = subst (λ (n : ℕ). IsPhase n p) (phases_beside t ts ∙ sym (phases_of_corner t ts c are below)) h

  first_below : 0 < length (t ∷ ts)
  first_below = omega arith

  -- a member of the clock is named in the first corner
  in_first : (m : Member) → (shown_by (t ∷ ts) 0 m ≡ 0) → IsOfClock m → IsNamed t.flat m → IsCounted m → IsShown (t ∷ ts) (record { corner = 0; member = m })
  in_first m is clock named counted =
      record {
        there = subst (λ (c : ℕ). c < length (t ∷ ts)) (sym is) first_below;
        numbered = subst (λ (c : ℕ). IsNumbered (corner_at (t ∷ ts) c) 0 m) (sym is) (clock, named);
        counted = counted;
      }

  of_clock : (m : Member) → IsOfClock m → IsMember (side_by_side t ts) m → IsCounted m → IsShown (t ∷ ts) (record { corner = 0; member = m })
  of_clock (member.Start p) clock h counted = in_first (member.Start p) refl tt (phase_in 0 p first_below h) counted
  of_clock (member.Cycle p) clock h counted = in_first (member.Cycle p) refl tt (phase_in 0 p first_below h) counted
  of_clock (member.Order p) clock h counted = in_first (member.Order p) refl tt (h.0, subst (λ (n : ℕ). p < n) (phases_beside t ts) h.1) counted
  of_clock (member.Span p) clock h counted = in_first (member.Span p) refl tt (phase_in 0 p first_below h) counted
  of_clock (member.Width p) clock h counted =
      let below = widest_below (t ∷ ts) p first_below in
      record { there = below; numbered = (tt, phase_in (widest_corner (t ∷ ts) p) p below h); counted = counted }
  of_clock (member.Apart i j) clock h counted = in_first (member.Apart i j) refl tt (phase_in 0 i first_below h.0, phase_in 0 j first_below h.1) counted
  of_clock (member.Opening l) clock h counted = absurd clock
  of_clock (member.Opened l) clock h counted = absurd clock
  of_clock (member.Reach j l path) clock h counted = absurd clock
  of_clock (member.Setup l) clock h counted = absurd clock
  of_clock (member.Bound n) clock h counted = in_first (member.Bound n) refl tt (subst (λ (k : ℕ). n < k) (bounds_beside t ts) h) counted

  -- a member of a corner's elements is named in it
  in_own : (c : ℕ) (m : Member) → c < length (t ∷ ts) → shown_by (t ∷ ts) (suc c) m ≡ c → IsMember (corner_of t ts c) m → IsCounted m → IsShown (t ∷ ts) (record { corner = suc c; member = m })
  in_own c m below is named counted =
      record {
        there = subst (λ (k : ℕ). k < length (t ∷ ts)) (sym is) below;
        numbered = subst (λ (k : ℕ). IsMember (corner_at (t ∷ ts) k) m) (sym is)
            (subst (λ (u : Timing). IsMember u m) (get_or_default (t ∷ ts) c t no_timing below) named);
        counted = counted;
      }

  of_corner : (n : ℕ) (m : Member) → IsOfCorner t ts n m → IsCounted m → IsShown (t ∷ ts) (record { corner = n; member = m })
  of_corner zero m h counted = of_clock m h.0 h.1 counted
  of_corner (suc c) (member.Start p) h counted = absurd (h.1.1 tt)
  of_corner (suc c) (member.Cycle p) h counted = absurd (h.1.1 tt)
  of_corner (suc c) (member.Order p) h counted = absurd (h.1.1 tt)
  of_corner (suc c) (member.Span p) h counted = absurd (h.1.1 tt)
  of_corner (suc c) (member.Width p) h counted = absurd (h.1.1 tt)
  of_corner (suc c) (member.Apart i j) h counted = absurd (h.1.1 tt)
  of_corner (suc c) (member.Opening l) h counted = in_own c (member.Opening l) h.0 (omega arith) h.1.0 counted
  of_corner (suc c) (member.Opened l) h counted = in_own c (member.Opened l) h.0 (omega arith) h.1.0 counted
  of_corner (suc c) (member.Reach j l path) h counted = in_own c (member.Reach j l path) h.0 (omega arith) h.1.0 counted
  of_corner (suc c) (member.Setup l) h counted = in_own c (member.Setup l) h.0 (omega arith) h.1.0 counted
  of_corner (suc c) (member.Bound n) h counted = absurd (h.1.1 tt)

  all_shown : (chain : List CornerMember) → IsCornerRing t ts chain → IsCornerChainInRange chain → All (IsShown (t ∷ ts)) chain
  all_shown chain ring range k d below =
      let m = get_or chain k d in
      of_corner m.corner m.member (ring.each k d below) (range.each k d below).1

  first_right : (s : Schedule) (ds : List (List ℤ)) → AreJointlyRight (t ∷ ts) s ds → length s.starts ≡ phase_count t.flat
  first_right s [] h = absurd h
  first_right s (d ∷ ds) h = h.0.clock.starts

-- what the text of a schedule needs of the optimum
pub record IsTold (ts : List Timing) (s : Schedule) (chain : List CornerMember) : Type 0 where
  pub in_range : IsInRange s
  pub phases : length s.starts ≡ phase_count (corner_at ts 0).flat
  pub chain_in : IsCornerChainInRange chain
  pub shown : All (IsShown ts) chain

pub told_of_least : (ts : List Timing) (s : Schedule) (ds : List (List ℤ)) (chain : List CornerMember) → AreCorners ts → IsOptimumOf ts (Least s ds chain) → IsTold ts s chain
told_of_least [] s ds chain are h = absurd h
told_of_least (t ∷ ts) s ds chain are h =
    record {
      in_range = h.in_range.schedule_in;
      phases = first_right t ts are s ds h.valid.0;
      chain_in = h.in_range.chain_in;
      shown = all_shown t ts are chain h.valid.1 h.in_range.chain_in;
    }

-- and that of a chain that forbids all
pub chain_of_never : (ts : List Timing) (chain : List CornerMember) → IsOptimumOf ts (Never chain) → IsCornerChainInRange chain
chain_of_never [] chain h = absurd h
chain_of_never (t ∷ ts) chain h = h.in_range

pub shown_of_never : (ts : List Timing) (chain : List CornerMember) → AreCorners ts → IsOptimumOf ts (Never chain) → All (IsShown ts) chain
shown_of_never [] chain are h = absurd h
shown_of_never (t ∷ ts) chain are h = all_shown t ts are chain h.valid.0 h.in_range
