-- The stages of a chain are counted, its rows are in few cycles, and what a valid certificate keeps.
use Rattle.std.proofs.Common.{◌≡◌, ℕ, zero, suc, ◌<◌, ◌≤◌, ◌+◌, ℤ, List, [], ◌∷◌, ◌++◌, length, map, take, drop, arith, subst, sym, ap, ◌∙◌}
use Rattle.std.specs.Prelude.{All}
use Rattle.std.specs.List.{range_with_len}
use Rattle.std.proofs.lemmas.List.{length-append, length-take}
use Rattle.std.proofs.lemmas.List.FromFn.{length-map-range_with_len}
use Rattle.std.proofs.lemmas.List.Sums.{sum_by-cons}
use Rattle.std.proofs.lemmas.List.Elements.{All-nil, All-cons, All-tail, All-append, All-push, All-map, All-take, All-drop}
use Rattle.mintc_text.specs.declared.limits.TheConstants.{MOST_MEMBERS}
use Rattle.mintc_timing.specs.declared.clocking.Schedule.{Schedule}
use Rattle.mintc_timing.specs.Design.{Design, Timing}
use Rattle.mintc_certificate.specs.declared.members.Member.{Member}
use Rattle.mintc_certificate.specs.declared.members.Member.TheVariants as member
use Rattle.mintc_certificate.specs.CertificateText.{IsCounted as IsCountedMember}
use Rattle.mintc_certificate.specs.declared.certificate.Certificate.TheVariants.{Least}
use Rattle.mintc_certificate.specs.Ranges.{IsLeastInRange}
use Rattle.mintc_certificate.specs.Valid.{IsMember, IsValid, counts, ring}
use Rattle.mintcx_chain.specs.declared.rows.Row.{Row}
use Rattle.mintcx_chain.specs.declared.stages.Stage.{Stage}
use Rattle.mintcx_chain.specs.Names.{IsShort}
use Rattle.mintcx_chain.specs.Rows.{IsClocked, cycle_at, last_row, row_at, rows_of}
use Rattle.mintcx_chain.specs.Stages.{stage_of}
use Rattle.mintcx_chain.specs.Sums.{cycles_of}
use Rattle.mintcx_optima.specs.Optimum.{AreStages}
use Rattle.mintcx_draw.specs.Lanes.{IsSoon}
use Rattle.mintcx_draw.specs.Parts.{IsCounted}

-- the stage of a member
module _ (design : Design) where
  member_counted : (m : Member) → IsCountedMember m → IsCounted (stage_of design m)
  member_counted (member.Start p) g = omega arith
  member_counted (member.Cycle p) g = omega arith
  member_counted (member.Order p) g = omega arith
  member_counted (member.Span p) g = omega arith
  member_counted (member.Width p) g = omega arith
  member_counted (member.Apart i j) g = omega arith
  member_counted (member.Opening l) g = omega arith
  member_counted (member.Opened l) g = omega arith
  member_counted (member.Reach j l path) g = g.2
  member_counted (member.Setup l) g = omega arith
  member_counted (member.Bound n) g = omega arith

  members_counted : (members : List Member) → All IsCountedMember members → All (λ (m : Member). IsCounted (stage_of design m)) members
  members_counted [] counted = All-nil (λ (m : Member). IsCounted (stage_of design m))
  members_counted (m ∷ members) counted =
      All-cons (λ (x : Member). IsCounted (stage_of design x)) m members (member_counted m (counted 0 m (omega arith)))
      (members_counted members (All-tail IsCountedMember m members counted))

  -- the stages of a chain from its beginning
  pub counted_of : (d : List ℤ) (members : List Member) (stages : List Stage) → All IsCountedMember members → AreStages design d members stages → All IsCounted stages
  counted_of d members stages counted (n, begins, same) =
      let whole : List Stage = map (stage_of design) members in
      let all = All-map IsCounted (stage_of design) members (members_counted members counted) in
      subst (All IsCounted) (sym same) (All-append IsCounted (drop n whole) (take n whole) (All-drop IsCounted n whole all) (All-take IsCounted n whole all))

-- a stage has one cycle at most
few_cycles : (ks : List Stage) → All IsShort ks → cycles_of ks ≤ length ks
few_cycles [] h = omega arith
few_cycles (k ∷ ks) h =
    let one : k.cycles ≤ 1 = (h 0 k (omega arith)).cycles in
    let rest = few_cycles ks (All-tail IsShort k ks h) in
    let all : cycles_of (k ∷ ks) ≡ k.cycles + cycles_of ks = sum_by-cons (λ (x : Stage). x.cycles) k ks in
    omega (arith, all, one, rest)

All-range : (Q : ℕ → Type 0) (a n : ℕ) → ((k : ℕ) → Q k) → All Q (range_with_len a n)
All-range Q a zero each = All-nil Q
All-range Q a (suc n) each = All-cons Q a (range_with_len (a + 1) n) (each a) (All-range Q (a + 1) n each)

-- so each row is in one of the first cycles
module _ (design : Design) (s : Schedule) (d : List ℤ) (stages : List Stage) (short : All IsShort stages) (most : length stages ≤ MOST_MEMBERS) where
  soon : (k : ℕ) → cycle_at stages k ≤ 1000000
  soon k =
      let few = few_cycles (take k stages) (All-take IsShort k stages short) in
      omega (arith, length-take k stages)

  pub rows_soon : All IsSoon (rows_of design s d stages)
  rows_soon =
      All-push IsSoon (map (row_at design s d stages) (range_with_len 0 (length stages))) (last_row design s d stages)
      (All-map IsSoon (row_at design s d stages) (range_with_len 0 (length stages)) (All-range (λ k. IsSoon (row_at design s d stages k)) 0 (length stages) soon))
      (soon (length stages))

-- a row for each stage, and one more
pub rows_count : (design : Design) (s : Schedule) (d : List ℤ) (stages : List Stage) → length (rows_of design s d stages) ≡ length stages + 1
rows_count design s d stages =
    length-append (map (row_at design s d stages) (range_with_len 0 (length stages))) (last_row design s d stages ∷ [])
    ∙ ap (λ n. n + 1) (length-map-range_with_len (row_at design s d stages) 0 (length stages))

-- what a valid certificate in its ranges keeps
pub clocked : (t : Timing) (s : Schedule) (d : List ℤ) (chain : List Member) → IsValid t (Least s d chain) → IsLeastInRange s d chain → IsClocked t.flat s d
clocked t s d chain valid range = record {
  in_range = range.schedule_in;
  phases = (valid counts).0;
  departures = range.each;
  elements = (valid counts).2;
}

pub members_of_least : (t : Timing) (s : Schedule) (d : List ℤ) (chain : List Member) → IsValid t (Least s d chain) → All (IsMember t) chain
members_of_least t s d chain valid = (valid ring).0
