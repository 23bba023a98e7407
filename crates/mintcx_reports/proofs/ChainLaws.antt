-- The stages of a chain go along arcs of the design, its rows are in few cycles, and what a valid certificate keeps.
use Rattle.std.proofs.Common.{◌≡◌, ℕ, zero, suc, ◌<◌, ◌≤◌, ◌+◌, ℤ, List, [], ◌∷◌, ◌++◌, length, map, take, drop, arith, subst, sym, ap, ◌∙◌}
use Rattle.std.specs.Prelude.{All}
use Rattle.std.specs.List.{range_with_len}
use Rattle.std.proofs.lemmas.List.{length-append, length-take}
use Rattle.std.proofs.lemmas.List.FromFn.{length-map-range_with_len}
use Rattle.std.proofs.lemmas.List.Sums.{sum_by-cons}
use Rattle.std.proofs.lemmas.List.Elements.{All-nil, All-cons, All-tail, All-append, All-push, All-map, All-take, All-drop}
use Rattle.mintc_text.specs.declared.limits.TheConstants.{MOST_MEMBERS}
use Rattle.mintc_timing.specs.declared.clocking.Schedule.{Schedule}
use Rattle.mintc_timing.specs.Design.{Design, Timing}
use Rattle.mintc_timing.specs.Paths.{input_of, output_of}
use Rattle.mintc_certificate.specs.declared.members.Member.{Member}
use Rattle.mintc_certificate.specs.declared.members.Member.TheVariants as member
use Rattle.mintc_certificate.specs.CertificateText.{IsCounted}
use Rattle.mintc_certificate.specs.Valid.{IsMember}
use Rattle.mintc_certificate.proofs.SharedPathDelays.{Leads-inside}
use Rattle.mintcx_chain.specs.declared.rows.Row.{Row}
use Rattle.mintcx_chain.specs.declared.stages.Stage.{Stage}
use Rattle.mintcx_chain.specs.Names.{IsShort}
use Rattle.mintcx_chain.specs.Rows.{cycle_at, last_row, row_at, rows_of}
use Rattle.mintcx_chain.specs.Stages.{stage_of}
use Rattle.mintcx_chain.specs.Sums.{cycles_of}
use Rattle.mintcx_optima.specs.Optimum.{AreStages}
use Rattle.mintcx_reports.specs.Hops.{IsTraced}

-- the stage of a member
module _ (t : Timing) where
  no_arcs : All (λ n. n < length t.flat.arcs) []
  no_arcs = All-nil (λ n. n < length t.flat.arcs)

  member_traced : (m : Member) → IsMember t m → IsCounted m → IsTraced t.flat (stage_of t.flat m)
  member_traced (member.Start p) h g = record { few = omega arith; inside = no_arcs }
  member_traced (member.Cycle p) h g = record { few = omega arith; inside = no_arcs }
  member_traced (member.Order p) h g = record { few = omega arith; inside = no_arcs }
  member_traced (member.Span p) h g = record { few = omega arith; inside = no_arcs }
  member_traced (member.Width p) h g = record { few = omega arith; inside = no_arcs }
  member_traced (member.Apart i j) h g = record { few = omega arith; inside = no_arcs }
  member_traced (member.Opening l) h g = record { few = omega arith; inside = no_arcs }
  member_traced (member.Opened l) h g = record { few = omega arith; inside = no_arcs }
  member_traced (member.Reach j l path) h g =
      record { few = g.2; inside = Leads-inside t.flat.arcs (output_of j) path (input_of l) h.2.1 }
  member_traced (member.Setup l) h g = record { few = omega arith; inside = no_arcs }
  member_traced (member.Bound n) h g = record { few = omega arith; inside = no_arcs }

  members_traced : (members : List Member) → All (IsMember t) members → All IsCounted members → All (λ (m : Member). IsTraced t.flat (stage_of t.flat m)) members
  members_traced [] each counted = All-nil (λ (m : Member). IsTraced t.flat (stage_of t.flat m))
  members_traced (m ∷ members) each counted =
      All-cons (λ (x : Member). IsTraced t.flat (stage_of t.flat x)) m members (member_traced m (each 0 m (omega arith)) (counted 0 m (omega arith)))
      (members_traced members (All-tail (IsMember t) m members each) (All-tail IsCounted m members counted))

  -- the stages of a chain from its beginning
  pub traced_of : (d : List ℤ) (members : List Member) (stages : List Stage) → All (IsMember t) members → All IsCounted members →
      AreStages t.flat d members stages → All (IsTraced t.flat) stages
  traced_of d members stages each counted (n, begins, same) =
      let whole : List Stage = map (stage_of t.flat) members in
      let all = All-map (IsTraced t.flat) (stage_of t.flat) members (members_traced members each counted) in
      subst (All (IsTraced t.flat)) (sym same) (All-append (IsTraced t.flat) (drop n whole) (take n whole) (All-drop (IsTraced t.flat) n whole all) (All-take (IsTraced t.flat) n whole all))

-- a stage has one cycle at most
few_cycles : (ks : List Stage) → All IsShort ks → cycles_of ks ≤ length ks
few_cycles [] h = omega arith
few_cycles (k ∷ ks) h =
    let one : k.cycles ≤ 1 = (h 0 k (omega arith)).cycles in
    let rest = few_cycles ks (All-tail IsShort k ks h) in
    let all : cycles_of (k ∷ ks) ≡ k.cycles + cycles_of ks = sum_by-cons (λ (x : Stage). x.cycles) k ks in
    omega (arith, all, one, rest)

All-range : (Q : ℕ → Type 0) (a n : ℕ) → ((k : ℕ) → Q k) → All Q (range_with_len a n)
All-range Q a zero each = All-nil Q
All-range Q a (suc n) each = All-cons Q a (range_with_len (a + 1) n) (each a) (All-range Q (a + 1) n each)

-- so each row is in one of the first cycles
module _ (design : Design) (s : Schedule) (d : List ℤ) (stages : List Stage) (short : All IsShort stages) (most : length stages ≤ MOST_MEMBERS) where
  abbrev IsSoon : Row → Type 0
  IsSoon row = row.cycle ≤ 1000000

  soon : (k : ℕ) → cycle_at stages k ≤ 1000000
  soon k =
      let few = few_cycles (take k stages) (All-take IsShort k stages short) in
      omega (arith, length-take k stages)

  pub rows_soon : All IsSoon (rows_of design s d stages)
  rows_soon =
      All-push IsSoon (map (row_at design s d stages) (range_with_len 0 (length stages))) (last_row design s d stages)
      (All-map IsSoon (row_at design s d stages) (range_with_len 0 (length stages)) (All-range (λ k. IsSoon (row_at design s d stages k)) 0 (length stages) soon))
      (soon (length stages))

-- a row for each stage, and one more
pub rows_count : (design : Design) (s : Schedule) (d : List ℤ) (stages : List Stage) → length (rows_of design s d stages) ≡ length stages + 1
rows_count design s d stages =
    length-append (map (row_at design s d stages) (range_with_len 0 (length stages))) (last_row design s d stages ∷ [])
    ∙ ap (λ n. n + 1) (length-map-range_with_len (row_at design s d stages) 0 (length stages))
