-- The member that stands for a safe link, by the link's kind.
use Rattle.std.proofs.Common.{◌≡◌, ℕ, ◌+◌, ◌*◌, ◌<◌, ℤ, true, List, length, get_or, arith, refl, ap, subst}
use Rattle.std.specs.List.{All, Contains}
use Rattle.std.proofs.lemmas.List.Elements.{All-append, All-contains, All-contains_itself}
use Rattle.mintc_timing.specs.declared.link.Link.{Link}
use Rattle.mintc_timing.specs.declared.link.LinkKind.{LinkKind}
use Rattle.mintc_timing.specs.declared.link.LinkKind.TheVariants as kind
use Rattle.mintc_timing.specs.Design.{Timing, element_at, pair_at, no_pair}
use Rattle.mintc_timing.specs.Limits.{IsDesign}
use Rattle.mintc_timing.specs.Links.{links_of}
use Rattle.mintc_timing.specs.Order.{IsTiming}
use Rattle.mintc_timing.specs.Paths.{IsPath, input_of, least_delay}
use Rattle.mintc_certificate.specs.declared.members.Member.{Member}
use Rattle.mintc_certificate.specs.declared.members.Member.TheVariants as member
use Rattle.mintc_certificate.specs.Valid.{link_of}
use Rattle.mintc_optimise.specs.Making.{StandsFor as StandsForPlain}
use Rattle.mintc_optimise.proofs.SharedPathLaws.{arcs_below, path_short}
use Rattle.mintc_optimise.proofs.SharedStandingLaws.{of_kind, slowest}
use Rattle.mintc_safe.specs.declared.members.SafeMember.TheVariants.{Plain, Hold}
use Rattle.mintc_safe.specs.SafeOptimum.{bare, StandsFor, IsSlowest}
use Rattle.mintc_safe.specs.Hold.{hold_link, hold_link_of, hold_links_of, safe_links_of}
use Rattle.mintc_safe.proofs.HoldLaws.{All-holds}

-- What is known of a safe link by its kind: it is the hold of a pair, or a link of the design.
abbrev pub IsOfSafeKind : Timing → Link → LinkKind → Type 0
IsOfSafeKind t k (kind.Other n) = (n < length t.pairs) × ((element_at t.flat (pair_at t n).to).has_hold ≡ true) × (k ≡ hold_link_of t.flat (n, pair_at t n))
IsOfSafeKind t k which = Contains (links_of t) k

module _ (t : Timing) (limits : IsDesign t.flat) where
  of_design : (k : Link) (which : LinkKind) → k.kind ≡ which → Contains (links_of t) k → IsOfSafeKind t k which
  of_design k (kind.Other n) is listed = absurd (of_kind t limits k (kind.Other n) is listed)
  of_design k which is listed = listed

  each_of_kind : All (λ k. IsOfSafeKind t k k.kind) (safe_links_of t)
  each_of_kind = All-append (λ k. IsOfSafeKind t k k.kind) (links_of t) (hold_links_of t)
      (λ n d h. of_design (get_or (links_of t) n d) (get_or (links_of t) n d).kind refl (All-contains_itself (links_of t) n d h))
      (All-holds t (λ k. IsOfSafeKind t k k.kind) (λ n h held. (h, held, refl)))

  pub of_safe_kind : (k : Link) (which : LinkKind) → k.kind ≡ which → Contains (safe_links_of t) k → IsOfSafeKind t k which
  of_safe_kind k which is listed =
      subst (λ (w : LinkKind). IsOfSafeKind t k w) is (All-contains (λ k. IsOfSafeKind t k k.kind) (safe_links_of t) k each_of_kind listed)

  -- a safe link of no pair's hold is the design's
  pub is_of_design : (k : Link) → ((n : ℕ) → k.kind ≡ kind.Other n → ⊥) → Contains (safe_links_of t) k → Contains (links_of t) k
  is_of_design k none listed = go k.kind refl
    where
      go : (which : LinkKind) → k.kind ≡ which → Contains (links_of t) k
      go (kind.Other n) is = absurd (none n is)
      go which is = of_safe_kind k which is listed

  module _ (kept : IsTiming t.flat t.order t.pairs) where
    is_slowest : (k : Link) (m : Member) → Contains (links_of t) k → link_of t.flat m ≡ k → IsSlowest t.flat m
    is_slowest k (member.Reach j l path) listed same = slowest t limits kept k j l path listed same
    is_slowest k m listed same = tt

    pub plain_stands : (k : Link) (m : Member) → Contains (links_of t) k → StandsForPlain t k m → StandsFor t k (Plain m)
    plain_stands k m listed h = record { member = (h.member, is_slowest k m listed h.same); same = ap bare h.same; counted = h.counted }

    -- The member for the hold of a pair, with a path that has the pair's least delay.
    pub hold_stands : (n : ℕ) (path : List ℕ) → n < length t.pairs → (element_at t.flat (pair_at t n).to).has_hold ≡ true → IsPath t.flat.arcs (pair_at t n).from path (input_of (pair_at t n).to) →
        least_delay t.flat.arcs path ≡ (pair_at t n).min → StandsFor t (hold_link_of t.flat (n, pair_at t n)) (Hold (pair_at t n).from (pair_at t n).to path)
    hold_stands n path h held is_path summed =
        let p = pair_at t n in
        let ends = kept.extremes.each n no_pair h in
        let count = kept.ordered.count in
        let short = path_short t.flat.arcs t.order kept.ordered (2 * p.from + 1) path (2 * p.to) is_path.1 in
        record {
          member = (ends.from, ends.to, held, is_path, rw summed ends.least);
          same = ap (λ (x : ℤ). bare (hold_link t.flat 0 p.from p.to x)) summed;
          counted = (omega arith, omega arith, omega arith, is_path.0, arcs_below t.flat.arcs (2 * p.from + 1) path (2 * p.to) 999999999 (omega arith) is_path.1);
        }
