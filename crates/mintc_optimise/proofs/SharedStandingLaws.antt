-- Members that stand for links, one after another, and the one that stands for a link of a design, by the link's kind.
use Rattle.std.proofs.Common.{◌≡◌, ℕ, ◌+◌, ◌*◌, ◌<◌, ℤ, ◌-ℤ◌, List, length, get_or, arith, refl, ap, sym, subst, ◌∙◌, ◌∷◌, [], ◌++◌, take}
use Rattle.std.specs.List.{All, Contains}
use Rattle.std.proofs.lemmas.Int.{ints}
use Rattle.std.proofs.lemmas.List.{get_or_default, take_more, map-append}
use Rattle.std.proofs.lemmas.List.Elements.{All-contains, All-push}
use Rattle.mintc_timing.specs.declared.link.Link.{Link}
use Rattle.mintc_timing.specs.declared.link.LinkKind.{LinkKind}
use Rattle.mintc_timing.specs.declared.link.LinkKind.TheVariants as kind
use Rattle.mintc_timing.specs.Design.{Timing, element_at, element_count, pair_at, no_pair}
use Rattle.mintc_timing.specs.Limits.{IsDesign}
use Rattle.mintc_timing.specs.Links.{links_of, bound_link, reach_link, no_link, link_at}
use Rattle.mintc_timing.specs.Order.{IsTiming}
use Rattle.mintc_timing.specs.Paths.{IsGreatestDelay, IsPath, input_of, greatest_delay}
use Rattle.mintc_timing.proofs.SharedByKind.{EachKind, All-links}
use Rattle.mintc_certificate.specs.declared.members.Member.TheVariants as member
use Rattle.mintc_certificate.specs.Valid.{link_of, no_bound}
use Rattle.mintc_paths.specs.declared.trace.Extreme.TheVariants.{Greatest}
use Rattle.mintc_paths.specs.Finding.{IsDelayOf}
use Rattle.mintc_optimise.specs.Making.{Stands, StandInOrder, StandsFor}
use Rattle.mintc_optimise.proofs.SharedPathLaws.{arcs_below, path_short}

-- What is known of a link by its kind: which member stands for it, and at a reach which pair it is of.
abbrev pub IsOfKind : Timing → Link → LinkKind → Type 0
IsOfKind t k (kind.Start p) = StandsFor t k (member.Start p)
IsOfKind t k (kind.Cycle p) = StandsFor t k (member.Cycle p)
IsOfKind t k (kind.Order p) = StandsFor t k (member.Order p)
IsOfKind t k (kind.Span p) = StandsFor t k (member.Span p)
IsOfKind t k (kind.Width p) = StandsFor t k (member.Width p)
IsOfKind t k (kind.Apart i j) = StandsFor t k (member.Apart i j)
IsOfKind t k (kind.Opening l) = StandsFor t k (member.Opening l)
IsOfKind t k (kind.Opened l) = StandsFor t k (member.Opened l)
IsOfKind t k (kind.Reach j l) =
    (n : ℕ) × (n < length t.pairs) × ((pair_at t n).from ≡ j) × ((pair_at t n).to ≡ l) × (reach_link t.flat j l (pair_at t n).max ≡ k)
IsOfKind t k (kind.Setup l) = StandsFor t k (member.Setup l)
IsOfKind t k (kind.Bound n) = StandsFor t k (member.Bound n)
IsOfKind t k (kind.Other n) = ⊥

-- one more member at the end
pub stand_more : {M : Type 0} {meant few : M → Type 0} {shows : M → Link} (link : ℕ → Link) (chain : List ℕ) (i : ℕ) (members : List M) (m : M) → i < length chain →
    StandInOrder meant few shows link (take i chain) members → Stands meant few shows (link (get_or chain i 0)) m → StandInOrder meant few shows link (take (i + 1) chain) (members ++ m ∷ [])
stand_more {M} {meant} {few} {shows} link chain i members m h before here = record {
  each = All-push meant members m before.each here.member;
  same = rw (take_more chain i 0 h, map-append shows members (m ∷ []), map-append link (take i chain) (get_or chain i 0 ∷ []), before.same, here.same) refl;
  counted = All-push few members m before.counted here.counted;
}

-- one more member at the end, of the link that the code reads
pub stand_read : {M : Type 0} {meant few : M → Type 0} {shows : M → Link} (see : Link → Link) (links : List Link) (chain : List ℕ) (i : ℕ) (members : List M) (m : M) (d : Link) → i < length chain →
    All (λ e. e < length links) chain → StandInOrder meant few shows (λ e. see (link_at links e)) (take i chain) members → Stands meant few shows (see (get_or links (get_or chain i 0) d)) m →
    StandInOrder meant few shows (λ e. see (link_at links e)) (take (i + 1) chain) (members ++ m ∷ [])
stand_read {M} {meant} {few} {shows} see links chain i members m d h exist before here =
    stand_more (λ e. see (link_at links e)) chain i members m h before (subst (λ (k : Link). Stands meant few shows (see k) m) (get_or_default links (get_or chain i 0) d no_link (exist i 0 h)) here)

module _ (t : Timing) (limits : IsDesign t.flat) where
  each_of_kind : EachKind t (λ k. IsOfKind t k k.kind)
  each_of_kind =
      record {
        start = λ p h. let high = h.1 in record { member = h; same = refl; counted = omega arith };
        cycle = λ p h. let high = h.1 in record { member = h; same = refl; counted = omega arith };
        order = λ p low high. record { member = (low, high); same = refl; counted = omega arith };
        span = λ p h. let high = h.1 in record { member = h; same = refl; counted = omega arith };
        width = λ p h. let high = h.1 in record { member = h; same = refl; counted = omega arith };
        apart = λ i j g h fed. let one = g.1 in let two = h.1 in record { member = (g, h, fed); same = refl; counted = (omega arith, omega arith) };
        opening = λ l h. record { member = h; same = refl; counted = omega arith };
        opened = λ l h latch. record { member = (h, latch); same = refl; counted = omega arith };
        reach = λ n h. (n, h, refl, refl, refl);
        setup = λ l h. record { member = h; same = refl; counted = omega arith };
        bound = λ n e h. record { member = h; same = ap (bound_link n) (get_or_default t.flat.bounds n no_bound e h); counted = omega arith };
      }

  pub of_kind : (k : Link) (which : LinkKind) → k.kind ≡ which → Contains (links_of t) k → IsOfKind t k which
  of_kind k which is listed =
      subst (λ (w : LinkKind). IsOfKind t k w) is (All-contains (λ k. IsOfKind t k k.kind) (links_of t) k (All-links t (λ k. IsOfKind t k k.kind) each_of_kind) listed)

  -- What a reach asks for beside its first element's delay is the greatest one of its pair.
  pub delay_of_reach : (k : Link) (j l : ℕ) (h : IsOfKind t k (kind.Reach j l)) (delay : ℤ) → delay ≡ k.delay -ℤ (element_at t.flat j).dq_max → delay ≡ (pair_at t h.0).max
  delay_of_reach k j l h delay is =
      let asked = ap (λ (x : Link). x.delay) h.4 in
      omega (arith, ints)

  pub pair_of_reach : (k : Link) (j l : ℕ) → IsOfKind t k (kind.Reach j l) → (delay : ℤ) → delay ≡ k.delay -ℤ (element_at t.flat j).dq_max → IsDelayOf Greatest t.pairs j l delay
  pair_of_reach k j l h delay is =
      (pair_at t h.0, (h.0, h.1, get_or_default t.pairs h.0 (pair_at t h.0) no_pair h.1), h.2, h.3, sym (delay_of_reach k j l h delay is))

  module _ (kept : IsTiming t.flat t.order t.pairs) where
    pub leaves : (k : Link) (j l : ℕ) → IsOfKind t k (kind.Reach j l) → j < element_count t.flat
    leaves k j l h = let from = (kept.extremes.each h.0 no_pair h.1).from in let first = h.2 in omega arith

    pub reach_stands : (k : Link) (j l : ℕ) (path : List ℕ) → IsOfKind t k (kind.Reach j l) → IsPath t.flat.arcs j path (input_of l) →
        (delay : ℤ) → delay ≡ k.delay -ℤ (element_at t.flat j).dq_max → greatest_delay t.flat.arcs path ≡ delay → StandsFor t k (member.Reach j l path)
    reach_stands k j l path h is_path asked asked_is summed =
        let ends = kept.extremes.each h.0 no_pair h.1 in
        let short = path_short t.flat.arcs t.order kept.ordered (2 * j + 1) path (2 * l) is_path.1 in
        let delay = summed ∙ delay_of_reach k j l h asked asked_is in
        record {
          member = (omega arith, omega arith, is_path);
          same = ap (reach_link t.flat j l) delay ∙ h.4;
          counted = (omega arith, omega arith, omega arith, is_path.0, arcs_below t.flat.arcs (2 * j + 1) path (2 * l) 999999999 (omega arith) is_path.1);
        }

    -- The member that stands for a listed reach has a path with the greatest delay.
    pub slowest : (k : Link) (j l : ℕ) (path : List ℕ) → Contains (links_of t) k → link_of t.flat (member.Reach j l path) ≡ k → IsGreatestDelay t.flat.arcs j (input_of l) (greatest_delay t.flat.arcs path)
    slowest k j l path listed same =
        let h = of_kind k (kind.Reach j l) (ap (λ (x : Link). x.kind) (sym same)) listed in
        let asked = ap (λ (x : Link). x.delay) (same ∙ sym h.4) in
        let sum : (pair_at t h.0).max ≡ greatest_delay t.flat.arcs path = omega (arith, ints) in
        rw (h.2, h.3, sum) at (kept.extremes.each h.0 no_pair h.1).greatest
