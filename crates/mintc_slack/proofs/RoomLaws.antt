-- Raised pairs and the room that is left for them.
use Rattle.std.proofs.Common.{◌≡◌, ℕ, zero, suc, ◌<◌, ℤ, pos, negsuc, ◌≤ℤ◌, ◌<ℤ◌, ◌+ℤ◌, ◌-ℤ◌, ◌*ℤ◌, Bool, true, false, cond, List, [], ◌∷◌, length, get_or, arith, refl, ap, sym, subst, ⊎_elim, ◌⊎◌, inl, inr}
use Rattle.std.proofs.lemmas.Int.{ints, by_lt_z}
use Rattle.std.proofs.Math.IntN.{*ℤ_comm}
use Rattle.std.specs.List.{All}
use Rattle.mintc_fraction.specs.Ratio.{Ratio, over as over_of}
use Rattle.mintc_graph_walks.specs.Walks.{value_at}
use Rattle.mintc_timing.specs.declared.clocking.Schedule.{Schedule}
use Rattle.mintc_timing.specs.declared.parts.Pair.{Pair}
use Rattle.mintc_timing.specs.declared.link.Link.{Link}
use Rattle.mintc_timing.specs.Design.{Timing, element_at, element_count, pair_at, phase_of, no_element, no_pair}
use Rattle.mintc_timing.specs.Clocking.{crosses_of}
use Rattle.mintc_timing.specs.Limits.{IsDesign}
use Rattle.mintc_timing.specs.Links.{links_of, delay_of, cycles_of, element_node, output_node, reach_link, start_node, IsMet}
use Rattle.mintc_timing.specs.Right.{IsRight, IsLeastCycle, IsHopeless}
use Rattle.mintc_timing.proofs.SharedDeterminedLaws.{least_cycle_is_determined_lem}
use Rattle.mintc_timing.proofs.SharedProducts.{add-times, swap-times, times-mono_positive}
use Rattle.mintc_constraints.specs.Duality.{moments_of}
use Rattle.mintc_timing.specs.Paths.{HasEnds}
use Rattle.mintc_timing.specs.Links.{node_count}
use Rattle.mintc_constraints.specs.Ordinary.{Leads}
use Rattle.mintc_timing.proofs.SharedByKind.{EachKind, All-links, EachKind-from_all}
use Rattle.mintc_constraints.proofs.SharedExistenceLaws.{feasible_has_right_lem, has_least_or_is_hopeless_lem}
use Rattle.mintc_constraints.proofs.SharedRightLaws.{right_has_moments_lem}
use Rattle.mintc_ratio.specs.Chains.{links_at}
use Rattle.mintc_ratio.specs.Greatest.{asked_by}
use Rattle.mintc_constraints.proofs.SharedWalkLaws.{walked}
use Rattle.mintc_slack.specs.Raised.{raised, with_pairs}
use Rattle.mintc_slack.specs.PairRoom.{AreFrom, IsWhole, room_of}
use Rattle.mintc_slack.specs.Slack.{IsSlack, IsSlower}
use Rattle.mintc_slack.specs.Laws.{RoomIsSlack, RoomIsThere, SlackIsDetermined}
use Rattle.mintc_slack.proofs.RaisedLaws.{AreAlike, alike-back, alike-both, each-alike, ends-alike, holds-less, raised-alike, raised-at, raised-here, raised-less, raised-more}

cycles_low : (ks : List Link) → pos 0 ≤ℤ cycles_of ks
cycles_low [] = omega (arith, ints)
cycles_low (k ∷ ks) = let rest = cycles_low ks in omega (arith, ints)

at-most : {x y : ℤ} → x ≡ y → x ≤ℤ y
at-most h = omega (arith, ints)

-- Where num / den is less than s / d, and s / d is at most a / b, it is less than a / b.
below-most : (num den s d a b : ℤ) → pos 1 ≤ℤ den → pos 1 ≤ℤ d → pos 1 ≤ℤ b → (num *ℤ d) <ℤ (s *ℤ den) → (s *ℤ b) ≤ℤ (a *ℤ d) → (num *ℤ b) <ℤ (a *ℤ den)
below-most num den s d a b some some' some'' less most = by_lt_z (num *ℤ b) (a *ℤ den) (λ h. h)
    (λ more.
    let grown = times-mono_positive (a *ℤ den) (num *ℤ b) d more some' in
    let grown' = times-mono_positive ((num *ℤ d) +ℤ pos 1) (s *ℤ den) b (omega (arith, ints)) some'' in
    let grown'' = times-mono_positive (s *ℤ b) (a *ℤ d) den most some in
    let split = add-times (num *ℤ d) (pos 1) b in
    absurd (omega (arith, ints, swap-times a den d, swap-times s den b, swap-times num b d)))

-- A chain that asks for more than its cycles at num / den, and not at a / b, says that num / den is less.
cross-below : (delay cycles num den a b : ℤ) → pos 1 ≤ℤ den → pos 1 ≤ℤ b → pos 0 ≤ℤ cycles → (cycles *ℤ num) <ℤ (delay *ℤ den) → (delay *ℤ b) ≤ℤ (cycles *ℤ a) → (num *ℤ b) <ℤ (a *ℤ den)
cross-below delay (negsuc c) num den a b some some' low over fits = absurd (omega (arith, ints))
cross-below delay (pos zero) num den a b some some' low over fits = by_lt_z (pos 0) delay
    (λ more. let grown = times-mono_positive (pos 1) delay b (omega (arith, ints)) some' in absurd (omega (arith, ints)))
    (λ none. let grown = times-mono_positive delay (pos 0) den none some in absurd (omega (arith, ints)))
cross-below delay (pos (suc c)) num den a b some some' low over fits =
    below-most num den delay (pos (suc c)) a b some (omega (arith, ints)) some' (rw (*ℤ_comm num (pos (suc c))) over) (rw (*ℤ_comm a (pos (suc c))) fits)

module _ (t : Timing) (limits : IsDesign t.flat) (ends : HasEnds t) (n : ℕ) (below : n < length t.pairs) where
  raised-ends : (u : ℤ) → HasEnds (raised t n u)
  raised-ends u = ends-alike t t.pairs (raised t n u).pairs (raised-alike t n below u) ends

  -- The moments of a right schedule, as a function, meet each link.
  right-meets : (u : ℤ) (s : Schedule) (d : List ℤ) → IsRight (raised t n u) s d → All (IsMet s.cycle s.den (λ node. value_at (moments_of (raised t n u).flat s d) node)) (links_of (raised t n u))
  right-meets u s d right = (right_has_moments_lem (raised t n u) s d limits (raised-ends u) right).moments.met

  -- A right schedule of the raised timing leaves one with pairs of the same elements that have no greater delays.
  right-less : (u : ℤ) (qs : List Pair) → AreAlike (raised t n u).pairs qs → ((m : ℕ) → (get_or qs m no_pair).max ≤ℤ (pair_at (raised t n u) m).max) → (s : Schedule) (d : List ℤ) → IsRight (raised t n u) s d →
      (s' : Schedule) × (d' : List ℤ) × IsRight (with_pairs t qs) s' d' × (s'.cycle ≡ s.cycle) × (s'.den ≡ s.den)
  right-less u qs alike less s d right =
      let f = λ (node : ℕ). value_at (moments_of (raised t n u).flat s d) node in
      feasible_has_right_lem (with_pairs t qs) s.cycle s.den f limits (ends-alike t (raised t n u).pairs qs alike (raised-ends u)) right.clock.den
      (holds-less t (raised t n u).pairs qs alike s.cycle s.den f right.clock.den less (right-meets u s d right))

  alike-own : (u : ℤ) → AreAlike (raised t n u).pairs t.pairs
  alike-own u = alike-back t.pairs (raised t n u).pairs (raised-alike t n below u)

  module _ (at : Ratio) (least : IsLeastCycle t at.num at.den) (values : List ℤ) (from : AreFrom t at (pair_at t n).to values) where
    abbrev p : Pair
    p = pair_at t n

    abbrev f : ℕ → ℤ
    f node = value_at values node

    pub there : pos 0 ≤ℤ room_of t.flat at values p
    there =
        let each = EachKind-from_all t (IsMet at.num at.den (value_at values)) from.met in
        let here = each.reach n below in
        omega (arith, ints)

    -- Raised by what there is room for, the pair's link still holds of the values.
    raised-holds : (u : ℤ) → pos 0 ≤ℤ u → (u *ℤ at.den) ≤ℤ room_of t.flat at values p → All (IsMet at.num at.den f) (links_of (raised t n u))
    raised-holds u low fits =
        All-links (raised t n u) (IsMet at.num at.den f) (each-alike t t.pairs (raised t n u).pairs (raised-alike t n below u) (IsMet at.num at.den f) each reaches)
      where
        each : EachKind t (IsMet at.num at.den f)
        each = EachKind-from_all t (IsMet at.num at.den f) from.met

        here : IsMet at.num at.den f (reach_link t.flat p.from p.to (p.max +ℤ u))
        here =
            let sum : (element_at t.flat p.from).dq_max +ℤ (p.max +ℤ u) ≡ ((element_at t.flat p.from).dq_max +ℤ p.max) +ℤ u = omega (arith, ints) in
            let same = ap (λ (x : ℤ). x *ℤ at.den) sum in
            let split = add-times ((element_at t.flat p.from).dq_max +ℤ p.max) u at.den in
            omega (arith, ints)

        reaches : (m : ℕ) → m < length t.pairs → IsMet at.num at.den f (reach_link t.flat (pair_at t m).from (pair_at t m).to (pair_at (raised t n u) m).max)
        reaches m h = raised-at t n below u m (λ q. IsMet at.num at.den f (reach_link t.flat (pair_at t m).from (pair_at t m).to q.max))
            (λ e. subst (λ (k : ℕ). IsMet at.num at.den f (reach_link t.flat (pair_at t k).from (pair_at t k).to ((pair_at t k).max +ℤ u))) (sym e) here)
            (λ e. each.reach m h)

    pub kept : (u : ℤ) → pos 0 ≤ℤ u → (u *ℤ at.den) ≤ℤ room_of t.flat at values p → IsLeastCycle (raised t n u) at.num at.den
    kept u low fits =
        let found = feasible_has_right_lem (raised t n u) at.num at.den f limits (raised-ends u) least.positive (raised-holds u low fits) in
        record {
          positive = least.positive;
          attained = (found.0, found.1, found.2, rw (found.3, found.4) refl);
          least = λ s d right. let other = right-less u t.pairs (alike-own u) (raised-more t n below u low) s d right in rw (other.3, other.4) at (least.least other.0 other.1 other.2);
        }

    -- Raised by more, the pair's link and the greatest walk back are a chain that takes more than its cycles.
    walk : (walk : List ℕ) × Leads (links_of t) (element_node t.flat p.to) walk (output_node t.flat p.from) × (asked_by at (links_at (links_of t) walk) ≡ value_at values (output_node t.flat p.from))
    walk = from.walked (output_node t.flat p.from) (output_below (element_at t.flat p.from).flop)
      where
        named : p.from < element_count t.flat
        named = (ends n no_pair below).0

        output_below : (b : Bool) → cond b (start_node (phase_of t.flat p.from)) (element_node t.flat p.from) < node_count t.flat
        output_below true = let phase = (limits.each_element p.from no_element named).phase in let low = phase.0 in let high = phase.1 in omega arith
        output_below false = omega arith

    abbrev back : List Link
    back = links_at (links_of t) walk.0

    abbrev c : ℕ
    c = crosses_of (phase_of t.flat p.from) (phase_of t.flat p.to)

    -- The cycle time of a right schedule of it is greater.
    module _ (u : ℤ) (low : pos 0 ≤ℤ u) (over : room_of t.flat at values p <ℤ (u *ℤ at.den)) (s : Schedule) (d : List ℤ) (right : IsRight (raised t n u) s d) where
      abbrev g : ℕ → ℤ
      g node = value_at (moments_of (raised t n u).flat s d) node

      met : All (IsMet s.cycle s.den g) (links_of (raised t n u))
      met = right-meets u s d right

      around : (g (element_node t.flat p.to) +ℤ asked_by (over_of s.cycle s.den) back) ≤ℤ g (output_node t.flat p.from)
      around =
          let meets = holds-less t (raised t n u).pairs t.pairs (alike-own u) s.cycle s.den g right.clock.den (raised-more t n below u low) met in
          let risen = walked s.cycle s.den g (links_of t) meets (element_node t.flat p.to) walk.0 (output_node t.flat p.from) walk.1 in
          omega (arith, ints)

      reach : (g (output_node t.flat p.from) +ℤ (((element_at t.flat p.from).dq_max +ℤ p.max) +ℤ u) *ℤ s.den -ℤ pos c *ℤ s.cycle) ≤ℤ g (element_node t.flat p.to)
      reach =
          let each = EachKind-from_all (raised t n u) (IsMet s.cycle s.den g) met in
          let inside : n < length (raised t n u).pairs = (let count = (raised-alike t n below u).count in omega arith) in
          let here = subst (λ (q : Pair). IsMet s.cycle s.den g (reach_link t.flat q.from q.to q.max)) (raised-here t n below u) (each.reach n inside) in
          let sum : (element_at t.flat p.from).dq_max +ℤ (p.max +ℤ u) ≡ ((element_at t.flat p.from).dq_max +ℤ p.max) +ℤ u = omega (arith, ints) in
          let same = ap (λ (x : ℤ). x *ℤ s.den) sum in
          omega (arith, ints)

      fits : (((((element_at t.flat p.from).dq_max +ℤ p.max) +ℤ u) +ℤ delay_of back) *ℤ s.den) ≤ℤ ((pos c +ℤ cycles_of back) *ℤ s.cycle)
      fits =
          let delays = add-times (((element_at t.flat p.from).dq_max +ℤ p.max) +ℤ u) (delay_of back) s.den in
          let cycles = add-times (pos c) (cycles_of back) s.cycle in
          omega (arith, ints, around, reach)

      too_much : ((pos c +ℤ cycles_of back) *ℤ at.num) <ℤ (((((element_at t.flat p.from).dq_max +ℤ p.max) +ℤ u) +ℤ delay_of back) *ℤ at.den)
      too_much =
          let delays = add-times (((element_at t.flat p.from).dq_max +ℤ p.max) +ℤ u) (delay_of back) at.den in
          let delays' = add-times ((element_at t.flat p.from).dq_max +ℤ p.max) u at.den in
          let cycles = add-times (pos c) (cycles_of back) at.num in
          omega (arith, ints, walk.2)

      above : (at.num *ℤ s.den) <ℤ (s.cycle *ℤ at.den)
      above = cross-below ((((element_at t.flat p.from).dq_max +ℤ p.max) +ℤ u) +ℤ delay_of back) (pos c +ℤ cycles_of back) at.num at.den s.cycle s.den least.positive right.clock.den
          (let turns = cycles_low back in omega (arith, ints)) too_much fits

    pub lost : (u : ℤ) → pos 0 ≤ℤ u → room_of t.flat at values p <ℤ (u *ℤ at.den) → IsSlower (raised t n u) at.num at.den ⊎ IsHopeless (raised t n u)
    lost u low over = ⊎_elim
        (λ (slower : (num : ℤ) × (den : ℤ) × IsLeastCycle (raised t n u) num den).
        let found = slower.2.attained in
        inl (record {
          other_num = slower.0;
          other_den = slower.1;
          least = slower.2;
          above = below-most at.num at.den found.0.cycle found.0.den slower.0 slower.1 least.positive found.2.clock.den slower.2.positive (above u low over found.0 found.1 found.2) (at-most found.3);
        }))
        (λ (none : IsHopeless (raised t n u)). inr none)
        (has_least_or_is_hopeless_lem (raised t n u) limits (raised-ends u))

    whole-low : (u : ℤ) → IsWhole at (room_of t.flat at values p) u → pos 0 ≤ℤ u
    whole-low u whole = by_lt_z u (pos 0)
        (λ negative.
        let none = times-mono_positive (u +ℤ pos 1) (pos 0) at.den (omega (arith, ints)) least.positive in
        let some = there in
        absurd (omega (arith, ints)))
        (λ h. h)

    pub slack : (u : ℤ) → IsWhole at (room_of t.flat at values p) u → IsSlack t at.num at.den n u
    slack u whole =
        let low = whole-low u whole in
        record {
          least = least;
          low = low;
          kept = kept u low whole.fits;
          lost = lost (u +ℤ pos 1) (omega (arith, ints)) whole.most;
        }

-- With a greater slack there is a right schedule where there should be none.
slack-least : (t : Timing) (num den num' den' : ℤ) (n : ℕ) (u v : ℤ) → IsDesign t.flat → HasEnds t → n < length t.pairs → IsSlack t num den n u → IsSlack t num' den' n v → u <ℤ v → ⊥
slack-least t num den num' den' n u v limits ends below a b less =
    let w = u +ℤ pos 1 in
    let found = b.kept.attained in
    let alike = alike-both t.pairs (raised t n v).pairs (raised t n w).pairs (raised-alike t n below v) (raised-alike t n below w) in
    let other = right-less t limits ends n below v (raised t n w).pairs alike (raised-less t n below w v (omega (arith, ints))) found.0 found.1 found.2 in
    let same : other.0.cycle *ℤ den' ≡ num' *ℤ other.0.den = rw (other.3, other.4) found.3 in
    let equal = least_cycle_is_determined_lem t num den num' den' a.least b.least in
    ⊎_elim
    (λ (slower : IsSlower (raised t n w) num den).
    let one = below-most num den slower.other_num slower.other_den other.0.cycle other.0.den a.least.positive slower.least.positive other.2.clock.den slower.above (slower.least.least other.0 other.1 other.2) in
    let two = below-most num den other.0.cycle other.0.den num' den' a.least.positive other.2.clock.den b.least.positive one (at-most same) in
    omega (arith, ints))
    (λ (none : IsHopeless (raised t n w)). none other.0 other.1 other.2)
    a.lost

pub slack_is_determined_lem : SlackIsDetermined
slack_is_determined_lem t num den num' den' n u v limits ends below a b = by_lt_z u v
    (λ less. absurd (slack-least t num den num' den' n u v limits ends below a b less))
    (λ less. by_lt_z v u (λ less'. absurd (slack-least t num' den' num den n v u limits ends below b a less')) (λ less'. both u v less less'))
  where
    both : (x y : ℤ) → y ≤ℤ x → x ≤ℤ y → x ≡ y
    both x y g h = omega (arith, ints)

pub room_is_there_lem : RoomIsThere
room_is_there_lem t at values n limits ends least below from = there t limits ends n below at least values from

pub room_is_slack_lem : RoomIsSlack
room_is_slack_lem t at values n u limits ends least below from whole = slack t limits ends n below at least values from u whole
