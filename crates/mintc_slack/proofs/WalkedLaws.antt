-- Walks from the moment of an element.
use Rattle.std.proofs.Common.{◌≤◌, ◌≡◌, ◌≢◌, ℕ, ◌<◌, ◌+◌, ◌*◌, ℤ, pos, Bool, true, false, cond, List, [], ◌∷◌, length, get_or, arith, refl, ap, ◌∙◌, subst, ⊎_elim}
use Rattle.std.proofs.lemmas.Int.{ints}
use Rattle.std.proofs.lemmas.Bool.{cases_eq}
use Rattle.std.specs.List.{Contains}
use Rattle.mintc_text.specs.declared.limits.TheConstants.{SHORT_NODES}
use Rattle.mintc_fraction.specs.Ratio.{Ratio}
use Rattle.mintc_timing.specs.declared.link.Link.{Link}
use Rattle.mintc_timing.specs.Design.{Timing, element_at, element_count, phase_count, phase_of, no_element}
use Rattle.mintc_timing.specs.Limits.{IsDesign, IsPhase}
use Rattle.mintc_timing.specs.Links.{links_of, element_node, start_node, end_node, cycle_link, setup_link, span_link, link_at}
use Rattle.mintc_timing.specs.Links.{node_count}
use Rattle.mintc_constraints.specs.Ordinary.{Constraints, IsOrdinary, Leads, constraints_of}
use Rattle.mintc_timing.proofs.SharedByKind.{stands}
use Rattle.mintc_constraints.proofs.SharedOrdinaryLaws.{number_of}
use Rattle.mintc_graph_walks.specs.declared.network.TheConstants.{UNREACHED}
use Rattle.mintc_graph_walks.specs.Bounds.{AreBounded, IsWithin}
use Rattle.mintc_graph_walks.specs.Walks.{value_at}
use Rattle.mintc_ratio.specs.From.{AreGreatestFrom, StayWithin}
use Rattle.mintc_slack.specs.Short.{IsShortCycle}
use Rattle.mintc_slack.specs.WalkedFrom.{AreSettled}
use Rattle.mintc_slack.specs.PairRoom.{AreFrom}
use Rattle.mintc_slack.proofs.SizeLaws.{asked_small, larger}

-- a link before a walk
longer : (links : List Link) (k : Link) (a b c : ℕ) → Contains links k → k.from ≡ a → k.to ≡ b →
    (walk : List ℕ) × Leads links b walk c → (walk : List ℕ) × Leads links a walk c
longer links k a b c h from to rest =
    let found = number_of links k h in
    let leaves : (link_at links found.0).from ≡ a = ap (λ (x : Link). x.from) found.2 ∙ from in
    let ends : (link_at links found.0).to ≡ b = ap (λ (x : Link). x.to) found.2 ∙ to in
    (found.0 ∷ rest.0, (found.1, leaves, rw ends rest.1))

-- a walk from each element back to time 0
pub back_of : (t : Timing) → IsDesign t.flat → (l : ℕ) → l < element_count t.flat → (walk : List ℕ) × Leads (links_of t) (element_node t.flat l) walk 0
back_of t limits l h = go (element_at t.flat l).flop refl
  where
    p : IsPhase (phase_count t.flat) (phase_of t.flat l)
    p = (limits.each_element l no_element h).phase

    home : (walk : List ℕ) × Leads (links_of t) (start_node (phase_of t.flat l)) walk 0
    home = longer (links_of t) (cycle_link (phase_of t.flat l)) (start_node (phase_of t.flat l)) 0 0 ((stands t).cycle (phase_of t.flat l) p) refl refl ([], refl)

    go : (b : Bool) → (element_at t.flat l).flop ≡ b → (walk : List ℕ) × Leads (links_of t) (element_node t.flat l) walk 0
    go true flop = longer (links_of t) (setup_link t.flat l) (element_node t.flat l) (start_node (phase_of t.flat l)) 0 ((stands t).setup l h) refl
        (ap (λ (b : Bool). cond b (start_node (phase_of t.flat l)) (end_node (phase_of t.flat l))) flop) home
    go false latch = longer (links_of t) (setup_link t.flat l) (element_node t.flat l) (end_node (phase_of t.flat l)) 0 ((stands t).setup l h) refl
        (ap (λ (b : Bool). cond b (start_node (phase_of t.flat l)) (end_node (phase_of t.flat l))) latch)
        (longer (links_of t) (span_link (phase_of t.flat l)) (end_node (phase_of t.flat l)) (start_node (phase_of t.flat l)) 0 ((stands t).span (phase_of t.flat l) p) refl refl home)

-- what the code begins with
module _ (list : Constraints) (at : Ratio) (from : ℕ) (starts : List ℤ) (count : length starts ≡ list.nodes) (here : value_at starts from ≡ pos 0)
    (others : (node : ℕ) → node < list.nodes → node ≢ from → value_at starts node ≡ UNREACHED)
  where
    pub bounded : (b : ℕ) → AreBounded b starts
    bounded b v h = ⊎_elim
        (λ (e : v ≡ from).
        let is : value_at starts v ≡ pos 0 = ap (λ (k : ℕ). value_at starts k) e ∙ here in
        (omega (arith, ints), λ r. (omega (arith, ints), omega (arith, ints))))
        (λ (e : v ≡ from → ⊥).
        let is = others v (let c = count in omega arith) e in
        (omega (arith, ints), λ r. absurd (omega (arith, ints))))
        (cases_eq v from)

-- and what it ends with
module _ (t : Timing) (list : Constraints) (list_is : list ≡ constraints_of (node_count t.flat) (links_of t)) (at : Ratio) (l : ℕ) (starts values : List ℤ) where
  pub are_from : AreGreatestFrom list at (element_node t.flat l) values → AreFrom t at l values
  are_from h =
      let g = subst (λ (c : Constraints). AreGreatestFrom c at (element_node t.flat l) values) list_is h in
      record {
        zero = g.here;
        met = λ n d below. let here = g.met n d below in omega (arith, ints);
        walked = g.asked;
      }

  pub are_within : IsShortCycle at → IsOrdinary list → list.nodes ≤ SHORT_NODES → AreBounded 0 starts → StayWithin list at starts values → (node : ℕ) → node < node_count t.flat → IsWithin 30000000000000000 (value_at values node)
  are_within is all few bounds stay node h =
      let count = ap (λ (c : Constraints). c.nodes) list_is in
      larger (0 + list.nodes * 13000000000000) 30000000000000000 (value_at values node) (omega arith)
      (stay 0 13000000000000 bounds (λ n d below. let k = all.each n d below in let low = k.delay.0 in let high = k.delay.1 in asked_small at (get_or list.links n d) is (omega (arith, ints), omega (arith, ints)) k.cycles) node (omega arith))

  pub are_settled : IsShortCycle at → IsOrdinary list → list.nodes ≤ SHORT_NODES → AreBounded 0 starts → StayWithin list at starts values → AreGreatestFrom list at (element_node t.flat l) values → AreSettled t at l values
  are_settled is all few bounds stay h = record {
    count = h.count ∙ ap (λ (c : Constraints). c.nodes) list_is;
    small = λ node below. larger 30000000000000000 200000000000000000 (value_at values node) (omega arith) (are_within is all few bounds stay node below);
    from = are_from h;
  }
