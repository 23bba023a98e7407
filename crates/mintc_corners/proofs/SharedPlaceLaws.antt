-- Where the link of a corner stands among those of all.
use Rattle.std.proofs.Common.{◌≡◌, ℕ, zero, suc, ◌<◌, ◌≤◌, ◌+◌, ◌*◌, ℤ, List, [], ◌∷◌, ◌++◌, length, get_or, map, take, arith, refl, ap, ◌∙◌, sym, zero-add, length-append}
use Rattle.std.specs.List.{flat_map}
use Rattle.std.proofs.Math.ListN.{get_or-append}
use Rattle.std.proofs.Math.Nat.{suc-mul}
use Rattle.std.proofs.lemmas.List.{append-nil, get_or-append-add, get_or-map, length-map}
use Rattle.mintc_text.specs.declared.limits.TheConstants.{MOST_ELEMENTS}
use Rattle.mintc_timing.specs.declared.link.Link.{Link}
use Rattle.mintc_timing.specs.declared.parts.Element.{Element}
use Rattle.mintc_timing.specs.Design.{Timing, element_count}
use Rattle.mintc_timing.specs.Limits.{IsDesign}
use Rattle.mintc_timing.specs.Links.{links_of, node_count}
use Rattle.mintc_constraints.specs.Ordinary.{Constraints, IsOrdinary, constraints_of}
use Rattle.mintc_constraints.proofs.SharedOrdinaryLaws.{few_links}
use Rattle.mintc_constraints.proofs.SharedModestLaws.{modest_links_are_ordinary_lem}
use Rattle.mintc_corners.specs.Lifted.{lifted_link, widest}
use Rattle.mintc_corners.specs.Joint.{joint_nodes, side_by_side, AreCorners}
use Rattle.mintc_timing.specs.Numbers.{DifferInNumbers}
use Rattle.mintc_corners.specs.Joined.{clock_count, joined, joined_links, own_list}
use Rattle.mintc_corners.specs.Laws.{AreBeside, AreSystems}
use Rattle.mintc_corners.proofs.JointLaws.{corners_are_modest_lem, differ-from, phases_are}
use Rattle.mintc_corners.proofs.JoinedLaws.{joined_listed, links_joined}
use Rattle.mintc_corners.proofs.LiftLaws.{elements_before}
use Rattle.mintc_corners.proofs.TransferLaws.{carried_ordinary}

pub joined_length : (wide : ℕ → ℤ) (clock before : ℕ) (ts : List Timing) → length (joined wide clock before ts) ≡ length (flat_map (λ (l : Constraints). l.links) (map own_list ts))
joined_length wide clock before [] = refl
joined_length wide clock before (t ∷ ts) =
    let all = length-append (map (lifted_link wide clock before) (links_of t)) (joined wide clock (before + element_count t.flat) ts) in
    let own = length-map (links_of t) (lifted_link wide clock before) in
    let rest = joined_length wide clock (before + element_count t.flat) ts in
    let lists = length-append (links_of t) (flat_map (λ (l : Constraints). l.links) (map own_list ts)) in
    omega arith

abbrev links_before : List Timing → ℕ → ℕ
links_before ts c = length (flat_map (λ (l : Constraints). l.links) (take c (map own_list ts)))

pub joined_at : (wide : ℕ → ℤ) (clock before : ℕ) (ts : List Timing) (c i : ℕ) (none : Timing) (d : Link) → c < length ts → i < length (links_of (get_or ts c none)) →
    get_or (joined wide clock before ts) (links_before ts c + i) d ≡ lifted_link wide clock (before + elements_before ts c) (get_or (links_of (get_or ts c none)) i d)
joined_at wide clock before [] c i none d g h = absurd (omega arith)
joined_at wide clock before (t ∷ ts) zero i none d g h =
    let count = length-map (links_of t) (lifted_link wide clock before) in
    let same : before + 0 ≡ before = omega arith in
    rw (zero-add i, same)
    (get_or-append (map (lifted_link wide clock before) (links_of t)) (joined wide clock (before + element_count t.flat) ts) d i (omega arith)
    ∙ get_or-map (lifted_link wide clock before) (links_of t) i d d h)
joined_at wide clock before (t ∷ ts) (suc c) i none d g h =
    let own = map (lifted_link wide clock before) (links_of t) in
    let rest = joined wide clock (before + element_count t.flat) ts in
    let count = length-map (links_of t) (lifted_link wide clock before) in
    let sum = length-append (links_of t) (flat_map (λ (l : Constraints). l.links) (take c (map own_list ts))) in
    let at : links_before (t ∷ ts) (suc c) + i ≡ length own + (links_before ts c + i) = omega arith in
    let same : before + (element_count t.flat + elements_before ts c) ≡ (before + element_count t.flat) + elements_before ts c = omega arith in
    rw (at, same) (get_or-append-add own rest (links_before ts c + i) d ∙ joined_at wide clock (before + element_count t.flat) ts c i none d (omega arith) h)

-- Corners have as many elements each.
pub alike : (t u : Timing) → DifferInNumbers t.flat u.flat → element_count u.flat ≡ element_count t.flat
alike t u h = sym (length-map u.flat.elements _) ∙ ap length h.elements ∙ length-map t.flat.elements _

pub before_is : (t : Timing) (ts : List Timing) (c : ℕ) → AreCorners (t ∷ ts) → c < length (t ∷ ts) → elements_before (t ∷ ts) c ≡ c * element_count t.flat
before_is t ts zero are h = omega arith
before_is t [] (suc c) are h = absurd (omega arith)
before_is t (u ∷ ts) (suc c) are h =
    let rest = before_is u ts c (differ-from t u ts are.0 are.1) (omega arith) in
    let same = alike t u are.0 in
    let product = suc-mul c (element_count t.flat) in
    let own : c * element_count u.flat ≡ c * element_count t.flat = ap (λ (n : ℕ). c * n) same in
    omega arith

-- the elements of all, and the nodes
elements_are : (t : Timing) (ts : List Timing) → (side_by_side t ts).flat.elements ≡ flat_map (λ (u : Timing). u.flat.elements) (t ∷ ts)
elements_are t [] = sym (append-nil t.flat.elements)
elements_are t (u ∷ ts) = ap (λ (es : List Element). t.flat.elements ++ es) (elements_are u ts)

pub count_is : (t : Timing) (ts : List Timing) → element_count (side_by_side t ts).flat ≡ length (flat_map (λ (u : Timing). u.flat.elements) (t ∷ ts))
count_is t ts = ap length (elements_are t ts)

pub nodes_are : (t : Timing) (ts : List Timing) → joint_nodes (t ∷ ts) ≡ node_count (side_by_side t ts).flat
nodes_are t ts =
    let count = count_is t ts in
    let phases = phases_are t ts in
    omega arith

-- few links
few_in_turn : (wide : ℕ → ℤ) (clock before : ℕ) (ts : List Timing) → AreSystems ts → length (joined wide clock before ts) ≤ length ts * 50000000
few_in_turn wide clock before [] h = omega arith
few_in_turn wide clock before (t ∷ ts) h =
    let here = few_links t h.0 (omega arith) in
    let rest = few_in_turn wide clock (before + element_count t.flat) ts h.2 in
    let all = length-append (map (lifted_link wide clock before) (links_of t)) (joined wide clock (before + element_count t.flat) ts) in
    let count = length-map (links_of t) (lifted_link wide clock before) in
    omega arith

module _ (t : Timing) (ts : List Timing) (are : AreCorners (t ∷ ts)) (systems : AreSystems (t ∷ ts)) (some : length ts ≤ 3) (few : element_count (side_by_side t ts).flat ≤ MOST_ELEMENTS) where
  pub design : IsDesign (side_by_side t ts).flat
  design = (corners_are_modest_lem t ts are systems some few).1

  pub besides : AreBeside t ts
  besides = (corners_are_modest_lem t ts are systems some few).0

  pub joined_ordinary : IsOrdinary (constraints_of (joint_nodes (t ∷ ts)) (joined_links (t ∷ ts)))
  joined_ordinary = rw (nodes_are t ts)
      (carried_ordinary (links_of (side_by_side t ts)) (joined_links (t ∷ ts)) (links_joined t ts are systems besides) (joined_listed t ts are systems besides) (node_count (side_by_side t ts).flat)
      (let all = few_in_turn (widest (t ∷ ts)) (clock_count (t ∷ ts)) 0 (t ∷ ts) systems in omega arith)
      (modest_links_are_ordinary_lem (side_by_side t ts) design (corners_are_modest_lem t ts are systems some few).2))

-- What holds of a first corner and the others, a few with few elements, holds of such corners.
pub by_first : (P : List Timing → Type 0) → ((t : Timing) (ts : List Timing) → AreCorners (t ∷ ts) → AreSystems (t ∷ ts) → length ts ≤ 3 → element_count (side_by_side t ts).flat ≤ MOST_ELEMENTS → P (t ∷ ts)) →
    (systems : List Timing) → length systems ≤ 4 → AreCorners systems → length (flat_map (λ (u : Timing). u.flat.elements) systems) ≤ MOST_ELEMENTS → AreSystems systems → P systems
by_first P holds [] few are elements kept = absurd are
by_first P holds (t ∷ ts) few are elements kept = let count = count_is t ts in holds t ts are kept (omega arith) (omega arith)
