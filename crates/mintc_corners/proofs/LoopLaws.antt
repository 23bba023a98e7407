-- The turns of the loops over corners.
use Rattle.std.proofs.Common.{◌≡◌, ℕ, ◌<◌, ◌≤◌, ◌+◌, ◌*◌, ℤ, List, [], ◌∷◌, ◌++◌, length, get_or, map, take, drop, arith, refl, ap, ◌∙◌, sym, subst, append_assoc, length-append}
use Rattle.std.specs.List.{All, Contains, flat_map}
use Rattle.std.proofs.Math.ListN.{drop_of_length-le}
use Rattle.std.proofs.lemmas.List.{append-nil, at_drop_more, get_or-map, get_or_default, map-append, take_more}
use Rattle.std.proofs.lemmas.List.Elements.{All-push}
use Rattle.mintc_timing.specs.declared.link.Link.{Link}
use Rattle.mintc_timing.specs.declared.link.LinkKind.{LinkKind}
use Rattle.mintc_timing.specs.declared.link.LinkKind.TheVariants as kind
use Rattle.mintc_timing.specs.Design.{Timing, element_count, no_pair, phase_count}
use Rattle.mintc_timing.specs.Limits.{IsDesign}
use Rattle.mintc_timing.specs.Links.{links_of, node_count}
use Rattle.mintc_timing.specs.Order.{IsTiming}
use Rattle.mintc_constraints.specs.Duality.{departures_of}
use Rattle.mintc_constraints.specs.Ordinary.{Constraints, constraints_of}
use Rattle.mintc_timing.proofs.SharedByKind.{All-links}
use Rattle.mintc_constraints.proofs.SharedOrdinaryLaws.{each_between}
use Rattle.mintc_timing.proofs.SharedLinkLaws.{ends_of}
use Rattle.mintc_certificate.specs.Ranges.{IsDeparture}
use Rattle.mintc_optimise.proofs.SharedStandingLaws.{of_kind}
use Rattle.mintc_corners.specs.Lifted.{HasLowKind, IsLow, lifted_link}
use Rattle.mintc_corners.specs.CornerOptimum.{AreDeparturesInRange}
use Rattle.mintc_corners.specs.Joined.{departures_after, joined, no_timing, own_list, corner_values, AreSayableAfter}
use Rattle.mintc_corners.specs.Joint.{joint_nodes}
use Rattle.mintc_corners.specs.Laws.{AreSystems}
use Rattle.mintc_corners.proofs.LiftLaws.{system_at}
use Rattle.mintc_corners.proofs.ValuesLaws.{counts_are}

-- the lists of the corners
made_list : (list : Constraints) (t : Timing) → list.nodes ≡ node_count t.flat → list.links ≡ links_of t → list ≡ own_list t
made_list list t nodes links = ap (λ (n : ℕ). constraints_of n list.links) nodes ∙ ap (λ (ks : List Link). constraints_of (node_count t.flat) ks) links

systems_more : (ts : List Timing) (t : Timing) → AreSystems ts → IsDesign t.flat → IsTiming t.flat t.order t.pairs → AreSystems (ts ++ t ∷ [])
systems_more [] t h design kept = (design, kept, tt)
systems_more (u ∷ ts) t h design kept = (h.0, h.1, systems_more ts t h.2 design kept)

module _ (ts : List Timing) (i : ℕ) (t : Timing) (below : i < length ts) (is : t ≡ get_or ts i t) where
  taken : take (i + 1) ts ≡ take i ts ++ t ∷ []
  taken = take_more ts i t below ∙ ap (λ (u : Timing). take i ts ++ u ∷ []) (sym is)

  left : {Y : Type 0} (f : List Timing → Y) → f (drop i ts) ≡ f (t ∷ drop (i + 1) ts)
  left f = at_drop_more f ts i t below ∙ ap (λ (u : Timing). f (u ∷ drop (i + 1) ts)) (sym is)

  pub lists_more : (lists new : List Constraints) (list : Constraints) → lists ≡ map own_list (take i ts) → list.nodes ≡ node_count t.flat → list.links ≡ links_of t → new ≡ lists ++ list ∷ [] → new ≡ map own_list (take (i + 1) ts)
  lists_more lists new list before nodes links step =
      rw (step, before, taken, map-append own_list (take i ts) (t ∷ [])) (ap (λ (x : Constraints). map own_list (take i ts) ++ x ∷ []) (made_list list t nodes links))

  pub systems_taken : AreSystems (take i ts) → IsDesign t.flat → IsTiming t.flat t.order t.pairs → AreSystems (take (i + 1) ts)
  systems_taken h design kept = subst AreSystems (sym taken) (systems_more (take i ts) t h design kept)

  pub joined_more : (wide : ℕ → ℤ) (clock before : ℕ) (items new all : List Link) → items ++ joined wide clock before (drop i ts) ≡ all → new ≡ items ++ map (lifted_link wide clock before) (links_of t) →
      new ++ joined wide clock (before + element_count t.flat) (drop (i + 1) ts) ≡ all
  joined_more wide clock before items new all h step =
      rw (step, append_assoc items (map (lifted_link wide clock before) (links_of t)) (joined wide clock (before + element_count t.flat) (drop (i + 1) ts))) (rw (left (joined wide clock before)) at h)

  pub elements_more : (before all : ℕ) → before + length (flat_map (λ (u : Timing). u.flat.elements) (drop i ts)) ≡ all →
      (before + element_count t.flat) + length (flat_map (λ (u : Timing). u.flat.elements) (drop (i + 1) ts)) ≡ all
  elements_more before all h =
      let step = left (λ us. length (flat_map (λ (u : Timing). u.flat.elements) us)) in
      let sum = length-append t.flat.elements (flat_map (λ (u : Timing). u.flat.elements) (drop (i + 1) ts)) in
      omega arith

  pub sayable_here : (clock before : ℕ) (values : List ℤ) → AreSayableAfter clock before (drop i ts) values → AreSayableAfter clock before (t ∷ drop (i + 1) ts) values
  sayable_here clock before values h = subst (λ (us : List Timing). AreSayableAfter clock before us values) (left (λ us. us)) h

  pub departures_more : (clock before : ℕ) (values ds : List ℤ) (all new whole : List (List ℤ)) → all ++ departures_after clock before (drop i ts) values ≡ whole →
      ds ≡ departures_of t.flat (corner_values clock before (element_count t.flat) values) → new ≡ all ++ ds ∷ [] → new ++ departures_after clock (before + element_count t.flat) (drop (i + 1) ts) values ≡ whole
  departures_more clock before values ds all new whole h is step =
      rw (step, append_assoc all (ds ∷ []) (departures_after clock (before + element_count t.flat) (drop (i + 1) ts) values), is) (rw (left (λ us. departures_after clock before us values)) at h)

pub in_range_more : (t : Timing) (ds own : List ℤ) (all new : List (List ℤ)) → IsDesign t.flat → All AreDeparturesInRange all → All IsDeparture ds → ds ≡ departures_of t.flat own → new ≡ all ++ ds ∷ [] → All AreDeparturesInRange new
in_range_more t ds own all new limits before here is step =
    let count = ap length is ∙ counts_are t own in
    rw step (All-push AreDeparturesInRange all ds before (record { count = omega arith; each = here }))

-- Each link of a corner has few nodes and elements.
module _ (t : Timing) (limits : IsDesign t.flat) (kept : IsTiming t.flat t.order t.pairs) where
  low_kind : (k : Link) (which : LinkKind) → k.kind ≡ which → Contains (links_of t) k → HasLowKind which
  low_kind k (kind.Opening l) is listed = let h = (of_kind t limits k (kind.Opening l) is listed).member in let few = limits.elements in omega arith
  low_kind k (kind.Opened l) is listed = let h = (of_kind t limits k (kind.Opened l) is listed).member.0 in let few = limits.elements in omega arith
  low_kind k (kind.Reach j l) is listed =
      let h = of_kind t limits k (kind.Reach j l) is listed in
      let ends = kept.extremes.each h.0 no_pair h.1 in
      let few = limits.elements in
      (omega arith, omega arith)
  low_kind k (kind.Setup l) is listed = let h = (of_kind t limits k (kind.Setup l) is listed).member in let few = limits.elements in omega arith
  low_kind k which is listed = tt

  low_links : All IsLow (links_of t)
  low_links e d h =
      let k = get_or (links_of t) e d in
      let between = All-links t (λ x. (x.from < node_count t.flat) × (x.to < node_count t.flat)) (each_between t limits (ends_of t kept.extremes)) e d h in
      let from = between.0 in
      let to = between.1 in
      record { from = omega arith; to = omega arith; kind = low_kind k k.kind refl (e, h, get_or_default (links_of t) e k d h) }

module _ (systems : List Timing) (lists : List Constraints) (are : lists ≡ map own_list systems) (c : ℕ) (list : Constraints) (below : c < length systems) (is : list ≡ get_or lists c list) where
  pub list_at : (none : Timing) → list ≡ own_list (get_or systems c none)
  list_at none = is ∙ ap (λ (xs : List Constraints). get_or xs c list) are ∙ get_or-map own_list systems c none list below

  pub low_at : (items : List Link) → AreSystems systems → items ≡ list.links → All IsLow items
  low_at items kept items_are =
      let here = system_at systems c no_timing kept below in
      rw (items_are, list_at no_timing) (low_links (get_or systems c no_timing) here.0 here.1)

pub joined_done : (ts : List Timing) (i : ℕ) (wide : ℕ → ℤ) (clock before : ℕ) (items all : List Link) → length ts ≤ i → items ++ joined wide clock before (drop i ts) ≡ all → items ≡ all
joined_done ts i wide clock before items all past h =
    sym (append-nil items) ∙ ap (λ (us : List Timing). items ++ joined wide clock before us) (sym (drop_of_length-le ts past)) ∙ h

pub elements_done : (ts : List Timing) (i before all : ℕ) → length ts ≤ i → before + length (flat_map (λ (u : Timing). u.flat.elements) (drop i ts)) ≡ all → before ≡ all
elements_done ts i before all past h =
    let none = ap (λ (us : List Timing). length (flat_map (λ (u : Timing). u.flat.elements) us)) (drop_of_length-le ts past) in
    omega arith

pub nodes_of : (systems : List Timing) (t : Timing) (clock before : ℕ) → 1 ≤ length systems → t ≡ get_or systems 0 t → clock ≡ 2 * phase_count t.flat → before ≡ length (flat_map (λ (u : Timing). u.flat.elements) systems) →
    1 + clock + before ≡ joint_nodes systems
nodes_of [] t clock before some is clock_is before_is = absurd (omega arith)
nodes_of (u ∷ ts) t clock before some is clock_is before_is = let same = ap (λ (x : Timing). phase_count x.flat) is in omega arith
