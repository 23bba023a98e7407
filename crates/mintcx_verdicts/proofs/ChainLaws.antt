-- Members of chains, where they lead, and rings.
use Rattle.std.proofs.Common.{◌≡◌, ℕ, ℤ, suc, ◌<◌, ◌≤◌, ◌+◌, Bool, true, false, List, [], ◌∷◌, length, get_or, if◌then◌else◌, arith, refl, ap, ◌∙◌, sym, subst}
use Rattle.std.specs.Prelude.{All}
use Rattle.std.proofs.lemmas.Bool.Decides.{nat_tests}
use Rattle.std.proofs.lemmas.List.{get_or-map, length-map}
use Rattle.mintc_graph.specs.Rings.{IsClosed, Joins}
use Rattle.mintc_timing.specs.declared.link.Link.{Link}
use Rattle.mintc_timing.specs.declared.parts.Point.{Point}
use Rattle.mintc_timing.specs.declared.parts.Point.TheVariants as point
use Rattle.mintc_timing.specs.Design.{Design, Timing, element_at, element_count, no_element, phase_count, phase_of}
use Rattle.mintc_timing.specs.Limits.{IsDesign, IsPhase, IsPoint}
use Rattle.mintc_timing.specs.Links.{element_node, end_node, no_link, node_count, point_node, start_node}
use Rattle.mintc_certificate.specs.declared.members.Member.{Member}
use Rattle.mintc_certificate.specs.declared.members.Member.TheVariants as member
use Rattle.mintc_certificate.specs.declared.sums.ChainSums.{ChainSums}
use Rattle.mintc_certificate.specs.Valid.{IsMember, IsNamed, IsRing, link_of, links_of_members, no_bound}
use Rattle.mintcx_verdicts.specs.Chains.{LeadsOn, place_after}

choice_below : (b : Bool) (x y n : ℕ) → x < n → y < n → (if b then x else y) < n
choice_below true x y n h g = h
choice_below false x y n h g = g

module _ (design : Design) (limits : IsDesign design) where
  phase_in : (l : ℕ) → l < element_count design → IsPhase (phase_count design) (phase_of design l)
  phase_in l below = (limits.each_element l no_element below).phase

  start_in : (l : ℕ) → l < element_count design → start_node (phase_of design l) < node_count design
  start_in l below = let phase = phase_in l below in omega arith

  end_in : (l : ℕ) → l < element_count design → end_node (phase_of design l) < node_count design
  end_in l below = let phase = phase_in l below in omega arith

  point_in : (x : Point) → IsPoint (phase_count design) x → point_node x < node_count design
  point_in point.Origin h = omega arith
  point_in (point.Start p) h = omega arith
  point_in (point.End p) h = omega arith

  -- where the link of a member begins and ends
  pub ends_inside : (m : Member) → IsNamed design m → ((link_of design m).from < node_count design) × ((link_of design m).to < node_count design)
  ends_inside (member.Start p) h = (omega arith, omega arith)
  ends_inside (member.Cycle p) h = (omega arith, omega arith)
  ends_inside (member.Order p) h = (omega arith, omega arith)
  ends_inside (member.Span p) h = (omega arith, omega arith)
  ends_inside (member.Width p) h = (omega arith, omega arith)
  ends_inside (member.Apart i j) h = (omega arith, omega arith)
  ends_inside (member.Opening l) h = (start_in l h, omega arith)
  ends_inside (member.Opened l) h = (start_in l h.0, end_in l h.0)
  ends_inside (member.Reach j l path) h =
      (choice_below (element_at design j).flop (start_node (phase_of design j)) (element_node design j) (node_count design) (start_in j h.0) (omega arith), omega arith)
  ends_inside (member.Setup l) h =
      (omega arith, choice_below (element_at design l).flop (start_node (phase_of design l)) (end_node (phase_of design l)) (node_count design) (start_in l h) (end_in l h))
  ends_inside (member.Bound n) h = let bound = limits.each_bound n no_bound h in (point_in _ bound.from, point_in _ bound.to)

-- the members of a system are named
pub named : (t : Timing) (m : Member) → IsMember t m → IsNamed t.flat m
named t (member.Apart i j) h = (h.0, h.1)
named t m h = h

pub all_named : (t : Timing) (ms : List Member) → All (IsMember t) ms → All (IsNamed t.flat) ms
all_named t ms all k d h = named t (get_or ms k d) (all k d h)

-- the link of a place
pub link_of_place : (design : Design) (ms : List Member) (n : ℕ) (d : Member) → n < length ms → get_or (links_of_members design ms) n no_link ≡ link_of design (get_or ms n d)
link_of_place design ms n d h = get_or-map (link_of design) ms n d no_link h

behind : (n : ℕ) → suc n + 1 ≡ suc (n + 1)
behind n = omega arith

-- Items that lead from one to the next, and from the last to the first, are a ring.
joins : (x : Link) (xs : List Link) (b : ℕ) → ((n : ℕ) → n < length xs → (get_or (x ∷ xs) n no_link).to ≡ (get_or (x ∷ xs) (n + 1) no_link).from) →
    (get_or (x ∷ xs) (length xs) no_link).to ≡ b → Joins (λ (k : Link). k.from) (λ (k : Link). k.to) x.to xs b
joins x [] b each last = last
joins x (y ∷ ys) b each last = (sym (each 0 (omega arith)), joins y ys b (λ n h. each (suc n) (omega arith) ∙ ap (λ m. (get_or (x ∷ y ∷ ys) m no_link).from) (behind n)) last)

pub after_last : (ms : List Member) (n : ℕ) → n + 1 ≡ length ms → place_after ms n ≡ 0
after_last ms n h = grind (arith, nat_tests)

pub after_other : (ms : List Member) (n : ℕ) → (n + 1 ≡ length ms → ⊥) → place_after ms n ≡ n + 1
after_other ms n h = grind (arith, nat_tests)

module _ (design : Design) (ms : List Member) (all : (n : ℕ) → n < length ms → LeadsOn design ms n) where
  abbrev at : List Link → ℕ → Link
  at links n = get_or links n no_link

  counted : length (links_of_members design ms) ≡ length ms
  counted = length-map ms (link_of design)

  next : (n : ℕ) → n + 1 < length ms → (at (links_of_members design ms) n).to ≡ (at (links_of_members design ms) (n + 1)).from
  next n h = all n (omega arith) ∙ ap (λ m. (at (links_of_members design ms) m).from) (after_other ms n (λ e. omega arith))

  last : (n : ℕ) → n + 1 ≡ length ms → (at (links_of_members design ms) n).to ≡ (at (links_of_members design ms) 0).from
  last n h = all n (omega arith) ∙ ap (λ m. (at (links_of_members design ms) m).from) (after_last ms n h)

  closes : (links : List Link) → links ≡ links_of_members design ms → 1 ≤ length links → IsClosed (λ (k : Link). k.from) (λ (k : Link). k.to) links
  closes [] e some = absurd (omega (arith, some))
  closes (x ∷ xs) e some =
      let size : suc (length xs) ≡ length ms = ap length e ∙ counted in
      joins x xs x.from
      (λ n h. subst (λ (v : List Link). (at v n).to ≡ (at v (n + 1)).from) (sym e) (next n (omega arith)))
      (subst (λ (v : List Link). (at v (length xs)).to ≡ (at v 0).from) (sym e) (last (length xs) (omega arith)))

  pub is_closed : 1 ≤ length ms → IsClosed (λ (k : Link). k.from) (λ (k : Link). k.to) (links_of_members design ms)
  is_closed some = closes (links_of_members design ms) refl (omega (arith, counted))

-- sums by their parts
abbrev pub sums_by : ℤ → ℤ → ChainSums
sums_by a b = record { delay = a; cycles = b }

pub same_sums : (x : ChainSums) (a b : ℤ) → x.delay ≡ a → x.cycles ≡ b → x ≡ sums_by a b
same_sums x a b e f = λ i. sums_by (e i) (f i)

-- a chain whose members are the design's and lead on is a ring
pub ring_of : (t : Timing) (ms : List Member) → 1 ≤ length ms → All (IsMember t) ms → ((n : ℕ) → n < length ms → LeadsOn t.flat ms n) → IsRing t ms
ring_of t ms some members all = (members, is_closed t.flat ms all some)
