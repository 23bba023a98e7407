-- The joint links as they are made, those of each corner in turn over one clock, and what the parts of a
-- certificate are made of.
use Rattle.std.specs.Prelude.{◌≡◌, ◌<◌, ◌≤◌, ◌+◌, ◌*◌, ℕ, suc, ℤ, List, [], ◌∷◌, ◌++◌, length, slice_index_or, map}
use Rattle.std.specs.Prelude.{flat_map, take, drop}
use Rattle.mintc_text.specs.declared.limits.TheConstants.{MOST_ELEMENTS}
use Rattle.mintc_timing.specs.declared.link.Link.{Link}
use Rattle.mintc_timing.specs.Design.{Design, Timing, element_count, phase_count}
use Rattle.mintc_timing.specs.Links.{link_at, links_of, node_count}
use Rattle.mintc_constraints.specs.Duality.{departures_of}
use Rattle.mintc_constraints.specs.Ordinary.{Constraints, constraints_of}
use Rattle.mintc_certificate.specs.declared.members.Member.{Member}
use Rattle.mintc_certificate.specs.declared.members.Member.TheVariants as member
use Rattle.mintc_optimise.specs.Making.{AreSayable, Stands, StandInOrder}
use Rattle.mintc_corners.specs.Lifted.{lifted_link, widest}
use Rattle.mintc_corners.specs.declared.members.CornerMember.{CornerMember}
use Rattle.mintc_corners.specs.CornerOptimum.{IsCornerCounted, IsOfCorner, link_of_corner}

-- a timing of nothing, which stands for those past the end of a list
abbrev pub no_timing : Timing
no_timing = record {
  flat = record { phases = []; elements = []; inner = []; arcs = []; bounds = [] };
  order = [];
  pairs = [];
}

-- the links of corners that come after so many elements
abbrev pub joined : (ℕ → ℤ) → ℕ → ℕ → List Timing → List Link
joined wide clock before [] = []
joined wide clock before (t ∷ ts) = map (lifted_link wide clock before) (links_of t)
    ++ joined wide clock (before + element_count t.flat) ts

-- how many nodes the clock has beside time 0, by the first corner
abbrev pub clock_count : List Timing → ℕ
clock_count [] = 0
clock_count (t ∷ ts) = 2 * phase_count t.flat

-- the links of all corners over one clock
abbrev pub joined_links : List Timing → List Link
joined_links ts = joined (widest ts) (clock_count ts) 0 ts

-- the links of one corner alone
abbrev pub own_list : Timing → Constraints
own_list t = constraints_of (node_count t.flat) (links_of t)

-- Link i of list c, both counted from 0, is that of the number among the links of all lists.
pub record IsPlace (lists : List Constraints) (number c i : ℕ) : Type 0 where
  pub corner : c < length lists
  pub inside : i < length (slice_index_or lists c (constraints_of 0 [])).links
  pub same : length (flat_map (λ l. l.links) (take c lists)) + i ≡ number

-- the moments of a corner's nodes
abbrev pub corner_values : ℕ → ℕ → ℕ → List ℤ → List ℤ
corner_values clock before count values = take (1 + clock) values ++ take count (drop (1 + clock + before) values)

-- the departures of each of the corners that come after so many elements
abbrev pub departures_after : ℕ → ℕ → List Timing → List ℤ → List (List ℤ)
departures_after clock before [] values = []
departures_after clock before (t ∷ ts) values = departures_of t.flat
    (corner_values clock before (element_count t.flat) values) ∷
    departures_after clock (before + element_count t.flat) ts values

-- the departures of each corner
abbrev pub departures_of_all : List Timing → List ℤ → List (List ℤ)
departures_of_all ts values = departures_after (clock_count ts) 0 ts values

-- the number that a member bears: that of its corner, from 1, or 0
abbrev pub corner_number : ℕ → Member → ℕ
corner_number c (member.Opening l) = suc c
corner_number c (member.Opened l) = suc c
corner_number c (member.Reach j l path) = suc c
corner_number c (member.Setup l) = suc c
corner_number c m = 0

-- The member names what its corner has, and stands for the joint link.
abbrev pub StandsFor : List Timing → Link → CornerMember → Type 0
StandsFor [] k m = ⊥
StandsFor (t ∷ ts) k m = Stands (λ x. IsOfCorner t ts x.corner x.member) IsCornerCounted
    (λ x. link_of_corner t ts x.corner x.member) k m

-- The members stand for the joint links of these numbers, in order.
abbrev pub StandForAll : List Timing → List ℕ → List CornerMember → Type 0
StandForAll [] chain members = ⊥
StandForAll (t ∷ ts) chain members =
    StandInOrder (λ x. IsOfCorner t ts x.corner x.member) IsCornerCounted (λ x. link_of_corner t ts x.corner x.member)
    (link_at (joined_links (t ∷ ts))) chain members

-- The moments of the corner after so many elements are small enough to be said.
pub record IsSayable (clock before : ℕ) (design : Design) (values : List ℤ) : Type 0 where
  pub before_few : before ≤ MOST_ELEMENTS
  pub inside : 1 + clock + before + element_count design ≤ length values
  pub sayable : AreSayable design (corner_values clock before (element_count design) values)

-- So are those of all corners that come after so many elements.
abbrev pub AreSayableAfter : ℕ → ℕ → List Timing → List ℤ → Type 0
AreSayableAfter clock before [] values = Unit {0}
AreSayableAfter clock before (t ∷ ts) values = IsSayable clock before t.flat values
    × AreSayableAfter clock (before + element_count t.flat) ts values

-- So are those of all corners.
abbrev pub AreSayableOfAll : List Timing → List ℤ → Type 0
AreSayableOfAll ts values = AreSayableAfter (clock_count ts) 0 ts values
