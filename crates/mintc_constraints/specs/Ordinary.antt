-- Lists of links within their limits.
use Rattle.std.specs.Prelude.{◌≡◌, ◌<◌, ◌≤◌, ◌^◌, ℕ, pos, negsuc, ◌≤ℤ◌, List, length, All}
use Rattle.mintc_text.specs.declared.limits.TheConstants.{MOST_NODES}
use Rattle.mintc_timing.specs.declared.link.Link.{Link}
use Rattle.mintc_graph.specs.Rings.{LeadsBy}
use Rattle.mintc_timing.specs.Links.{no_link, link_at}

-- What a list of links is seen as: how many nodes there are, and the links between them. Nodes are counted from 0.
pub record Constraints : Type 0 where
  pub nodes : ℕ
  pub links : List Link

-- a list of links over so many nodes
abbrev pub constraints_of : ℕ → List Link → Constraints
constraints_of count items = record { nodes = count; links = items }

-- A walk is a list of link numbers, each link leaving the node where the one before ends. This one leads from a to b.
abbrev pub Leads : List Link → ℕ → List ℕ → ℕ → Type 0
Leads links = LeadsBy (λ (k : Link). k.from) (λ (k : Link). k.to) no_link links

-- A link of delay 0 and so many cycles leads from a to b.
pub record HasPlainLink (links : List Link) (a b laps : ℕ) : Type 0 where
  pub number : ℕ
  pub exists : number < length links
  pub from : (link_at links number).from ≡ a
  pub to : (link_at links number).to ≡ b
  pub delay : (link_at links number).delay ≡ pos 0
  pub cycles : (link_at links number).cycles ≡ laps

-- The link leads from one of so many nodes to one of them, takes off one cycle or none, and its delay is from -4 * 10^9
-- to 2 * 10^9 femtoseconds.
pub record IsOrdinaryLink (count : ℕ) (k : Link) : Type 0 where
  pub from : k.from < count
  pub to : k.to < count
  pub cycles : k.cycles ≤ 1
  pub delay : (negsuc 3999999999 ≤ℤ k.delay) × (k.delay ≤ℤ pos 2000000000)

-- the most nodes and the most links that a list may have: time 0, the starts and ends of phases and the elements; and
-- the links of 40,000,000 pairs with all others
abbrev pub most_nodes : ℕ
most_nodes = MOST_NODES

abbrev pub AreFew : List Link → Type 0
AreFew links = length links < 2 ^ 28

-- The list is within its limits, links without delay lead from node 0 to node 1 and, a cycle off, back, and a walk from
-- node 0 ends at each node.
pub record IsOrdinary (list : Constraints) : Type 0 where
  pub nodes : (3 ≤ list.nodes) × (list.nodes ≤ most_nodes)
  pub few : AreFew list.links
  pub each : All (IsOrdinaryLink list.nodes) list.links
  pub forth : HasPlainLink list.links 0 1 0
  pub back : HasPlainLink list.links 1 0 1
  pub reached : (node : ℕ) → node < list.nodes → (walk : List ℕ) × Leads list.links 0 walk node
