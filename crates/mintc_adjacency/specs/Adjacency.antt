-- Edges by their nodes, as chains of numbers from the last one at each node down. A function says at which node each
-- edge is.
use Rattle.std.specs.Prelude.{◌≡◌, ◌≢◌, ◌<◌, ◌≤◌, ◌+◌, ℕ, Option, MatchOption, length, slice_index}
use Rattle.mintc_adjacency.specs.declared.adjacency.Adjacency.{Adjacency}
use Rattle.mintc_adjacency.specs.declared.adjacency.Edges.{Edges}

-- x is one more than the number of the last of the first i edges that is at the node, or 0 where none is
pub record IsLast (node_of : ℕ → ℕ) (node i x : ℕ) : Type 0 where
  pub fits : x ≤ i
  pub there : (e : ℕ) → x ≡ e + 1 → node_of e ≡ node
  pub last : (e : ℕ) → x ≤ e → e < i → node_of e ≢ node

-- There are so many nodes, and room for so many edges. Of the first i edges each node has the last one, and each edge
-- the one before it at the same node.
pub record AreLinked (node_of : ℕ → ℕ) (nodes edges i : ℕ) (adjacency : Adjacency) : Type 0 where
  pub nodes_have : length adjacency.lasts.items ≡ nodes
  pub edges_have : length adjacency.nexts.items ≡ edges
  pub each_node : (node : ℕ) → node < nodes → IsLast node_of node i (slice_index adjacency.lasts.items node)
  pub each_edge : (e : ℕ) → e < i → IsLast node_of (node_of e) e (slice_index adjacency.nexts.items e)

-- So many nodes have the chains of so many edges, all of which are added.
abbrev pub AreChains : (ℕ → ℕ) → ℕ → ℕ → Adjacency → Type 0
AreChains node_of nodes edges adjacency = AreLinked node_of nodes edges edges adjacency

-- Each chain goes down, so that it ends.
pub record AreFalling (adjacency : Adjacency) : Type 0 where
  pub lasts : (node : ℕ) → node < length adjacency.lasts.items →
      slice_index adjacency.lasts.items node ≤ length adjacency.nexts.items
  pub nexts : (e : ℕ) → e < length adjacency.nexts.items → slice_index adjacency.nexts.items e ≤ e

-- The chain that is left goes down.
pub record CanGoOn (edges : Edges) : Type 0 where
  pub inside : edges.next ≤ length edges.nexts.now
  pub nexts : (e : ℕ) → e < length edges.nexts.now → slice_index edges.nexts.now e ≤ e

-- Of the first i edges those at the node are left.
pub record AreLeft (node_of : ℕ → ℕ) (node i : ℕ) (edges : Edges) : Type 0 where
  pub next : IsLast node_of node i edges.next
  pub each_edge : (e : ℕ) → e < i → IsLast node_of (node_of e) e (slice_index edges.nexts.now e)

-- A step gives the next edge, and the one before it at the same node is next then.
pub record IsStep (edges : Edges) (e : ℕ) (rest : Edges) : Type 0 where
  pub next : edges.next ≡ e + 1
  pub others : rest ≡ record edges { next = slice_index edges.nexts.now e }

-- the same, or no edge where none is left
abbrev pub GivesEdge : Edges → Option ℕ → Edges → Type 0
GivesEdge edges given rest = MatchOption given ((edges.next ≡ 0) × (rest ≡ edges)) (λ e. IsStep edges e rest)
