-- Chains of edges, followed from the last one down.
use Rattle.std.proofs.Common.{◌≡◌, ℕ, ◌+◌, ◌<◌, ◌≤◌, slice_index, arith, subst, ⊎_elim}
use Rattle.std.proofs.lemmas.Bool.{cases_lt}
use Rattle.mintc_adjacency.specs.declared.adjacency.Adjacency.{Adjacency}
use Rattle.mintc_adjacency.specs.declared.adjacency.Edges.{Edges}
use Rattle.mintc_adjacency.specs.Adjacency.{IsLast, AreChains, AreFalling, CanGoOn, AreLeft, IsStep}

-- whole chains go down
pub falling : (node_of : ℕ → ℕ) (nodes edges : ℕ) (adjacency : Adjacency) → AreChains node_of nodes edges adjacency → AreFalling adjacency
falling node_of nodes edges adjacency are = record {
  lasts = λ node low. let last = are.each_node node (omega (arith, are.nodes_have)) in omega (arith, last.fits, are.edges_have);
  nexts = λ e low. let last = are.each_edge e (omega (arith, are.edges_have)) in last.fits;
}

-- what is left after a step goes down
pub goes_on : (edges rest : Edges) (e : ℕ) → CanGoOn edges → IsStep edges e rest → CanGoOn rest
goes_on edges rest e can step =
    let lower = can.nexts e (omega (arith, can.inside, step.next)) in
    rw step.others (record { inside = omega (arith, can.inside, step.next, lower); nexts = can.nexts })

-- What a step gives: an edge at the node, the last one of the first i, and those before it are left.
pub record IsGiven (node_of : ℕ → ℕ) (node i e : ℕ) (rest : Edges) : Type 0 where
  pub below : e < i
  pub there : node_of e ≡ node
  pub left : AreLeft node_of node e rest

pub given : (node_of : ℕ → ℕ) (node i e : ℕ) (edges rest : Edges) → AreLeft node_of node i edges → IsStep edges e rest → IsGiven node_of node i e rest
given node_of node i e edges rest left step =
    let next = step.next in
    let below : e < i = omega (arith, left.next.fits) in
    let there : node_of e ≡ node = left.next.there e next in
    rw step.others (record {
      below = below;
      there = there;
      left = record {
        next = subst (λ n. IsLast node_of n e (slice_index edges.nexts.now e)) there (left.each_edge e below);
        each_edge = λ k lower. left.each_edge k (omega arith);
      };
    })

-- the edges from the next one down are left
pub from_next : (node_of : ℕ → ℕ) (node i : ℕ) (edges : Edges) → AreLeft node_of node i edges → AreLeft node_of node edges.next edges
from_next node_of node i edges left =
    let fits = left.next.fits in
    record {
      next = record { fits = omega arith; there = left.next.there; last = λ e low high. absurd (omega arith) };
      each_edge = λ e low. left.each_edge e (omega arith);
    }

-- What holds of each edge at a node from the one after e on, and of e, holds of each from the one before e on.
pub met_more : (node_of : ℕ → ℕ) (node edges e x : ℕ) (Old New : ℕ → Type 0) → IsLast node_of node e x → New e → ((k : ℕ) → Old k → New k) →
    ((k : ℕ) → e + 1 ≤ k → k < edges → node_of k ≡ node → Old k) → (k : ℕ) → x ≤ k → k < edges → node_of k ≡ node → New k
met_more node_of node edges e x Old New last here kept above k low high same =
    ⊎_elim (λ (lt : k < e). absurd (last.last k low lt same))
    (λ (ge : e ≤ k). ⊎_elim (λ (lt : e < k). kept k (above k (omega arith) high same))
    (λ (le : k ≤ e). let is : e ≡ k = omega arith in subst New is here) (cases_lt e k))
    (cases_lt k e)
