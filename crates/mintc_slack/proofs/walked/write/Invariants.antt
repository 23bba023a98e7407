use Rattle.std.proofs.Common.{◌≡◌, ◌<◌, ◌-ℤ◌, ℕ, length}
use Rattle.mintc_graph_walks.specs.Walks.{value_at}
use Rattle.mintc_slack.proofs.walked.write.Given as goal

-- the values below this node are written
abbrev pub invariant-loop-node : goal.invariant-loop-node
invariant-loop-node l =
    (l.room ≡ record l.fn.room { values = l.room.values })
    × (length l.room.values ≡ length l.distances)
    × ((k : ℕ) → k < l.node → value_at l.room.values k ≡ value_at l.potentials k -ℤ value_at l.potentials l.from -ℤ value_at l.distances k)
