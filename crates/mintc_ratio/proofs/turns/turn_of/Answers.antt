use Rattle.mintc_ratio.proofs.turns.turn_of.Goals as goal

pub sums_of-sums-requires-clause-ordinary : goal.sums_of-sums-requires-clause-ordinary
sums_of-sums-requires-clause-ordinary c = rw (c.nodes.ensures.value, c.items.ensures.value) c.nodes.ensures.kept
