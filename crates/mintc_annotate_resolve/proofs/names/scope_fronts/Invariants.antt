use Rattle.mintc_annotate_resolve.specs.Names.{AreFronts}
use Rattle.mintc_annotate_resolve.proofs.names.scope_fronts.Given as goal

-- the fronts of the scopes so far
abbrev pub invariant-loop-number : goal.invariant-loop-number
invariant-loop-number l = AreFronts l.hierarchy l.number l.found.items
