use Rattle.std.proofs.Common.{◌≡◌, ◌++◌, map, take}
use Rattle.mintcx_sense_keys.proofs.rows.push_all.Given as goal

-- the names so far are added
abbrev pub invariant-loop-name : goal.invariant-loop-name
invariant-loop-name l = map (λ n. n.now) l.found.items ≡ map (λ n. n.now) l.initial.found.items ++ take l.name-index l.names
