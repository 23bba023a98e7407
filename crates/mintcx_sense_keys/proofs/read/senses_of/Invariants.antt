use Rattle.std.proofs.Common.{◌≡◌, ◌+◌, ◌++◌, map, drop}
use Rattle.toml.specs.View.{view}
use Rattle.mintc_senses.specs.Seen.{senses_seen}
use Rattle.mintcx_sense_keys.specs.Senses.{senses_said}
use Rattle.mintcx_sense_keys.specs.SensedCells.{first_failing}
use Rattle.mintcx_sense_keys.proofs.read.senses_of.Given as goal

-- none so far fails, and these are their senses
abbrev pub invariant-loop-place : goal.invariant-loop-place
invariant-loop-place l =
    (first_failing 1 (map (λ p. (view p.0.now, p.1.now)) l.pairs) ≡ first_failing (l.place + 1) (map (λ p. (view p.0.now, p.1.now)) (drop l.place l.pairs)))
    × (map senses_said (map (λ p. (view p.0.now, p.1.now)) l.pairs) ≡ senses_seen l.all.items ++ map senses_said (map (λ p. (view p.0.now, p.1.now)) (drop l.place l.pairs)))
