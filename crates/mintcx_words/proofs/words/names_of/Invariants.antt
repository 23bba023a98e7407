use Rattle.std.proofs.Common.{◌≡◌, ◌++◌, drop, map}
use Rattle.mintcx_words.proofs.words.names_of.Given as goal

-- the values so far, and those that are left
abbrev pub invariant-loop-text : goal.invariant-loop-text
invariant-loop-text l = map (λ t. t.now) l.texts ≡ l.names.items ++ map (λ t. t.now) (drop l.text-index l.texts)
