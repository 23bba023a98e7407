use Rattle.std.proofs.Common.{◌≡◌, map, drop}
use Rattle.mintc_text.specs.Outside.{held}
use Rattle.mintc_text.proofs.memory.find.Given as goal

-- the files looked at have other names
abbrev pub invariant-loop-file : goal.invariant-loop-file
invariant-loop-file l = held (map (λ f. (f.0, f.1.items)) l.files) l.name ≡ held (map (λ f. (f.0, f.1.items)) (drop l.file-index l.files)) l.name
