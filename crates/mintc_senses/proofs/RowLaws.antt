-- Rows of senses.
use Rattle.std.proofs.Common.{◌≡◌, List, [], ◌∷◌, ◌++◌, refl, ap, Vec}
use Rattle.std.specs.Global.{Global}
use Rattle.mintc_senses_expressions.specs.declared.transitions.Transitions.{Transitions}
use Rattle.mintc_senses.specs.Seen.{rows_seen, senses_seen}

pub rows-more : (rs : List (Vec Transitions Global)) (r : Vec Transitions Global) → rows_seen (rs ++ r ∷ []) ≡ rows_seen rs ++ r.items ∷ []
rows-more [] r = refl
rows-more (x ∷ rs) r = ap (λ l. x.items ∷ l) (rows-more rs r)

pub cells-more : (cs : List (Vec (Vec Transitions Global) Global)) (c : Vec (Vec Transitions Global) Global) → senses_seen (cs ++ c ∷ []) ≡ senses_seen cs ++ rows_seen c.items ∷ []
cells-more [] c = refl
cells-more (x ∷ cs) c = ap (λ l. rows_seen x.items ∷ l) (cells-more cs c)
