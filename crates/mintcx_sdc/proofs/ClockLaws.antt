-- The lines of a phase.
use Rattle.std.proofs.Common.{◌≡◌, ◌≢◌, ◌==◌, ℕ, Bool, true, false, List, [], ◌∷◌, ◌++◌, if◌then◌else◌, append-nil, sym}
use Rattle.std.proofs.lemmas.Bool.{eq-eqb, ne_eqb}
use Rattle.mintc_text.specs.Lines.{ended, text_of}
use Rattle.mintcx_sdc.proofs.WrittenLaws.{one_line}

-- none, where the clock is called after another phase
pub no_lines : (old : List ℕ) (place at : ℕ) (line : List ℕ) → place ≢ at → old ≡ old ++ text_of (if place == at then line ∷ [] else [])
no_lines old place at line other = rw (ne_eqb place at other) (sym (append-nil old))

-- and else one
pub its_line : (old new : List ℕ) (place at : ℕ) (line : List ℕ) → place ≡ at → new ≡ old ++ ended line → new ≡ old ++ text_of (if place == at then line ∷ [] else [])
its_line old new place at line same e = rw (eq-eqb place at same) (one_line old new line e)

-- the line that stands where a flag is set
pub no_line : (old : List ℕ) (set : Bool) (line : List ℕ) → set ≡ false → old ≡ old ++ text_of (if set then line ∷ [] else [])
no_line old true line unset = absurd (cc)
no_line old false line unset = sym (append-nil old)

pub set_line : (old new : List ℕ) (set : Bool) (line : List ℕ) → set ≡ true → new ≡ old ++ ended line → new ≡ old ++ text_of (if set then line ∷ [] else [])
set_line old new true line is e = one_line old new line e
set_line old new false line is e = absurd (cc)
