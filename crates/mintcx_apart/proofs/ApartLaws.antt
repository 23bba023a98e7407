-- Four texts by their places, and what halts the design of a description.
use Rattle.std.proofs.Common.{◌≡◌, ℕ, List, subst}
use Rattle.mintc_text.specs.declared.limits.Most.{Most}
use Rattle.mintc_text.specs.declared.refusals.Stop.{Stop}
use Rattle.mintc_text.specs.declared.refusals.Stop.TheVariants as stop
use Rattle.mintc_text.specs.Stops.{StopsAt}
use Rattle.mintc_command_answers.specs.Sources.{file_at}
use Rattle.mintcx_edges.specs.EdgeFiles.{IsEdgeFilesRefusal}
use Rattle.mintcx_edges.specs.Halts.{halt_of}
use Rattle.mintcx_apart.specs.Apart.{IsFilesHalt}

-- what holds of four texts holds of equal ones
pub of_four : (P : List ℕ → List ℕ → List ℕ → List ℕ → Type 0) (v d c k w e f l : List ℕ) → v ≡ w → d ≡ e → c ≡ f → k ≡ l → P v d c k → P w e f l
of_four P v d c k w e f l a b g h p =
    subst (λ (x : List ℕ). P x e f l) a (subst (λ (x : List ℕ). P v x f l) b (subst (λ (x : List ℕ). P v d x l) g (subst (λ (x : List ℕ). P v d c x) h p)))

-- what stops the design of a description halts it
pub files_halted : (most : Most) (texts : List (List ℕ)) (s : Stop) →
    StopsAt (IsEdgeFilesRefusal most (file_at texts 0) (file_at texts 1) (file_at texts 2) (file_at texts 3)) s → IsFilesHalt most texts (halt_of s)
files_halted most texts (stop.Refused r) h = h
files_halted most texts stop.OutOfMemory h = tt
