-- The folder of a path ends at its last slash.
use Rattle.std.proofs.Common.{◌≡◌, ◌≢◌, ◌∙◌, ◌+◌, ◌-◌, ◌<◌, ◌≤◌, ℕ, suc, Bool, true, false, List, [], ◌∷◌, ◌++◌, length, take, get_or, refl, ap, subst, arith, eq-eqb, ne_eqb}
use Rattle.std.specs.Prelude.{◌==◌}
use Rattle.std.proofs.lemmas.List.{take_more, length-take-le}
use Rattle.mintcx_project.specs.Projects.{folder_len}

-- a byte at the end that is a slash ends the folder, and another one is left out
ends_by_slash : (path : List ℕ) (b : ℕ) → (b == 47) ≡ true → folder_len (path ++ b ∷ []) ≡ suc (length path)
ends_by_slash [] b slash = rw slash refl
ends_by_slash (x ∷ path) b slash = rw (ends_by_slash path b slash) refl

ends_before : (path : List ℕ) (b : ℕ) → (b == 47) ≡ false → folder_len (path ++ b ∷ []) ≡ folder_len path
ends_before [] b other = rw other refl
ends_before (x ∷ path) b other = rw (ends_before path b other) refl

-- the same of the bytes up to one
slash_ends : (path : List ℕ) (at : ℕ) → at < length path → get_or path at 0 ≡ 47 → folder_len (take (at + 1) path) ≡ at + 1
slash_ends path at within slash =
    let len : length (take at path) ≡ at = length-take-le at path (omega arith) in
    rw (take_more path at 0 within) (ends_by_slash (take at path) (get_or path at 0) (eq-eqb _ _ slash) ∙ omega arith)

other_passes : (path : List ℕ) (at : ℕ) → at < length path → get_or path at 0 ≢ 47 → folder_len (take (at + 1) path) ≡ folder_len (take at path)
other_passes path at within other =
    rw (take_more path at 0 within) (ends_before (take at path) (get_or path at 0) (ne_eqb _ _ other))

-- the same of the last of some bytes
pub slash_at : (path : List ℕ) (len : ℕ) → 0 < len → len ≤ length path → get_or path (len - 1) 0 ≡ 47 → folder_len (take len path) ≡ len
slash_at path len some within slash =
    let same : (len - 1) + 1 ≡ len = omega arith in
    subst (λ (n : ℕ). folder_len (take n path) ≡ n) same (slash_ends path (len - 1) (omega arith) slash)

pub other_at : (path : List ℕ) (len : ℕ) → 0 < len → len ≤ length path → get_or path (len - 1) 0 ≢ 47 → folder_len (take len path) ≡ folder_len (take (len - 1) path)
other_at path len some within other =
    let same : (len - 1) + 1 ≡ len = omega arith in
    subst (λ (n : ℕ). folder_len (take n path) ≡ folder_len (take (len - 1) path)) same (other_passes path (len - 1) (omega arith) other)
