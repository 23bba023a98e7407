-- What corners that are given have: they differ in numbers alone, and have as many elements each.
use Rattle.std.proofs.Common.{◌≡◌, ◌≤◌, ◌+◌, ◌-◌, ◌*◌, ℕ, suc, List, [], ◌∷◌, ◌++◌, length, map, drop, replicate, flat_map, sym, ap, ◌∙◌, arith, length-drop}
use Rattle.std.proofs.Math.Nat.{suc-mul}
use Rattle.std.proofs.lemmas.List.{length-append, length-map, length-replicate}
use Rattle.std.proofs.lemmas.Slice.Zip.{AllZip-long}
use Rattle.mintc_text.specs.declared.limits.Most.{Most}
use Rattle.mintc_text.specs.declared.refusals.Role.TheVariants as role
use Rattle.mintc_timing.specs.declared.parts.Element.{Element}
use Rattle.mintc_timing.specs.Design.{Timing, element_count}
use Rattle.mintc_timing.specs.Numbers.{unnumbered}
use Rattle.mintc_build.specs.Laws.{CornersDifferInNumbers}
use Rattle.mintc_corners.specs.Joint.{AreCorners}
use Rattle.mintc_command_answers.specs.Commands.{roles_of}
use Rattle.mintc_command_answers.specs.Corners.{AreGiven, corners_of, elements_together, files_with}
use Rattle.mintc_command_answers.specs.Sources.{Gives}
use Rattle.mintc_command_answers.specs.declared.command.Command.TheVariants.{Corners}
use Rattle.mintc_command_answers.specs.declared.command.Source.TheVariants.{Files}

-- Corners have as many elements each, since they differ in numbers alone.
rest_elements : (t : Timing) (ts : List Timing) → AreCorners (t ∷ ts) → length (flat_map (λ (u : Timing). u.flat.elements) ts) ≡ length ts * element_count t.flat
rest_elements t [] corners = omega arith
rest_elements t (u ∷ ts) corners =
    let own : length u.flat.elements ≡ element_count t.flat =
    sym (length-map u.flat.elements unnumbered) ∙ ap (λ (es : List Element). length es) corners.0.elements ∙ length-map t.flat.elements unnumbered in
    let rest = rest_elements t ts corners.1 in
    let count : length (u.flat.elements ++ flat_map (λ (x : Timing). x.flat.elements) ts) ≡ length u.flat.elements + length (flat_map (λ (x : Timing). x.flat.elements) ts) =
    length-append u.flat.elements (flat_map (λ (x : Timing). x.flat.elements) ts) in
    let product : suc (length ts) * element_count t.flat ≡ length ts * element_count t.flat + element_count t.flat = suc-mul (length ts) (element_count t.flat) in
    omega (arith, own, rest, count, product)

pub all_elements : (ts : List Timing) → AreCorners ts → length (flat_map (λ (u : Timing). u.flat.elements) ts) ≡ elements_together ts
all_elements [] corners = absurd corners
all_elements (t ∷ ts) corners =
    let count : length (t.flat.elements ++ flat_map (λ (x : Timing). x.flat.elements) ts) ≡ length t.flat.elements + length (flat_map (λ (x : Timing). x.flat.elements) ts) =
    length-append t.flat.elements (flat_map (λ (x : Timing). x.flat.elements) ts) in
    let rest = rest_elements t ts corners in
    let product : suc (length ts) * element_count t.flat ≡ length ts * element_count t.flat + element_count t.flat = suc-mul (length ts) (element_count t.flat) in
    omega (arith, rest, count, product)

module _ (numbers : CornersDifferInNumbers) (most : Most) where
  -- Corners differ in numbers alone.
  differ : (texts : List (List ℕ)) (d : List ℕ) (delays : List (List ℕ)) (t : Timing) (ts : List Timing) → Gives most Files (files_with texts d) t → AreGiven most (map (files_with texts) delays) ts →
      AreCorners (t ∷ ts)
  differ texts d [] t [] gives given = tt
  differ texts d [] t (u ∷ us) gives given = absurd given
  differ texts d (e ∷ delays) t [] gives given = tt
  differ texts d (e ∷ delays) t (u ∷ ts) gives given = (numbers most _ _ _ _ _ t.flat u.flat gives.design given.0.design, differ texts d delays t ts gives given.1)

  pub are_corners : (texts delays : List (List ℕ)) (ts : List Timing) → 1 ≤ length ts → AreGiven most (map (files_with texts) delays) ts → AreCorners ts
  are_corners texts delays [] some given = absurd (omega (arith, some))
  are_corners texts [] (t ∷ ts) some given = absurd given
  are_corners texts (d ∷ delays) (t ∷ ts) some given = differ texts d delays t ts given.0 given.1

-- There is one for each delay file.
pub as_many : (most : Most) (texts : List (List ℕ)) (count : ℕ) (ts : List Timing) → length texts ≡ length (roles_of (Corners count)) → AreGiven most (corners_of texts) ts → length ts ≡ count
as_many most texts count ts many given =
    let roles : length (replicate count role.Delays) ≡ count = length-replicate count role.Delays in
    let all : length texts ≡ suc (suc (suc (length (replicate count role.Delays)))) = many in
    let rest : length (drop 3 texts) ≡ length texts - 3 = length-drop 3 texts in
    let same = AllZip-long (Gives most Files) (corners_of texts) ts given ∙ length-map (drop 3 texts) (files_with texts) in
    omega (arith, roles, all, rest, same)
