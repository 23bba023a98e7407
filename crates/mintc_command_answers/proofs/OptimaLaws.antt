-- Two optima of one timing differ in their chains alone.
use Rattle.std.proofs.Common.{◌≡◌, ◌≤◌, ℕ, ℤ, List, [], ◌∷◌, ◌++◌, length, take, drop, flat_map, refl, ap, ◌∙◌, sym, subst, arith}
use Rattle.std.proofs.Math.Seq.{drop-append_seam, take-append_seam}
use Rattle.std.proofs.lemmas.List.{append-nil}
use Rattle.mintc_text.specs.declared.limits.TheConstants.{MOST_ELEMENTS}
use Rattle.mintc_timing.specs.declared.clocking.Schedule.{Schedule}
use Rattle.mintc_timing.specs.declared.parts.Element.{Element}
use Rattle.mintc_timing.specs.Design.{Timing, element_count}
use Rattle.mintc_timing.specs.Links.{links_of}
use Rattle.mintc_timing.specs.Right.{IsRight}
use Rattle.mintc_constraints.proofs.SharedRightLaws.{right_has_moments_lem}
use Rattle.mintc_certificate.specs.declared.certificate.Certificate.TheVariants.{Least, Never}
use Rattle.mintc_safe.specs.declared.certificate.SafeCertificate.TheVariants as kept
use Rattle.mintc_safe.specs.Hold.{safe_links_of}
use Rattle.mintc_safe.specs.Laws.{SafeMeetsLinks}
use Rattle.mintc_corners.specs.declared.certificate.CornerCertificate.TheVariants as joint
use Rattle.mintc_corners.specs.Joint.{AreJointlyRight, joint_links_of, side_by_side}
use Rattle.mintc_corners.specs.Laws.{AreBeside, BesideIsBoth, CornersAreModest}
use Rattle.mintc_command_answers.specs.Optima.{OptimaAreDetermined, SafeOptimaAreDetermined, JointOptimaAreDetermined}
use Rattle.mintc_command_answers.proofs.EarliestLaws.{equal_from_both, one}

pub optima_lem : OptimaAreDetermined
optima_lem t (Least s d chain) (Least r e another) limits ends a b =
    one t (links_of t) limits s r d e a.optimal.0 b.optimal.0
    (right_has_moments_lem t s d limits ends a.optimal.0).moments.met (right_has_moments_lem t r e limits ends b.optimal.0).moments.met
    (equal_from_both _ _ (a.optimal.1.least r e b.optimal.0) (b.optimal.1.least s d a.optimal.0)) a.earliest b.earliest
optima_lem t (Least s d chain) (Never another) limits ends a b = b.optimal s d a.optimal.0
optima_lem t (Never chain) (Least r e another) limits ends a b = a.optimal r e b.optimal.0
optima_lem t (Never chain) (Never another) limits ends a b = tt

pub safe_optima_lem : SafeMeetsLinks → SafeOptimaAreDetermined
safe_optima_lem meets t (kept.Least s d chain) (kept.Least r e another) limits ends a b =
    one t (safe_links_of t) limits s r d e a.optimal.0.right b.optimal.0.right
    (meets t s d limits ends a.optimal.0) (meets t r e limits ends b.optimal.0)
    (equal_from_both _ _ (a.optimal.1.least r e b.optimal.0) (b.optimal.1.least s d a.optimal.0)) a.earliest b.earliest
safe_optima_lem meets t (kept.Least s d chain) (kept.Never another) limits ends a b = b.optimal s d a.optimal.0
safe_optima_lem meets t (kept.Never chain) (kept.Least r e another) limits ends a b = a.optimal r e b.optimal.0
safe_optima_lem meets t (kept.Never chain) (kept.Never another) limits ends a b = tt

-- ---- corners

-- the departures of all corners, one after another
abbrev all_of : List (List ℤ) → List ℤ
all_of ds = flat_map (λ d. d) ds

-- A schedule that is right in each corner is right in all side by side.
right_beside : BesideIsBoth → (t : Timing) (ts : List Timing) (s : Schedule) (ds : List (List ℤ)) → AreBeside t ts → AreJointlyRight (t ∷ ts) s ds →
    IsRight (side_by_side t ts) s (all_of ds)
right_beside law t ts s [] are right = absurd right
right_beside law t [] s (d ∷ []) are right = subst (IsRight t s) (sym (append-nil d)) right.0
right_beside law t [] s (d ∷ e ∷ ds) are right = absurd right.1
right_beside law t (u ∷ ts) s (d ∷ ds) are right =
    let rest : IsRight (side_by_side u ts) s (all_of ds) = right_beside law u ts s ds are.2 right.1 in
    let front : d ≡ take (element_count t.flat) (d ++ all_of ds) = sym (take-append_seam d (all_of ds)) ∙ ap (λ (n : ℕ). take n (d ++ all_of ds)) right.0.exact.count in
    let back : all_of ds ≡ drop (element_count t.flat) (d ++ all_of ds) = sym (drop-append_seam d (all_of ds)) ∙ ap (λ (n : ℕ). drop n (d ++ all_of ds)) right.0.exact.count in
    (law t (side_by_side u ts) s (d ++ all_of ds) are.1 are.0).1 (subst (IsRight t s) front right.0, subst (IsRight (side_by_side u ts) s) back rest)

-- The departures of all tell those of each.
each_same : (ts : List Timing) (s r : Schedule) (ds es : List (List ℤ)) → AreJointlyRight ts s ds → AreJointlyRight ts r es → all_of ds ≡ all_of es → ds ≡ es
each_same [] s r [] [] a b same = refl
each_same [] s r [] (e ∷ es) a b same = absurd b
each_same [] s r (d ∷ ds) es a b same = absurd a
each_same (t ∷ ts) s r [] es a b same = absurd a
each_same (t ∷ ts) s r (d ∷ ds) [] a b same = absurd b
each_same (t ∷ ts) s r (d ∷ ds) (e ∷ es) a b same =
    let counts : length d ≡ length e = a.0.exact.count ∙ sym b.0.exact.count in
    let first : d ≡ e = sym (take-append_seam d (all_of ds)) ∙ ap (take (length d)) same ∙ ap (λ (n : ℕ). take n (e ++ all_of es)) counts ∙ take-append_seam e (all_of es) in
    let rest : all_of ds ≡ all_of es = sym (drop-append_seam d (all_of ds)) ∙ ap (drop (length d)) same ∙ ap (λ (n : ℕ). drop n (e ++ all_of es)) counts ∙ drop-append_seam e (all_of es) in
    ap (λ (x : List ℤ). x ∷ ds) first ∙ ap (λ (xs : List (List ℤ)). e ∷ xs) (each_same ts s r ds es a.1 b.1 rest)

-- The elements of all corners are those side by side.
elements_beside : (t : Timing) (ts : List Timing) → flat_map (λ (u : Timing). u.flat.elements) (t ∷ ts) ≡ (side_by_side t ts).flat.elements
elements_beside t [] = append-nil t.flat.elements
elements_beside t (u ∷ ts) = ap (λ (es : List Element). t.flat.elements ++ es) (elements_beside u ts)

pub joint_optima_lem : BesideIsBoth → CornersAreModest → JointOptimaAreDetermined
joint_optima_lem law modest [] c d are systems few elements a b = absurd a
joint_optima_lem law modest (t ∷ ts) (joint.Least s ds chain) (joint.Least r es another) are systems few elements a b =
    let count : element_count (side_by_side t ts).flat ≤ MOST_ELEMENTS = subst (λ (xs : List Element). length xs ≤ MOST_ELEMENTS) (elements_beside t ts) elements in
    let kept = modest t ts are systems (omega arith) count in
    let limits = kept.1 in
    let pairs = kept.2 in
    let first : IsRight (side_by_side t ts) s (all_of ds) = right_beside law t ts s ds kept.0 a.optimal.0 in
    let second : IsRight (side_by_side t ts) r (all_of es) = right_beside law t ts r es kept.0 b.optimal.0 in
    let same = one (side_by_side t ts) (joint_links_of t ts) limits s r (all_of ds) (all_of es) first second
    (right_has_moments_lem (side_by_side t ts) s (all_of ds) limits pairs.ends first).moments.met
    (right_has_moments_lem (side_by_side t ts) r (all_of es) limits pairs.ends second).moments.met
    (equal_from_both _ _ (a.optimal.1.least r es b.optimal.0) (b.optimal.1.least s ds a.optimal.0)) a.earliest b.earliest in
    (same.0, each_same (t ∷ ts) s r ds es a.optimal.0 b.optimal.0 same.1)
joint_optima_lem law modest (t ∷ ts) (joint.Least s ds chain) (joint.Never another) are systems few elements a b = b.optimal s ds a.optimal.0
joint_optima_lem law modest (t ∷ ts) (joint.Never chain) (joint.Least r es another) are systems few elements a b = a.optimal r es b.optimal.0
joint_optima_lem law modest (t ∷ ts) (joint.Never chain) (joint.Never another) are systems few elements a b = tt
