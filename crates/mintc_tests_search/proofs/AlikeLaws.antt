-- Systems that differ in numbers alone, one after another.
use Rattle.std.proofs.Common.{◌≡◌, ℕ, zero, suc, ◌<◌, ◌≤◌, ◌+◌, ◌*◌, List, [], ◌∷◌, ◌++◌, length, get_or, take, arith, ap, ◌∙◌, sym, subst, length-append}
use Rattle.std.specs.List.{flat_map}
use Rattle.std.proofs.lemmas.Grind.{flat_map-append}
use Rattle.std.proofs.lemmas.List.{append-nil, take_more}
use Rattle.mintc_timing.specs.declared.parts.Element.{Element}
use Rattle.mintc_timing.specs.Design.{Timing}
use Rattle.mintc_corners.specs.Joint.{AreCorners}
use Rattle.mintc_timing.specs.Numbers.{DifferInNumbers}

corners_more : (t u : Timing) (ts : List Timing) → AreCorners (t ∷ ts) → DifferInNumbers t.flat u.flat → AreCorners (t ∷ (ts ++ u ∷ []))
corners_more t u [] h differ = (differ, tt)
corners_more t u (v ∷ ts) h differ = (h.0, corners_more t u ts h.1 differ)

module _ (systems : List Timing) (i : ℕ) (t : Timing) (below : i < length systems) (is : t ≡ get_or systems i t) where
  taken : take (i + 1) systems ≡ take i systems ++ t ∷ []
  taken = take_more systems i t below ∙ ap (λ (u : Timing). take i systems ++ u ∷ []) (sym is)

  pub corners_taken : (first : Timing) → first ≡ get_or systems 0 first → DifferInNumbers first.flat t.flat → (1 ≤ i → AreCorners (take i systems)) → AreCorners (take (i + 1) systems)
  corners_taken first first_is differ before = subst AreCorners (sym taken) (go systems i first_is before)
    where
      go : (all : List Timing) (k : ℕ) → first ≡ get_or all 0 first → (1 ≤ k → AreCorners (take k all)) → AreCorners (take k all ++ t ∷ [])
      go [] zero head h = tt
      go [] (suc k) head h = tt
      go (u ∷ all) zero head h = tt
      go (u ∷ all) (suc k) head h = corners_more u t (take k all) (h (omega arith)) (subst (λ (x : Timing). DifferInNumbers x.flat t.flat) head differ)

  pub few_taken : length t.flat.elements ≤ 500 → length (flat_map (λ (u : Timing). u.flat.elements) (take i systems)) ≤ i * 500 →
      length (flat_map (λ (u : Timing). u.flat.elements) (take (i + 1) systems)) ≤ (i + 1) * 500
  few_taken here before =
      let parts = ap (flat_map (λ (u : Timing). u.flat.elements)) taken ∙ flat_map-append (λ (u : Timing). u.flat.elements) (take i systems) (t ∷ []) in
      let sum = ap (λ (es : List Element). length es) parts ∙ length-append (flat_map (λ (u : Timing). u.flat.elements) (take i systems)) (t.flat.elements ++ []) in
      let own = ap (λ (es : List Element). length es) (append-nil t.flat.elements) in
      omega arith
