-- What nodes are called.
use Rattle.std.proofs.Common.{◌≡◌, ◌≢◌, ℕ, zero, suc, ◌<◌, ◌≤◌, ◌+◌, ◌-◌, ◌*◌, ◌/◌, ◌%◌, List, [], ◌∷◌, ◌++◌, map, flat_map, get_or, arith, refl, ap, ◌∙◌, sym, append_assoc}
use Rattle.std.specs.Prelude.{codes}
use Rattle.std.specs.List.{range_with_len}
use Rattle.std.proofs.lemmas.List.FromFn.{get_or-map-range_with_len}
use Rattle.mintc_timing.specs.Design.{Design, phase_count, element_count}
use Rattle.mintc_timing.specs.Links.{node_count}
use Rattle.mintc_timing.specs.Times.{Node, time_zero, phase_start, phase_end, moment, nodes}
use Rattle.mintcx_frame.specs.Names.{element_name, moment_name, node_name, phase_name}

-- two for each of some numbers, and then the rest
abbrev two_each : ℕ → ℕ → List Node → List Node
two_each i k rest = flat_map (λ p. phase_start p ∷ phase_end p ∷ []) (range_with_len i k) ++ rest

first_at : (rest : List Node) (i k j : ℕ) → j < k → get_or (two_each i k rest) (2 * j) time_zero ≡ phase_start (i + j)
first_at rest i zero j h = absurd (omega arith)
first_at rest i (suc k) zero h = ap phase_start (omega arith)
first_at rest i (suc k) (suc j) h =
    let place : 2 * suc j ≡ suc (suc (2 * j)) = omega arith in
    ap (λ n. get_or (phase_start i ∷ phase_end i ∷ two_each (i + 1) k rest) n time_zero) place ∙ first_at rest (i + 1) k j (omega arith) ∙ ap phase_start (omega arith)

second_at : (rest : List Node) (i k j : ℕ) → j < k → get_or (two_each i k rest) (suc (2 * j)) time_zero ≡ phase_end (i + j)
second_at rest i zero j h = absurd (omega arith)
second_at rest i (suc k) zero h = ap phase_end (omega arith)
second_at rest i (suc k) (suc j) h =
    let place : suc (2 * suc j) ≡ suc (suc (suc (2 * j))) = omega arith in
    ap (λ n. get_or (phase_start i ∷ phase_end i ∷ two_each (i + 1) k rest) n time_zero) place ∙ second_at rest (i + 1) k j (omega arith) ∙ ap phase_end (omega arith)

rest_at : (rest : List Node) (i k l : ℕ) → get_or (two_each i k rest) (2 * k + l) time_zero ≡ get_or rest l time_zero
rest_at rest i zero l = ap (λ n. get_or rest n time_zero) (omega arith)
rest_at rest i (suc k) l =
    let place : 2 * suc k + l ≡ suc (suc (2 * k + l)) = omega arith in
    ap (λ n. get_or (phase_start i ∷ phase_end i ∷ two_each (i + 1) k rest) n time_zero) place ∙ rest_at rest (i + 1) k l

module _ (design : Design) where
  abbrev moments_of : List Node
  moments_of = map moment (range_with_len 0 (element_count design))

  abbrev node_at : ℕ → Node
  node_at n = get_or (nodes design) n time_zero

  -- an odd number is that of a start
  pub starts : (n : ℕ) → n % 2 ≡ 1 → n ≤ 2 * phase_count design → node_name design n ≡ phase_name design (n / 2 + 1) ++ codes " starts"
  starts n odd h =
      let number : n ≡ suc (2 * (n / 2)) = omega arith in
      ap (moment_name design) (ap node_at number ∙ first_at moments_of 1 (phase_count design) (n / 2) (omega arith) ∙ ap phase_start (omega arith))

  -- an even one that of an end
  pub ends : (n : ℕ) → n % 2 ≢ 1 → 1 ≤ n → n ≤ 2 * phase_count design → node_name design n ≡ phase_name design (n / 2) ++ codes " ends"
  ends n even some h =
      let number : n ≡ suc (suc (2 * (n / 2 - 1))) = omega arith in
      ap (moment_name design) (ap node_at number ∙ second_at moments_of 1 (phase_count design) (n / 2 - 1) (omega arith) ∙ ap phase_end (omega arith))

  -- and a greater one that of an element's moment
  pub moments : (n : ℕ) → 2 * phase_count design < n → n < node_count design → node_name design n ≡ element_name design (n - 2 * phase_count design - 1)
  moments n low high =
      let l = n - 2 * phase_count design - 1 in
      let number : n ≡ suc (2 * phase_count design + (n - 2 * phase_count design - 1)) = omega arith in
      ap (moment_name design) (ap node_at number ∙ rest_at moments_of 1 (phase_count design) (n - 2 * phase_count design - 1)
      ∙ get_or-map-range_with_len moment 0 (element_count design) (n - 2 * phase_count design - 1) (n - 2 * phase_count design - 1) time_zero (omega arith) (omega arith))

-- what is written in two steps
pub written : (old begun new name word all : List ℕ) → begun ≡ old ++ name → new ≡ begun ++ word → all ≡ name ++ word → new ≡ old ++ all
written old begun new name word all e f g = f ∙ ap (λ v. v ++ word) e ∙ append_assoc old name word ∙ ap (λ v. old ++ v) (sym g)
