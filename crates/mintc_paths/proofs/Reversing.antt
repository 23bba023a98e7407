-- A design reversed.
use Rattle.std.proofs.Common.{◌≡◌, ℕ, ◌<◌, ◌+◌, ◌*◌, List, arith, ap, ◌∙◌, sym}
use Rattle.mintc_paths_sums.specs.Placed.{row_of}
use Rattle.mintc_paths.specs.Sums.{LeadsBack}
use Rattle.mintc_paths.specs.Reversed.{reversed_bit, bit_before}

pub reversed_input : (n : ℕ) (places : List ℕ) (l : ℕ) → l < n → reversed_bit n places (2 * l) ≡ 2 * row_of places l + 1
reversed_input n places l below = grind arith

pub reversed_output : (n : ℕ) (places : List ℕ) (l : ℕ) → l < n → reversed_bit n places (2 * l + 1) ≡ 2 * l
reversed_output n places l below = grind arith

pub before_input : (n : ℕ) (elements : List ℕ) (l : ℕ) → l < n → bit_before n elements (2 * l) ≡ 2 * l + 1
before_input n elements l below = grind arith

pub before_output : (n : ℕ) (elements : List ℕ) (l : ℕ) → l < n → bit_before n elements (2 * l + 1) ≡ 2 * row_of elements l
before_output n elements l below = grind arith

module _ (n : ℕ) (places elements : List ℕ) (there : LeadsBack n places elements) (back : LeadsBack n elements places) where
  pub before_reversed : (bit : ℕ) → bit_before n elements (reversed_bit n places bit) ≡ bit
  before_reversed bit = grind (arith, there.inside, there.leads)

  pub reversed_before : (bit : ℕ) → reversed_bit n places (bit_before n elements bit) ≡ bit
  reversed_before bit = grind (arith, back.inside, back.leads)

  pub reversed_below : (m bit : ℕ) → bit < 2 * n + m → reversed_bit n places bit < 2 * n + m
  reversed_below m bit low = grind (arith, there.inside)

  pub before_below : (m bit : ℕ) → bit < 2 * n + m → bit_before n elements bit < 2 * n + m
  before_below m bit low = grind (arith, back.inside)

  pub reversed_apart : (a b : ℕ) → reversed_bit n places a ≡ reversed_bit n places b → a ≡ b
  reversed_apart a b e = sym (before_reversed a) ∙ ap (bit_before n elements) e ∙ before_reversed b
