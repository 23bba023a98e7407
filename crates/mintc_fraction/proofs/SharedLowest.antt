-- A value has one fraction in lowest terms.
use Rattle.std.proofs.Common.{◌≡◌, ℕ, zero, suc, ◌+◌, ◌*◌, ◌/◌, ◌%◌, ◌<◌, ◌≤◌, ℤ, pos, negsuc, neg_ℤ, ◌≤ℤ◌, ◌+ℤ◌, ◌*ℤ◌, sym, ap, ◌∙◌, arith}
use Rattle.std.proofs.lemmas.Int.{ints}
use Rattle.std.proofs.Math.Nat.{mod-lt, div-add-mod}
use Rattle.std.proofs.Math.IntN.{*ℤ_comm, pos-*ℤ-pos, zero-*ℤ}
use Rattle.mintc_fraction.specs.Ratio.{Ratio, over, IsFraction, IsEqual, IsLowest}
use Rattle.mintc_fraction.proofs.SharedProducts.{times-assoc, add-times, medial-times, times-cancel_equal}

-- d is k times g and e is l times g, and n is z times k
pub record IsShared (d e : ℕ) (n : ℤ) : Type 0 where
  pub g : ℕ
  pub k : ℕ
  pub l : ℕ
  pub z : ℤ
  pub first : k * g ≡ d
  pub second : l * g ≡ e
  pub num : z *ℤ pos k ≡ n

linear : (a b c d p q s : ℤ) → a ≡ b → b ≡ c +ℤ d → p ≡ a +ℤ q → q +ℤ s ≡ pos 0 → s ≡ c → d ≡ p
linear a b c d p q s e f g h i = omega (arith, ints)

cancelled : (x : ℤ) → neg_ℤ x +ℤ x ≡ pos 0
cancelled x = omega (arith, ints)

-- two numerators of one value, a turn of Euclid's algorithm on
turned : (n m : ℤ) (d e q r : ℕ) → e * q + r ≡ d → n *ℤ pos e ≡ m *ℤ pos d → m *ℤ pos r ≡ (n +ℤ neg_ℤ (m *ℤ pos q)) *ℤ pos e
turned n m d e q r whole h =
    let parts : pos (e * q) +ℤ pos r ≡ pos d = ap pos whole in
    let split : m *ℤ pos d ≡ m *ℤ pos (e * q) +ℤ m *ℤ pos r =
    ap (λ v. m *ℤ v) (sym parts) ∙ *ℤ_comm m (pos (e * q) +ℤ pos r) ∙ add-times (pos (e * q)) (pos r) m
    ∙ ap (λ v. v +ℤ pos r *ℤ m) (*ℤ_comm (pos (e * q)) m) ∙ ap (λ v. m *ℤ pos (e * q) +ℤ v) (*ℤ_comm (pos r) m) in
    let none = sym (add-times (neg_ℤ (m *ℤ pos q)) (m *ℤ pos q) (pos e)) ∙ ap (λ v. v *ℤ pos e) (cancelled (m *ℤ pos q)) ∙ zero-*ℤ (pos e) in
    let same : (m *ℤ pos q) *ℤ pos e ≡ m *ℤ pos (e * q) =
    times-assoc m (pos q) (pos e) ∙ ap (λ v. m *ℤ v) (*ℤ_comm (pos q) (pos e) ∙ pos-*ℤ-pos e q) in
    linear (n *ℤ pos e) (m *ℤ pos d) (m *ℤ pos (e * q)) (m *ℤ pos r) ((n +ℤ neg_ℤ (m *ℤ pos q)) *ℤ pos e) (neg_ℤ (m *ℤ pos q) *ℤ pos e) ((m *ℤ pos q) *ℤ pos e)
    h split (add-times n (neg_ℤ (m *ℤ pos q)) (pos e)) none same

joined_whole : (q k l g e r d : ℕ) → k * g ≡ e → l * g ≡ r → e * q + r ≡ d → (k * q + l) * g ≡ d
joined_whole q k l g e r d h i whole = omega (arith, ap (λ v. v * q) h)

numerator : (n m z : ℤ) (d e g k t : ℕ) → 0 < e → n *ℤ pos e ≡ m *ℤ pos d → t * g ≡ e → k * g ≡ d → z *ℤ pos t ≡ m → z *ℤ pos k ≡ n
numerator n m z d e g k t some h ee dd zz =
    let pe : pos t *ℤ pos g ≡ pos e = pos-*ℤ-pos t g ∙ ap pos ee in
    let pd : pos k *ℤ pos g ≡ pos d = pos-*ℤ-pos k g ∙ ap pos dd in
    times-cancel_equal (z *ℤ pos k) n (pos e) (omega (arith, ints))
    (ap (λ v. (z *ℤ pos k) *ℤ v) (sym pe) ∙ medial-times z (pos k) (pos t) (pos g) ∙ ap (λ v. v *ℤ (pos k *ℤ pos g)) zz ∙ ap (λ v. m *ℤ v) pd ∙ sym h)

-- by Euclid's algorithm, in so many turns at most
shared : (turns d e : ℕ) (n m : ℤ) → e ≤ turns → n *ℤ pos e ≡ m *ℤ pos d → IsShared d e n
shared turns d zero n m few h =
    record { g = d; k = 1; l = 0; z = n; first = omega arith; second = omega arith; num = omega (arith, ints) }
shared zero d (suc e) n m few h = absurd (omega arith)
shared (suc turns) d (suc e) n m few h =
    let q = d / suc e in
    let r = d % suc e in
    let less : r < suc e = mod-lt d (omega arith) in
    let whole : suc e * q + r ≡ d = div-add-mod d (suc e) in
    let rest = shared turns (suc e) r m (n +ℤ neg_ℤ (m *ℤ pos q)) (omega arith) (turned n m d (suc e) q r whole h) in
    let parts = joined_whole q rest.k rest.l rest.g (suc e) r d rest.first rest.second whole in
    record {
      g = rest.g;
      k = rest.k * q + rest.l;
      l = rest.k;
      z = rest.z;
      first = parts;
      second = rest.first;
      num = numerator n m rest.z d (suc e) rest.g (rest.k * q + rest.l) rest.k (omega arith) h rest.first parts rest.num;
    }

one_of : (k : ℕ) → 0 < k → (2 ≤ k → ⊥) → k ≡ 1
one_of k some n = omega arith

some_factor : (k g d : ℕ) → k * g ≡ d → 0 < d → 0 < k
some_factor zero g d e some = absurd (omega arith)
some_factor (suc k) g d e some = omega arith

lowest_by : (n m : ℤ) (d e : ℕ) → 0 < d → 0 < e → IsLowest (over n (pos d)) → IsLowest (over m (pos e)) → n *ℤ pos e ≡ m *ℤ pos d → (d ≡ e) × (n ≡ m)
lowest_by n m d e some other low high h =
    let s = shared e d e n m (omega arith) h in
    let k_some = some_factor s.k s.g d s.first some in
    let l_some = some_factor s.l s.g e s.second other in
    let k_one : s.k ≡ 1 = one_of s.k k_some (λ two. low (pos s.k) (omega (arith, ints)) (s.z, s.num) (pos s.g, *ℤ_comm (pos s.g) (pos s.k) ∙ pos-*ℤ-pos s.k s.g ∙ ap pos s.first)) in
    let z_is : s.z *ℤ pos s.l ≡ m = numerator m n s.z e d s.g s.l s.k some (sym h) s.first s.second s.num in
    let l_one : s.l ≡ 1 = one_of s.l l_some (λ two. high (pos s.l) (omega (arith, ints)) (s.z, z_is) (pos s.g, *ℤ_comm (pos s.g) (pos s.l) ∙ pos-*ℤ-pos s.l s.g ∙ ap pos s.second)) in
    let g_first : s.g ≡ d = let e : s.k * s.g ≡ d = s.first in omega (arith, ap (λ v. v * s.g) k_one) in
    let g_second : s.g ≡ e = let f : s.l * s.g ≡ e = s.second in omega (arith, ap (λ v. v * s.g) l_one) in
    (sym g_first ∙ g_second, sym s.num ∙ ap (λ v. s.z *ℤ pos v) (k_one ∙ sym l_one) ∙ z_is)

lowest_same : (n m d e : ℤ) → pos 1 ≤ℤ d → pos 1 ≤ℤ e → IsLowest (over n d) → IsLowest (over m e) → n *ℤ e ≡ m *ℤ d → over n d ≡ over m e
lowest_same n m (pos d) (pos e) p q low high h =
    let s = lowest_by n m d e (omega (arith, ints)) (omega (arith, ints)) low high h in
    ap (λ v. over v (pos d)) (s.1) ∙ ap (λ v. over m (pos v)) (s.0)
lowest_same n m (negsuc d) e p q low high h = absurd (omega (arith, ints))
lowest_same n m d (negsuc e) p q low high h = absurd (omega (arith, ints))

pub IsLowest-unique : (a b : Ratio) → IsFraction a → IsFraction b → IsLowest a → IsLowest b → IsEqual a b → a ≡ b
IsLowest-unique a b p q low high e = lowest_same a.num b.num a.den b.den p q low high e
