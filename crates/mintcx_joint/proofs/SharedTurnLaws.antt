-- The members of a chain that is turned to its beginning, and the widest of some corners.
use Rattle.std.proofs.Common.{◌≡◌, ℕ, zero, suc, ◌<◌, ◌≤◌, ◌+◌, ◌-◌, Bool, true, false, if◌then◌else◌, List, [], ◌∷◌, ◌++◌, length, get_or, take, drop, arith, ap, ◌∙◌, sym, length-append}
use Rattle.std.specs.Prelude.{int_lt}
use Rattle.std.specs.List.{fold, range_with_len}
use Rattle.std.proofs.lemmas.List.{get_or-append_right, get_or_append_left, get_or-drop, get_or-take, length-drop, take-append-drop}
use Rattle.std.proofs.lemmas.List.Sums.{fold_push}
use Rattle.mintc_timing.specs.Clocking.{least_width}
use Rattle.mintc_timing.specs.Design.{Timing}
use Rattle.mintcx_chain.specs.Turning.{turned}
use Rattle.mintcx_joint.specs.Shown.{corner_at, wider, widest_corner}

module _ {X : Type 0} (n : ℕ) (xs : List X) (begins : n < length xs) (i : ℕ) (x : X) where
  -- those up to the end
  pub turned_left : i < length xs - n → x ≡ get_or xs (n + i) x → x ≡ get_or (turned n xs) i x
  turned_left h is =
      let count = length-drop n xs in
      is ∙ sym (get_or-drop n xs i x) ∙ sym (get_or_append_left (drop n xs) (take n xs) x i (omega arith))

  -- and those before its beginning
  pub turned_right : length xs - n ≤ i → i < length xs → x ≡ get_or xs (i - (length xs - n)) x → x ≡ get_or (turned n xs) i x
  turned_right h below is =
      is ∙ sym (get_or-take n xs (i - (length xs - n)) x (omega arith)) ∙ sym (get_or-append_right (drop n xs) (take n xs) (length xs - n) i x (length-drop n xs) h)

-- there are as many as before
pub turned_length : {X : Type 0} (n : ℕ) (xs : List X) → length (turned n xs) ≡ length xs
turned_length {X = X} n xs =
    let own = length-append (drop n xs) (take n xs) in
    let all = sym (length-append (take n xs) (drop n xs)) ∙ ap (λ (ys : List X). length ys) (take-append-drop n xs) in
    omega arith

counting : (i n : ℕ) → range_with_len i (suc n) ≡ range_with_len i n ++ (i + n) ∷ []
counting i zero = let same : i ≡ i + 0 = omega arith in ap (λ (k : ℕ). k ∷ []) same
counting i (suc n) =
    let same : i + 1 + n ≡ i + suc n = omega arith in
    ap (λ (l : List ℕ). i ∷ l) (counting (i + 1) n ∙ ap (λ (k : ℕ). range_with_len (i + 1) n ++ k ∷ []) same)

-- one corner more
pub wider_more : (ts : List Timing) (p c : ℕ) → fold (wider ts p) 0 (range_with_len 0 (c + 1)) ≡ wider ts p (fold (wider ts p) 0 (range_with_len 0 c)) c
wider_more ts p c =
    let more : c + 1 ≡ suc c = omega arith in
    let last : 0 + c ≡ c = omega arith in
    ap (fold (wider ts p) 0) (ap (range_with_len 0) more ∙ counting 0 c ∙ ap (λ (k : ℕ). range_with_len 0 c ++ k ∷ []) last)
    ∙ fold_push (wider ts p) 0 (range_with_len 0 c) c

choice_below : (b : Bool) (x y n : ℕ) → x < n → y < n → (if b then x else y) < n
choice_below true x y n h g = h
choice_below false x y n h g = g

fold_below : (ts : List Timing) (p k a m first : ℕ) → first < k → a + m ≤ k → fold (wider ts p) first (range_with_len a m) < k
fold_below ts p k a zero first h most = h
fold_below ts p k a (suc m) first h most =
    fold_below ts p k (a + 1) m (wider ts p first a) (choice_below (int_lt (least_width (corner_at ts first).flat p) (least_width (corner_at ts a).flat p)) a first k (omega arith) h) (omega arith)

-- the widest is one of the corners
pub widest_below : (ts : List Timing) (p : ℕ) → 1 ≤ length ts → widest_corner ts p < length ts
widest_below ts p some = fold_below ts p (length ts) 0 (length ts) 0 some (omega arith)
