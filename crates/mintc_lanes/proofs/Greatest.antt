-- The greatest lane, by three turns.
use Rattle.std.proofs.Common.{◌≡◌, ℕ, zero, suc, ◌+◌, ◌*◌, ◌%◌, ◌^◌, ◌<◌, ◌≤◌, ℤ, ◌≤ℤ◌, ◌<ℤ◌, ◌-ℤ◌, Bool, true, false, cond, Option, Some, None, List, length, refl, sym, ap, ◌∙◌, subst, arith, w64, SFits}
use Rattle.std.specs.Prelude.{unsigned_abs, IfSome, IsSomeAnd, Contains}
use Rattle.std.specs.Int.{int_max}
use Rattle.std.specs.Ordering.{int_eq}
use Rattle.std.proofs.lemmas.Int.{ints, clamps, by_lt_z}
use Rattle.std.proofs.lemmas.List.Elements.{Contains-get_or}
use Rattle.mintc_lanes.specs.declared.TheConstants.{ABSENT}
use Rattle.mintc_lanes.specs.Lanes.{lane_of, AreLanes, IsGreatestLane}
use Rattle.mintc_lanes.specs.Vectors.{HasNumbers, number_at}
use Rattle.mintc_lanes.proofs.Joining.{present, size_of_present, IsNear, IsNear-lane, difference_fits}

-- a vector with the greater of each number and the number o places on
abbrev pub IsTurn : List ℤ → ℕ → List ℤ → Type 0
IsTurn v o w = HasNumbers w (λ k. int_max (number_at v k) (number_at v ((k + o) % 8)))

-- what holds of two numbers holds of the greater
of_greater : (P : ℤ → Type 0) (x y : ℤ) → P x → P y → P (int_max x y)
of_greater P x y p q =
    by_lt_z y x
    (λ h. let e : int_max x y ≡ x = omega (arith, ints, clamps) in subst P (sym e) p)
    (λ h. let e : int_max x y ≡ y = omega (arith, ints, clamps) in subst P (sym e) q)

round : (k o : ℕ) → (k + o) % 8 < 8
round k o = omega arith

of_turn : (P : ℤ → Type 0) (v : List ℤ) (o : ℕ) (w : List ℤ) → IsTurn v o w → ((k : ℕ) → k < 8 → P (number_at v k)) → (k : ℕ) → k < 8 → P (number_at w k)
of_turn P v o w turn all k lt =
    subst P (sym (turn k lt)) (of_greater P (number_at v k) (number_at v ((k + o) % 8)) (all k lt) (all ((k + o) % 8) (round k o)))

own : (v : List ℤ) (o : ℕ) (w : List ℤ) → IsTurn v o w → (k : ℕ) → k < 8 → number_at v k ≤ℤ number_at w k
own v o w turn k lt = let e = turn k lt in omega (arith, ints, clamps)

next : (v : List ℤ) (o : ℕ) (w : List ℤ) → IsTurn v o w → (k : ℕ) → k < 8 → number_at v ((k + o) % 8) ≤ℤ number_at w k
next v o w turn k lt = let e = turn k lt in omega (arith, ints, clamps)

-- the turns of a vector, by four, two and one
pub record AreTurns (v w x y : List ℤ) : Type 0 where
  pub four : IsTurn v 4 w
  pub two : IsTurn w 2 x
  pub one : IsTurn x 1 y

below : (v w x y : List ℤ) → AreTurns v w x y → (k : ℕ) → k < 8 → number_at v k ≤ℤ number_at y 0
below v w x y t zero lt =
    omega (arith, ints, own v 4 w t.four 0 (omega arith), own w 2 x t.two 0 (omega arith), own x 1 y t.one 0 (omega arith))
below v w x y t (suc zero) lt =
    omega (arith, ints, own v 4 w t.four 1 (omega arith), own w 2 x t.two 1 (omega arith), next x 1 y t.one 0 (omega arith))
below v w x y t (suc (suc zero)) lt =
    omega (arith, ints, own v 4 w t.four 2 (omega arith), next w 2 x t.two 0 (omega arith), own x 1 y t.one 0 (omega arith))
below v w x y t (suc (suc (suc zero))) lt =
    omega (arith, ints, own v 4 w t.four 3 (omega arith), next w 2 x t.two 1 (omega arith), next x 1 y t.one 0 (omega arith))
below v w x y t (suc (suc (suc (suc zero)))) lt =
    omega (arith, ints, next v 4 w t.four 0 (omega arith), own w 2 x t.two 0 (omega arith), own x 1 y t.one 0 (omega arith))
below v w x y t (suc (suc (suc (suc (suc zero))))) lt =
    omega (arith, ints, next v 4 w t.four 1 (omega arith), own w 2 x t.two 1 (omega arith), next x 1 y t.one 0 (omega arith))
below v w x y t (suc (suc (suc (suc (suc (suc zero)))))) lt =
    omega (arith, ints, next v 4 w t.four 2 (omega arith), next w 2 x t.two 0 (omega arith), own x 1 y t.one 0 (omega arith))
below v w x y t (suc (suc (suc (suc (suc (suc (suc zero))))))) lt =
    omega (arith, ints, next v 4 w t.four 3 (omega arith), next w 2 x t.two 1 (omega arith), next x 1 y t.one 0 (omega arith))
below v w x y t (suc (suc (suc (suc (suc (suc (suc (suc k)))))))) lt = absurd (omega arith)

-- a lane that is present is at most a number that its own number is at most
bound_by : (x z : ℤ) (t : Bool) → int_eq x ABSENT ≡ t → (int_eq x ABSENT ≡ false → unsigned_abs x ≤ 2 * 10 ^ 18) → x ≤ℤ z →
    IfSome (cond t None (Some x)) (λ v. IsSomeAnd (lane_of z) (λ y. v ≤ℤ y))
bound_by x z true e small h = tt
bound_by x z false e small h =
    let size = small e in
    let above : ABSENT <ℤ z = omega (arith, ints) in
    subst (λ (lane : Option ℤ). IsSomeAnd lane (λ y. x ≤ℤ y)) (sym (ap (λ (b : Bool). cond b None (Some z)) (present z above))) h

pub IsGreatestLane-from_turns : (v w x y : List ℤ) → length v ≡ 8 → AreLanes v → AreTurns v w x y → IsGreatestLane v (number_at y 0)
IsGreatestLane-from_turns v w x y count lanes t =
    record {
      attained = of_turn (Contains v) x 1 y t.one (of_turn (Contains v) w 2 x t.two (of_turn (Contains v) v 4 w t.four (λ k lt. Contains-get_or v k ABSENT (omega arith)))) 0 (omega arith);
      bound = λ k lt. bound_by (number_at v k) (number_at y 0) (int_eq (number_at v k) ABSENT) refl (size_of_present (number_at v k) (lanes k lt)) (below v w x y t k lt);
    }

-- a turn by the code: the greater of a vector and of the vector turned round
pub turn_is : (v turned w : List ℤ) (o : ℕ) → HasNumbers turned (λ k. number_at v ((k + o) % 8)) → HasNumbers w (λ k. int_max (number_at v k) (number_at turned k)) → IsTurn v o w
turn_is v turned w o places greater k lt = greater k lt ∙ ap (λ z. int_max (number_at v k) z) (places k lt)

-- each number is that of a lane
abbrev pub AreNear : List ℤ → Type 0
AreNear v = (k : ℕ) → k < 8 → IsNear (number_at v k)

pub AreNear-row : (row : List ℤ) → AreLanes row → AreNear row
AreNear-row row lanes k lt = IsNear-lane (number_at row k) (lanes k lt)

pub AreNear-turn : (v w : List ℤ) (o : ℕ) → IsTurn v o w → AreNear v → AreNear w
AreNear-turn v w o turn near = of_turn IsNear v o w turn near

pub turn_differs : (v turned : List ℤ) (o : ℕ) → AreNear v → HasNumbers turned (λ k. number_at v ((k + o) % 8)) →
    (k : ℕ) → k < 8 → SFits w64 (number_at v k -ℤ number_at turned k)
turn_differs v turned o near places k lt =
    difference_fits (number_at v k) (number_at turned k) (near k lt) (subst IsNear (sym (places k lt)) (near ((k + o) % 8) (round k o)))
