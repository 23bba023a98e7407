-- a loop over pairs that keeps the best number for each element
use Rattle.std.proofs.Common.{◌≡◌, ℕ, ◌+◌, ◌<◌, ◌==◌, ℤ, pos, Bool, true, false, cond, List, [], ◌∷◌, ◌++◌, length, get_or, set, take, map, sym, ap, ◌∙◌, Option, Some, ⊎_elim, eq-eqb, ne_eqb, get_or-set_same, get_or-set_other}
use Rattle.std.proofs.lemmas.Bool.{cases_eq}
use Rattle.std.proofs.lemmas.List.{map-append, append-nil}
use Rattle.std.proofs.lemmas.List.Elements.{filter_more}
use Rattle.std.specs.List.{filter}
use Rattle.mintc_timing.specs.declared.parts.Pair.{Pair}
use Rattle.mintc_timing.specs.Design.{no_pair}
use Rattle.mintc_departure.specs.Rounds.{IsArrivalSum}

-- A loop over pairs that keeps, for each element, the best number that the pairs so far bring to it: `best` finds it in a
-- list, `pick` puts one more number to what was found, `join` does so among numbers, and `Stands` says which number
-- stands for what was found.
module _ (best : List ℤ → Option ℤ) (pick : ℤ → Option ℤ → ℤ) (join : ℤ → ℤ → ℤ) (Stands : Option ℤ → ℤ → Type 0)
    (push : (xs : List ℤ) (y : ℤ) → best (xs ++ y ∷ []) ≡ Some (pick y (best xs)))
    (more : (o : Option ℤ) (v y : ℤ) → IsArrivalSum y → Stands o v → Stands (Some (pick y o)) (join y v))
    (f : Pair → ℤ) where
  -- one more item, as at a turn of a loop
  best-more : (test : Pair → Bool) (xs : List Pair) (n : ℕ) → n < length xs →
      best (map f (filter test (take (n + 1) xs)))
      ≡ cond (test (get_or xs n no_pair)) (Some (pick (f (get_or xs n no_pair)) (best (map f (filter test (take n xs)))))) (best (map f (filter test (take n xs))))
  best-more test xs n h =
      ap (λ ys. best (map f ys)) (filter_more test xs n no_pair h) ∙ pushed (filter test (take n xs)) (get_or xs n no_pair) (test (get_or xs n no_pair))
    where
      pushed : (ys : List Pair) (y : Pair) (b : Bool) → best (map f (ys ++ cond b (y ∷ []) [])) ≡ cond b (Some (pick (f y) (best (map f ys)))) (best (map f ys))
      pushed ys y true = ap best (map-append f ys (y ∷ [])) ∙ push (map f ys) (f y)
      pushed ys y false = ap (λ zs. best (map f zs)) (append-nil ys)

  -- a turn of the loop, at each element
  pub gathered-more : (pairs : List Pair) (n m : ℕ) (xs ys : List ℤ) → n < length pairs → IsArrivalSum (f (get_or pairs n no_pair)) →
      (get_or pairs n no_pair).to < length xs →
      ys ≡ set xs (get_or pairs n no_pair).to (join (f (get_or pairs n no_pair)) (get_or xs (get_or pairs n no_pair).to (pos 0))) →
      ((k : ℕ) → k < m → Stands (best (map f (filter (λ (p : Pair). p.to == k) (take n pairs)))) (get_or xs k (pos 0))) →
      (k : ℕ) → k < m → Stands (best (map f (filter (λ (p : Pair). p.to == k) (take (n + 1) pairs)))) (get_or ys k (pos 0))
  gathered-more pairs n m xs ys h range inside write before k lt =
      rw (write, best-more (λ (p : Pair). p.to == k) pairs n h) (⊎_elim here other (cases_eq k (get_or pairs n no_pair).to))
    where
      p : Pair
      p = get_or pairs n no_pair

      y : ℤ
      y = join (f p) (get_or xs p.to (pos 0))

      o : Option ℤ
      o = best (map f (filter (λ (q : Pair). q.to == k) (take n pairs)))

      here : k ≡ p.to → Stands (cond (p.to == k) (Some (pick (f p) o)) o) (get_or (set xs p.to y) k (pos 0))
      here e =
          let test : (p.to == k) ≡ true = eq-eqb p.to k (sym e) in
          let value : get_or (set xs p.to y) k (pos 0) ≡ join (f p) (get_or xs k (pos 0)) =
          ap (λ (j : ℕ). get_or (set xs p.to y) j (pos 0)) e ∙ get_or-set_same xs p.to y (pos 0) inside ∙ ap (λ (j : ℕ). join (f p) (get_or xs j (pos 0))) (sym e) in
          rw (test, value) (more o (get_or xs k (pos 0)) (f p) range (before k lt))

      other : (k ≡ p.to → ⊥) → Stands (cond (p.to == k) (Some (pick (f p) o)) o) (get_or (set xs p.to y) k (pos 0))
      other ne =
          let test : (p.to == k) ≡ false = ne_eqb p.to k (λ e. ne (sym e)) in
          rw (test, get_or-set_other xs p.to k y (pos 0) ne) (before k lt)
