-- writes to a list that is filled from the front, and to a room
use Rattle.std.proofs.Common.{◌≡◌, ◌<◌, ◌≢◌, ℕ, ◌+◌, ℤ, pos, List, length, set, get_or, arith, sym, ap, ◌∙◌, get_or-set_same, get_or-set_other, below_more}
use Rattle.mintc_constraints.specs.Rooms.{Space}

-- one more item of a list that is filled from the front
pub filled-more : (f : ℕ → ℤ) (xs ys : List ℤ) (n : ℕ) (y : ℤ) → ys ≡ set xs n y → n < length xs → y ≡ f n →
    ((k : ℕ) → k < n → get_or xs k (pos 0) ≡ f k) → (k : ℕ) → k < n + 1 → get_or ys k (pos 0) ≡ f k
filled-more f xs ys n y e h is before =
    rw e (below_more (λ k. get_or (set xs n y) k (pos 0) ≡ f k) n
    (λ k lt. let ne : k ≢ n = omega arith in get_or-set_other xs n k y (pos 0) ne ∙ before k lt)
    (get_or-set_same xs n y (pos 0) h ∙ is))

-- a write to the values leaves the rest of the room
pub kept-values : (old now new : Space) (xs : List ℤ) → new ≡ record now { values = xs } → now ≡ record old { values = now.values } → new ≡ record old { values = new.values }
kept-values old now new xs e h = e ∙ ap (λ (r : Space). record r { values = xs }) h ∙ ap (λ (ys : List ℤ). record old { values = ys }) (sym (ap (λ (r : Space). r.values) e))

-- so does one to the early departures
pub kept-early : (old now new : Space) (xs : List ℤ) → new ≡ record now { early = xs } → now ≡ record old { early = now.early } → new ≡ record old { early = new.early }
kept-early old now new xs e h = e ∙ ap (λ (r : Space). record r { early = xs }) h ∙ ap (λ (ys : List ℤ). record old { early = ys }) (sym (ap (λ (r : Space). r.early) e))

-- and both in turn
pub kept-round : (old now mid new : Space) → mid ≡ record now { values = mid.values } → new ≡ record mid { early = new.early } →
    now ≡ record old { early = now.early; values = now.values } → new ≡ record old { early = new.early; values = new.values }
kept-round old now mid new e f h =
    f ∙ ap (λ (r : Space). record r { early = new.early }) (e ∙ ap (λ (r : Space). record r { values = mid.values }) h)
    ∙ ap (λ (xs : List ℤ). record old { early = new.early; values = xs }) (sym (ap (λ (r : Space). r.values) f))
