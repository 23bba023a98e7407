-- A step that is taken several times.
use Rattle.std.proofs.Common.{◌≡◌, ℕ, zero, suc, ◌+◌, ◌<◌, Option, Some, None, refl, ap, ◌∙◌, arith, add-one}
use Rattle.std.specs.Option.{option_and_then}
use Rattle.mintcx_places.specs.Turns.{after_turns}

-- a step and no more
alone : {A : Type 0} (step : A → Option A) (o : Option A) → option_and_then (after_turns step 0) o ≡ o
alone step None = refl
alone step (Some a) = refl

-- one turn more at the end
further : {A : Type 0} (step : A → Option A) (n : ℕ) (b : A) (o : Option A) →
    ((a : A) → after_turns step n a ≡ Some b → after_turns step (suc n) a ≡ step b) →
    option_and_then (after_turns step n) o ≡ Some b → option_and_then (after_turns step (suc n)) o ≡ step b
further step n b None go h = cc
further step n b (Some a) go h = go a h

later : {A : Type 0} (step : A → Option A) (n : ℕ) (a b : A) → after_turns step n a ≡ Some b → after_turns step (suc n) a ≡ step b
later step zero a b h = let e : a ≡ b = cc in alone step (step a) ∙ ap step e
later step (suc n) a b h = further step n b (step a) (λ x g. later step n x b g) h

pub one_more : {A : Type 0} (step : A → Option A) (n : ℕ) (a b : A) → after_turns step n a ≡ Some b → after_turns step (n + 1) a ≡ step b
one_more step n a b h = rw add-one (later step n a b h)

-- where a turn can't be taken, more can't
stays : {A : Type 0} (step : A → Option A) (n m : ℕ) (b : A) (o : Option A) →
    ((a : A) → after_turns step n a ≡ Some b → after_turns step m a ≡ None) →
    option_and_then (after_turns step n) o ≡ Some b → option_and_then (after_turns step m) o ≡ None
stays step n m b None go h = refl
stays step n m b (Some a) go h = go a h

pub none_later : {A : Type 0} (step : A → Option A) (n m : ℕ) (a b : A) → n < m → after_turns step n a ≡ Some b → step b ≡ None → after_turns step m a ≡ None
none_later step n zero a b h g e = absurd (omega arith)
none_later step zero (suc m) a b h g e =
    let same : a ≡ b = cc in
    ap (option_and_then (after_turns step m)) (ap step same ∙ e)
none_later step (suc n) (suc m) a b h g e = stays step n m b (step a) (λ x f. none_later step n m x b (omega arith) f e) g
