-- The first place at which a test passes, in a list and among the first numbers.
use Rattle.std.proofs.Common.{◌≡◌, ℕ, ◌+◌, ◌<◌, ◌≤◌, List, length, get_or, Bool, true, false, cond, nat_lt, Option, Some, None, position, refl, sym, ap, ◌∙◌, arith, zero-add, ⊎_elim}
use Rattle.std.specs.List.{position_or_len, range_with_len}
use Rattle.std.specs.Option.{option_or}
use Rattle.std.proofs.lemmas.Bool.{lt-ltb, le-ltb, ltb-false, cases_eq}
use Rattle.std.proofs.lemmas.List.Sums.{position_or_len_is, fails_before_first}
use Rattle.std.proofs.lemmas.List.Quantifiers.{position-Some}
use Rattle.std.proofs.lemmas.List.FromFn.{length-range_with_len, get_or-range_with_len}

pub position_is : {X : Type 0} (p : X → Bool) (xs : List X) (i : ℕ) (d : X) → ((k : ℕ) → k < i → p (get_or xs k d) ≡ false) → i < length xs → p (get_or xs i d) ≡ true → position p xs ≡ Some i
position_is p xs i d before within here =
    let e : position_or_len p xs ≡ i = position_or_len_is p xs i d (omega (arith, within)) before (λ h. here) in
    ap (λ (n : ℕ). cond (nat_lt n (length xs)) (Some n) None) e ∙ ap (λ (b : Bool). cond b (Some i) None) (lt-ltb i (length xs) within)

pub position_none : {X : Type 0} (p : X → Bool) (xs : List X) (d : X) → ((k : ℕ) → k < length xs → p (get_or xs k d) ≡ false) → position p xs ≡ None
position_none p xs d none =
    let e : position_or_len p xs ≡ length xs = position_or_len_is p xs (length xs) d (omega arith) none (λ h. absurd (omega (arith, h))) in
    ap (λ (n : ℕ). cond (nat_lt n (length xs)) (Some n) None) e ∙ ap (λ (b : Bool). cond b (Some (length xs)) None) (le-ltb (length xs) (length xs) (omega arith))

missing_by : (n L : ℕ) (b : Bool) → nat_lt n L ≡ b → cond b (Some n) None ≡ None → L ≤ n
missing_by n L true h e = cc
missing_by n L false h e = ltb-false n L h

pub position_missing : {X : Type 0} (p : X → Bool) (xs : List X) (d : X) → position p xs ≡ None → (k : ℕ) → k < length xs → p (get_or xs k d) ≡ false
position_missing p xs d none k within =
    let past : length xs ≤ position_or_len p xs = missing_by (position_or_len p xs) (length xs) (nat_lt (position_or_len p xs) (length xs)) refl none in
    fails_before_first p xs k d (omega (arith, past, within))

-- ---- among the first numbers
pub number : (n k : ℕ) → k < n → get_or (range_with_len 0 n) k 0 ≡ k
number n k within = get_or-range_with_len 0 n k 0 within ∙ zero-add k

pub range_first : (test : ℕ → Bool) (n i : ℕ) → i < n → test i ≡ true → ((k : ℕ) → k < i → test k ≡ false) → position test (range_with_len 0 n) ≡ Some i
range_first test n i within here before =
    position_is test (range_with_len 0 n) i 0 (λ k below. ap test (number n k (omega (arith, below, within))) ∙ before k below)
    (omega (arith, within, length-range_with_len 0 n)) (ap test (number n i within) ∙ here)

pub range_none : (test : ℕ → Bool) (n : ℕ) → ((k : ℕ) → k < n → test k ≡ false) → position test (range_with_len 0 n) ≡ None
range_none test n none =
    position_none test (range_with_len 0 n) 0
    (λ k below. let less : k < n = omega (arith, below, length-range_with_len 0 n) in ap test (number n k less) ∙ none k less)

pub record IsFirstOf (test : ℕ → Bool) (n i : ℕ) : Type 0 where
  pub within : i < n
  pub here : test i ≡ true
  pub before : (k : ℕ) → k < i → test k ≡ false

pub range_found : (test : ℕ → Bool) (n i : ℕ) → position test (range_with_len 0 n) ≡ Some i → IsFirstOf test n i
range_found test n i found =
    let at = position-Some test (range_with_len 0 n) i 0 found in
    let within : i < n = omega (arith, at.0, length-range_with_len 0 n) in
    record {
      within = within;
      here = ap test (sym (number n i within)) ∙ at.1;
      before = λ k below. ap test (sym (number n k (omega (arith, below, within)))) ∙ at.2 k below;
    }

pub range_missing : (test : ℕ → Bool) (n : ℕ) → position test (range_with_len 0 n) ≡ None → (k : ℕ) → k < n → test k ≡ false
range_missing test n none k within =
    ap test (sym (number n k within)) ∙ position_missing test (range_with_len 0 n) 0 none k (omega (arith, within, length-range_with_len 0 n))

-- one more number
pub range_more : (test : ℕ → Bool) (n : ℕ) (o : Option ℕ) (b : Bool) → position test (range_with_len 0 n) ≡ o → test n ≡ b → position test (range_with_len 0 (n + 1)) ≡ option_or o (cond b (Some n) None)
range_more test n (Some i) b before at =
    let is = range_found test n i before in
    range_first test (n + 1) i (omega (arith, is.within)) is.here is.before
range_more test n None true before at = range_first test (n + 1) n (omega arith) at (range_missing test n before)
range_more test n None false before at =
    range_none test (n + 1) (λ k below. ⊎_elim (λ last. ap test last ∙ at) (λ other. range_missing test n before k (omega (arith, below, other))) (cases_eq k n))
