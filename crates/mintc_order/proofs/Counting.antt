-- Lists with each number once, and how many bits a search has met.
use Rattle.std.proofs.Common.{◌≡◌, ◌≢◌, ℕ, ◌+◌, ◌-◌, ◌<◌, ◌≤◌, List, ◌++◌, length, get_or, eqb, refl, sym, ap, ◌∙◌, arith, length-append}
use Rattle.std.specs.List.{All, AllPairs, Contains}
use Rattle.std.proofs.lemmas.Bool.Decides.{Decides-eqb}
use Rattle.std.proofs.lemmas.List.{get_or_append_left, get_or-append_right, get_or_default}
use Rattle.std.proofs.lemmas.List.Folds.{list_any_at}
use Rattle.std.proofs.lemmas.Map.Made.{IsDistinct-from_AllPairs}
use Rattle.std.proofs.lemmas.Map.Steps.{length-le_from_distinct_below, le-length_from_below}
use Rattle.std.proofs.lemmas.Map.Views.{Contains-from_any}
use Rattle.mintc_timing.specs.declared.parts.TimingArc.{TimingArc}
use Rattle.mintc_order.specs.Listings.{AreAll}
use Rattle.mintc_order.specs.Searches.{IsSearch}

-- numbers below n, no two of them equal, are at most n
few_distinct : (n : ℕ) (xs : List ℕ) → AllPairs (λ x y. x ≢ y) xs → All (λ x. x < n) xs → length xs ≤ n
few_distinct n xs apart below =
    length-le_from_distinct_below xs n (IsDistinct-from_AllPairs Decides-eqb xs apart)
    (λ q h. let at = Contains-from_any (λ x y e. (Decides-eqb x y).0 e) q xs h in omega (arith, below at.0 q at.1))

-- a list with each number below n is at least n long
many_listed : (n : ℕ) (xs : List ℕ) → ((q : ℕ) → q < n → Contains xs q) → n ≤ length xs
many_listed n xs each =
    le-length_from_below xs n
    (λ q h. let at = each q h in list_any_at (eqb q) xs at.0 q at.1 ((Decides-eqb q (get_or xs at.0 q)).1 (sym at.2)))

-- numbers of arcs, no two of them equal, are at most as many as the arcs
few_once : (n : ℕ) (xs : List ℕ) → ((i j : ℕ) → i < j → j < length xs → get_or xs i 0 ≢ get_or xs j 0) → ((i : ℕ) → i < length xs → get_or xs i 0 < n) → length xs ≤ n
few_once n xs once number =
    few_distinct n xs (λ i j d b h e. once i j b h (get_or_default xs i 0 d (omega arith) ∙ e ∙ get_or_default xs j d 0 h)) (λ k d h. omega (arith, number k h, get_or_default xs k d 0 h))

-- a list with each arc once is as long as these
pub AreAll-count : {arcs : List TimingArc} {numbers : List ℕ} → AreAll arcs numbers → length numbers ≡ length arcs
AreAll-count {arcs} {numbers} all = omega (arith, few_once (length arcs) numbers all.once all.number, many_listed (length arcs) numbers all.whole)

module _ {bits : ℕ} {starts ends marks path nexts given : List ℕ} (s : IsSearch bits starts ends marks path nexts given) where
  in_path : (i d : ℕ) → i < length path → get_or (path ++ given) i d ≡ get_or path i 0
  in_path i d h = get_or_append_left path given d i h ∙ get_or_default path i d 0 h

  in_given : (i d : ℕ) → length path ≤ i → i < length path + length given → get_or (path ++ given) i d ≡ get_or given (i - length path) 0
  in_given i d h l = get_or-append_right path given (length path) i d refl h ∙ get_or_default given (i - length path) d 0 (omega arith)

  -- a bit of the path isn't given out
  waits : (i j : ℕ) → i < length path → j < length given → get_or path i 0 ≢ get_or given j 0
  waits i j h l = grind (arith, s.is_path.each_bit, s.are_given.out)

  apart_in_path : (i j : ℕ) → i < j → j < length path → get_or path i 0 ≢ get_or path j 0
  apart_in_path i j l h = λ e. omega (arith, s.is_path.each_bit i (omega arith), s.is_path.each_bit j h, ap (λ (n : ℕ). get_or marks n 0) e)

  distinct : AllPairs (λ x y. x ≢ y) (path ++ given)
  distinct i j d l h = grind (arith, length-append, in_path, in_given, apart_in_path, waits, s.are_given.ordered.once)

  below : All (λ x. x < bits) (path ++ given)
  below k d h = grind (arith, length-append, in_path, in_given, s.is_path.each_bit, s.are_given.ordered.within)

  -- A bit is on the path or is given out once, so all of these are at most as many as the bits.
  pub IsSearch-few : length path + length given ≤ bits
  IsSearch-few = omega (arith, length-append path given, few_distinct bits (path ++ given) distinct below)
