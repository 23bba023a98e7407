-- Line feeds before a place.
use Rattle.std.proofs.Common.{◌≡◌, ◌≢◌, ℕ, zero, suc, ◌+◌, ◌-◌, ◌<◌, ◌≤◌, ◌==◌, inr, List, length, get_or, take, ap, ◌∙◌, sym, subst, arith, true, false}
use Rattle.std.proofs.lemmas.Bool.Decides.{nat_tests}
use Rattle.std.proofs.lemmas.List.{length-take-le, take_all}
use Rattle.std.proofs.lemmas.List.Sums.{count_by-le-length, count_by_more_yes, count_by_more_no}
use Rattle.mintcx_places.specs.Lines.{Begins, IsFree, feeds}

other : (b : ℕ) → b ≢ 10 → (b == 10) ≡ false
other b h = grind (arith, nat_tests)

feed : (b : ℕ) → b ≡ 10 → (b == 10) ≡ true
feed b h = grind (arith, nat_tests)

-- one byte more
no_more : (text : List ℕ) (at : ℕ) → at < length text → get_or text at 0 ≢ 10 → feeds (take (at + 1) text) ≡ feeds (take at text)
no_more text at h g = count_by_more_no (λ b. b == 10) text at 0 h (other (get_or text at 0) g)

pub one_more : (text : List ℕ) (at : ℕ) → at < length text → get_or text at 0 ≡ 10 → feeds (take (at + 1) text) ≡ feeds (take at text) + 1
one_more text at h g = count_by_more_yes (λ b. b == 10) text at 0 h (feed (get_or text at 0) g)

along : (text : List ℕ) (from d : ℕ) → from + d ≤ length text → ((k : ℕ) → from ≤ k → k < from + d → get_or text k 0 ≢ 10) → feeds (take (from + d) text) ≡ feeds (take from text)
along text from zero h g = let e : from + 0 ≡ from = omega arith in ap (λ n. feeds (take n text)) e
along text from (suc d) h g =
    let e : from + suc d ≡ (from + d) + 1 = omega arith in
    ap (λ n. feeds (take n text)) e
    ∙ no_more text (from + d) (omega arith) (g (from + d) (omega arith) (omega arith))
    ∙ along text from d (omega arith) (λ k a b. g k a (omega arith))

-- where no line feed stands between two places, as many stand before each
pub feeds_same : (text : List ℕ) (from to : ℕ) → from ≤ to → to ≤ length text → IsFree text from to → feeds (take to text) ≡ feeds (take from text)
feeds_same text from to order within free =
    let e : from + (to - from) ≡ to = omega arith in
    subst (λ n. feeds (take n text) ≡ feeds (take from text)) e (along text from (to - from) (omega arith) (λ k a b. free k a (omega arith)))

-- all line feeds, where none stands behind a place
pub feeds_all : (text : List ℕ) (from : ℕ) → from ≤ length text → IsFree text from (length text) → feeds text ≡ feeds (take from text)
feeds_all text from within free =
    ap feeds (sym (take_all (length text) text (omega arith))) ∙ feeds_same text from (length text) within (omega arith) free

-- behind a line feed
pub feeds_behind : (text : List ℕ) (from feed : ℕ) → from ≤ feed → feed < length text → IsFree text from feed → get_or text feed 0 ≡ 10 →
    feeds (take (feed + 1) text) ≡ feeds (take from text) + 1
feeds_behind text from feed order within free here =
    one_more text feed within here ∙ ap (λ n. n + 1) (feeds_same text from feed order (omega arith) free)

pub begins_behind : (text : List ℕ) (feed : ℕ) → get_or text feed 0 ≡ 10 → Begins text (feed + 1)
begins_behind text feed here =
    let e : (feed + 1) - 1 ≡ feed = omega arith in
    inr (ap (λ n. get_or text n 0) e ∙ here)

-- there are no more line feeds before a place than bytes
pub feeds_few : (text : List ℕ) (at : ℕ) → at ≤ length text → feeds (take at text) ≤ at
feeds_few text at h = omega (arith, count_by-le-length (λ b. b == 10) (take at text), length-take-le at text h)
