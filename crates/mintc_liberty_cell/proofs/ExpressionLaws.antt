-- How many bytes an expression over an input may have.
use Rattle.std.proofs.Common.{◌≡◌, ℕ, zero, suc, ◌+◌, ◌-◌, ◌<◌, ◌≤◌, Bool, true, false, cond, ◌&&◌, ◌||◌, ◌==◌, nat_le, List, [], ◌∷◌, All, length, take, drop, slice_index, slice_index_or, bytes_eq, option_map, Some, None, refl, sym, ap, ◌∙◌, arith, length-drop, true≢false}
use Rattle.std.specs.List.{list_any}
use Rattle.std.proofs.lemmas.Bool.Decides.{nat_tests}
use Rattle.std.proofs.lemmas.List.{length-take-le}
use Rattle.std.proofs.lemmas.List.Folds.{list_any_none}
use Rattle.mintc_liberty_cell.specs.declared.pins.Pin.{Pin as PinRead}
use Rattle.mintc_liberty_cell.specs.declared.pins.Role.TheVariants as role
use Rattle.mintc_liberty_cell.specs.Seen.{pin_seen}
use Rattle.mintc_liberty_cell.specs.Expressions.{is_among, without_last, inverted_input, literal, peeled}
use Rattle.mintc_liberty_cell.specs.Parentheses.{pairs}
use Rattle.mintc_liberty_cell.specs.Meaning.{Pin, names, inputs, is_as}
use Rattle.mintc_liberty_cell.proofs.ParenthesesLaws.{peeled-is, peeled-size}
use Rattle.mintc_liberty_cell.proofs.TextLaws.{longer}

all-more : (P : List ℕ → Type 0) (x : List ℕ) (xs : List (List ℕ)) → P x → All P xs → All P (x ∷ xs)
all-more P x xs h t zero d l = h
all-more P x xs h t (suc k) d l = t k d (omega (arith, l))

-- whether a test holds of a pin that is an input, or of an input behind it
pub inputs-any : (test : List ℕ → Bool) (p : PinRead) (ps : List Pin) →
    list_any test (inputs (pin_seen p ∷ ps)) ≡ ((is_as role.Input p.role && test p.name.now) || list_any test (inputs ps))
inputs-any test p ps = grind arith

not-le : (m n : ℕ) → nat_le m n ≡ false → n < m
not-le m n e = grind (arith, nat_tests)

all-short : (names : List (List ℕ)) (size : ℕ) → list_any (λ name. nat_le size (length name + 1)) names ≡ false → All (λ name. length name + 1 < size) names
all-short [] size h = λ k d l. absurd (omega (arith, l))
all-short (n ∷ ns) size h = by (nat_le size (length n + 1)) refl h (λ g. all-short ns size g)
  where
    by : (v : Bool) → nat_le size (length n + 1) ≡ v → (v || list_any (λ name. nat_le size (length name + 1)) ns) ≡ false →
        (list_any (λ name. nat_le size (length name + 1)) ns ≡ false → All (λ name. length name + 1 < size) ns) → All (λ name. length name + 1 < size) (n ∷ ns)
    by true e g rec = absurd (true≢false g)
    by false e g rec = all-more (λ name. length name + 1 < size) n ns (not-le size (length n + 1) e) (rec g)

none-among : (names : List (List ℕ)) (size : ℕ) (e : List ℕ) → All (λ name. length name + 1 < size) names → size ≤ length e + 1 → is_among names e ≡ false
none-among names size e short h =
    list_any_none (bytes_eq e) names (λ k d l. let less = short k d l in longer e (slice_index_or names k d) (omega (arith, less, h)))

no-and : (a b : Bool) → b ≡ false → (a && b) ≡ false
no-and a b e = grind arith

-- no expression is longer than a name and a mark
pub literal-none : (names : List (List ℕ)) (e : List ℕ) → All (λ name. length name + 1 < length e) names → literal names e ≡ None
literal-none names e short =
    let one = length-drop 1 e in
    let other = length-take-le (length e - 1) e (omega arith) in
    let whole = none-among names (length e) e short (omega arith) in
    let front = no-and (slice_index e 0 == 33) (is_among names (drop 1 e)) (none-among names (length e) (drop 1 e) short (omega (arith, one))) in
    let back = no-and (slice_index e (length e - 1) == 39) (is_among names (without_last e)) (none-among names (length e) (without_last e) short (omega (arith, other))) in
    ap (λ v. cond v (Some (e, true)) (option_map (λ p. (p, false)) (inverted_input names e))) whole
    ∙ ap (option_map (λ p. (p, false))) (ap (λ v. cond v (Some (drop 1 e)) (cond ((slice_index e (length e - 1) == 39) && is_among names (without_last e)) (Some (without_last e)) None)) front
    ∙ ap (λ v. cond v (Some (without_last e)) None) back)

-- bytes of which so many are left without outer parentheses
pub too-long : (names : List (List ℕ)) (bs : List ℕ) (count size : ℕ) → count ≡ pairs bs → size ≡ length bs →
    list_any (λ name. nat_le (size - count - count) (length name + 1)) names ≡ false → literal names (peeled bs) ≡ None
too-long names bs count size e s h =
    let all = peeled-size bs in
    let short = all-short names (size - count - count) h in
    literal-none names (peeled bs) (λ k d l. let less = short k d l in omega (arith, less, all, e, s))

pub peeled-part : (bs : List ℕ) (count size : ℕ) → count ≡ pairs bs → size ≡ length bs → take (size - count - count) (drop count bs) ≡ peeled bs
peeled-part bs count size e s =
    ap (λ n. take (size - n - n) (drop n bs)) e ∙ ap (λ n. take (n - pairs bs - pairs bs) (drop (pairs bs) bs)) s ∙ sym (peeled-is bs)
