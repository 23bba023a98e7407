-- Strings, lines and comments have at least one byte where they must, and lie within the text.
use Rattle.std.proofs.Common.{◌≡◌, ℕ, suc, ◌+◌, ◌<◌, ◌≤◌, Bool, true, false, cond, not, ◌&&◌, ◌==◌, List, [], ◌∷◌, length, get_or, drop, Option, Some, None, IfSome, refl, sym, ap, ◌∙◌, arith, true-eqb, true≢false}
use Rattle.mintc_text_scan.specs.Bytes.{string_size, line_size, comment_end, comment_size}

-- either way, with what the test says
pub either : {X : Type 0} (P : X → Type 0) (b : Bool) (x y : X) → (b ≡ true → P x) → (b ≡ false → P y) → P (cond b x y)
either P true x y f g = f refl
either P false x y f g = g refl

pub and-right : (a b : Bool) → (a && b) ≡ true → b ≡ true
and-right true b e = e
and-right false b e = absurd (true≢false (sym e))

-- a byte that isn't 0 is there
pub byte-some : (bs : List ℕ) (v : ℕ) → 0 < v → (get_or bs 0 0 == v) ≡ true → 0 < length bs
byte-some [] v h e = let same : 0 ≡ v = true-eqb 0 v (sym e) in absurd (omega arith)
byte-some (b ∷ bs) v h e = omega arith

pub string-within : (kept : Bool) (at : ℕ) (bs : List ℕ) → IfSome (string_size kept at bs) (λ n. n < at + length bs)
string-within kept at [] = tt
string-within kept at (b ∷ bs) =
    either (λ o. IfSome o (λ n. n < at + suc (length bs))) (not kept && (b == 34)) (Some at) (string_size (not kept && (b == 92)) (at + 1) bs)
    (λ _. omega arith)
    (λ _. later (string_size (not kept && (b == 92)) (at + 1) bs) (string-within (not kept && (b == 92)) (at + 1) bs))
  where
    later : (o : Option ℕ) → IfSome o (λ n. n < (at + 1) + length bs) → IfSome o (λ n. n < at + suc (length bs))
    later None h = tt
    later (Some n) h = omega (arith, h)

pub line-within : (bs : List ℕ) → line_size bs ≤ length bs
line-within [] = omega arith
line-within (b ∷ bs) = let more = line-within bs in either (λ n. n ≤ length (b ∷ bs)) (b == 10) _ _ (λ _. omega arith) (λ _. omega arith)

-- a byte that is no line feed begins a line
pub line-some : (bs : List ℕ) (v : ℕ) → 0 < length bs → (get_or bs 0 0 == v) ≡ true → (v == 10) ≡ false → 0 < line_size bs
line-some [] v h e f = omega arith
line-some (b ∷ bs) v h e f = either (λ n. 0 < n) (b == 10) _ _ (λ g. absurd (true≢false (sym g ∙ ap (λ n. n == 10) (true-eqb b v (sym e)) ∙ f))) (λ _. omega arith)

-- an end behind the front, and within so many bytes
abbrev pub Ends : ℕ → Option ℕ → Type 0
Ends most o = IfSome o (λ n. (0 < n) × (n ≤ most))

pub ends-later : (most more : ℕ) (o : Option ℕ) → most ≤ more → Ends most o → Ends more o
ends-later most more None h e = tt
ends-later most more (Some n) h e = (e.0, omega (arith, e.1))

pub pair-ends : (at v : ℕ) (b : Bool) (bs : List ℕ) → 0 < v → (b && (get_or bs 0 0 == v)) ≡ true → (0 < at + 2) × (at + 2 ≤ at + suc (length bs))
pair-ends at v b bs h e = let some = byte-some bs v h (and-right b _ e) in (omega arith, omega arith)

comment_end-ends : (at : ℕ) (bs : List ℕ) → Ends (at + length bs) (comment_end at bs)
comment_end-ends at [] = tt
comment_end-ends at (b ∷ bs) =
    either (Ends (at + suc (length bs))) ((b == 42) && (get_or bs 0 0 == 47)) (Some (at + 2)) (comment_end (at + 1) bs)
    (λ e. pair-ends at 47 (b == 42) bs (omega arith) e)
    (λ _. ends-later (at + 1 + length bs) _ _ (omega arith) (comment_end-ends (at + 1) bs))

-- behind two bytes, the second of which is a star
pub end-within : (bs : List ℕ) (o : Option ℕ) → (get_or bs 1 0 == 42) ≡ true → Ends (2 + length (drop 2 bs)) o → Ends (length bs) o
end-within [] o e h = absurd (omega (arith, true-eqb 0 42 (sym e)))
end-within (a ∷ []) o e h = absurd (omega (arith, true-eqb 0 42 (sym e)))
end-within (a ∷ b ∷ bs) o e h = ends-later _ _ o (omega arith) h

pub comment_end-within : (bs : List ℕ) → (get_or bs 1 0 == 42) ≡ true → Ends (length bs) (comment_end 2 (drop 2 bs))
comment_end-within bs e = end-within bs _ e (comment_end-ends 2 (drop 2 bs))

pub comment-within : (bs : List ℕ) → (get_or bs 0 0 == 47) ≡ true → Ends (length bs) (comment_size bs)
comment-within bs e =
    let P : Option ℕ → Type 0 = Ends (length bs) in
    either P (get_or bs 1 0 == 47) _ _
    (λ _. (line-some bs 47 (byte-some bs 47 (omega arith) e) e refl, line-within bs))
    (λ _. either P (get_or bs 1 0 == 42) _ _ (λ f. comment_end-within bs f) (λ _. tt))
