-- Behind the last `*/` no comment ends.
use Rattle.std.proofs.Common.{◌≡◌, ℕ, suc, ◌+◌, ◌<◌, ◌≤◌, Bool, true, false, nat_lt, if◌then◌else◌, ◌&&◌, ◌==◌, List, [], ◌∷◌, get_or, drop, length, refl, sym, ap, ◌∙◌, arith, get_or-drop, Some, None}
use Rattle.std.proofs.lemmas.Bool.Decides.{nat_tests}
use Rattle.std.proofs.lemmas.List.{get_or_past}
use Rattle.mintc_text_scan.specs.Bytes.{comment_end, EndsBefore}

abbrev is_mark : List ℕ → ℕ → Bool
is_mark bs k = (get_or bs k 0 == 42) && (get_or bs (suc k) 0 == 47)

none-here : (bs : List ℕ) (at : ℕ) → ((k : ℕ) → is_mark bs k ≡ false) → comment_end at bs ≡ None
none-here [] at h = refl
none-here (b ∷ bs) at h =
    ap (λ v. if v then Some (at + 2) else comment_end (at + 1) bs) (h 0)
    ∙ none-here bs (at + 1) (λ k. h (suc k))

pub no-end : (text : List ℕ) (last at : ℕ) → EndsBefore text last → last < at + 4 → comment_end 2 (drop 2 (drop at text)) ≡ None
no-end text last at ends h = none-here (drop 2 (drop at text)) 2 marks
  where
    place : (k : ℕ) → get_or (drop 2 (drop at text)) k 0 ≡ get_or text (at + (2 + k)) 0
    place k = get_or-drop 2 (drop at text) k 0 ∙ get_or-drop at text (2 + k) 0

    next : (k : ℕ) → get_or (drop 2 (drop at text)) (suc k) 0 ≡ get_or text (at + (2 + k) + 1) 0
    next k = place (suc k) ∙ ap (λ n. get_or text n 0) (omega arith)

    marks : (k : ℕ) → is_mark (drop 2 (drop at text)) k ≡ false
    marks k =
        ap (λ b. (b == 42) && (get_or (drop 2 (drop at text)) (suc k) 0 == 47)) (place k)
        ∙ ap (λ b. (get_or text (at + (2 + k)) 0 == 42) && (b == 47)) (next k)
        ∙ ends (at + (2 + k)) (omega arith)

-- whether a star and a slash stand at a place
abbrev pub is_end : List ℕ → ℕ → Bool
is_end text k = (get_or text k 0 == 42) && (get_or text (k + 1) 0 == 47)

unlike : (byte : ℕ) (b : Bool) → (byte ≡ 42 → ⊥) → ((byte == 42) && b) ≡ false
unlike byte b other = by (byte == 42) refl
  where
    by : (same : Bool) → (byte == 42) ≡ same → ((byte == 42) && b) ≡ false
    by false e = ap (λ (v : Bool). v && b) e
    by true e = absurd (other (grind (arith, nat_tests)))

-- before the first star there is none
pub before_star : (text : List ℕ) (at : ℕ) → ((k : ℕ) → 0 ≤ k → k < at → get_or text k 0 ≡ 42 → ⊥) → (k : ℕ) → k < at → is_end text k ≡ false
before_star text at none k below = unlike (get_or text k 0) (get_or text (k + 1) 0 == 47) (none k (omega arith) below)

-- from one star to the next
pub to_star : (text : List ℕ) (at next last later : ℕ) → ((k : ℕ) → k < at → last < k + 2 → is_end text k ≡ false) → (later < at + 2 → is_end text at ≡ false) → last ≤ later →
    ((k : ℕ) → at + 1 ≤ k → k < next → get_or text k 0 ≡ 42 → ⊥) → (k : ℕ) → k < next → later < k + 2 → is_end text k ≡ false
to_star text at next last later before here more none k below ends = by (nat_lt k at) (nat_lt at k) refl refl
  where
    by : (left right : Bool) → nat_lt k at ≡ left → nat_lt at k ≡ right → is_end text k ≡ false
    by true right e f = before k (grind (arith, nat_tests)) (omega arith)
    by false true e f = unlike (get_or text k 0) (get_or text (k + 1) 0 == 47) (none k (grind (arith, nat_tests)) below)
    by false false e f =
        let same : at ≡ k = grind (arith, nat_tests) in
        ap (λ (n : ℕ). is_end text n) (sym same) ∙ here (omega arith)

-- behind the end of a text there is none
pub past_stars : (text : List ℕ) (at last : ℕ) → length text ≤ at → ((k : ℕ) → k < at → last < k + 2 → is_end text k ≡ false) → EndsBefore text last
past_stars text at last end before k ends = by (nat_lt k at) refl
  where
    by : (left : Bool) → nat_lt k at ≡ left → is_end text k ≡ false
    by true e = before k (grind (arith, nat_tests)) ends
    by false e =
        let far : length text ≤ k = grind (arith, nat_tests) in
        ap (λ (b : ℕ). (b == 42) && (get_or text (k + 1) 0 == 47)) (get_or_past text k 0 far)
