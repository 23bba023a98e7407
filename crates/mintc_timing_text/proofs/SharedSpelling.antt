-- Values that are one have one text, line by line.
use Rattle.std.proofs.Common.{◌≡◌, ℕ, ℤ, suc, List, [], ◌∷◌, ◌++◌, length, length-append, append_assoc, refl, ap, ◌∙◌, sym, subst, arith}
use Rattle.std.proofs.lemmas.List.{append_cancel_left, append-nil}
use Rattle.mintc_text.specs.Lines.{Follows}
use Rattle.mintc_timing.specs.declared.clocking.Schedule.{Schedule}
use Rattle.mintc_timing_text.specs.Texts.{with_phase}

-- ---- a list of which some items are left

abbrev pub Rest : {X : Type 0} → List X → List X → ℕ → Type 0
Rest {X} so_far all left = (rest : List X) × (all ≡ so_far ++ rest) × (length rest ≡ left)

pub rest_none : {X : Type 0} (so_far all : List X) → all ≡ so_far → Rest so_far all 0
rest_none so_far all e = ([], e ∙ sym (append-nil so_far), refl)

pub rest_back : {X : Type 0} (so_far all : List X) (x : X) (left : ℕ) → Rest (so_far ++ x ∷ []) all left → Rest so_far all (suc left)
rest_back so_far all x left h = (x ∷ h.0, h.1 ∙ append_assoc so_far (x ∷ []) h.0, ap suc h.2)

pub rest_same : {X : Type 0} (so_far all : List X) (x y : X) (left more : ℕ) → Rest (so_far ++ x ∷ []) all left → Rest (so_far ++ y ∷ []) all more → x ≡ y
rest_same so_far all x y left more h g =
    let tails : x ∷ h.0 ≡ y ∷ g.0 = append_cancel_left so_far (x ∷ h.0) (y ∷ g.0) (sym (append_assoc so_far (x ∷ []) h.0) ∙ sym h.1 ∙ g.1 ∙ append_assoc so_far (y ∷ []) g.0) in
    cc

pub rest_count : {X : Type 0} (so_far all : List X) (left more : ℕ) → Rest so_far all left → Rest so_far all more → left ≡ more
rest_count so_far all left more h g = omega (arith, h.2, g.2, ap length h.1, ap length g.1, length-append so_far h.0, length-append so_far g.0)

-- ---- a schedule of which some phases are left

pub record Agrees (left : ℕ) (p s : Schedule) : Type 0 where
  pub den : p.den ≡ s.den
  pub cycle : p.cycle ≡ s.cycle
  pub starts : Rest p.starts s.starts left
  pub widths : Rest p.widths s.widths left

pub agrees_none : (s t : Schedule) → s ≡ t → Agrees 0 s t
agrees_none s t e =
    subst (Agrees 0 s) e (record { den = refl; cycle = refl; starts = rest_none s.starts s.starts refl; widths = rest_none s.widths s.widths refl })

pub agrees_back : (left : ℕ) (p s : Schedule) (x : ℤ × ℤ) → Agrees left (with_phase p x) s → Agrees (suc left) p s
agrees_back left p s x k = record { den = k.den; cycle = k.cycle; starts = rest_back p.starts s.starts x.0 left k.starts; widths = rest_back p.widths s.widths x.1 left k.widths }

pub agrees_same : (left : ℕ) (p s : Schedule) (x y : ℤ × ℤ) → Agrees left (with_phase p x) s → Agrees left (with_phase p y) s → x ≡ y
agrees_same left p s x y k l =
    let start = rest_same p.starts s.starts x.0 y.0 left left k.starts l.starts in
    let width = rest_same p.widths s.widths x.1 y.1 left left k.widths l.widths in
    ap (λ (z : ℤ). (z, x.1)) start ∙ ap (λ (z : ℤ). (y.0, z)) width

-- ---- a format in which each value has one text

-- Of two lines from a state on to one end, both are one, and so are the states that they lead to.
pub record IsSpelledStep {S : Type 0} (leads : List ℕ → S → Type 0) (B : S → Type 0) : Type 0 where
  pub alike : (b c : S) (line other : List ℕ) → leads line b → leads other c → B b → B c → (line ≡ other) × (b ≡ c)

-- Each state that leads to a value's end knows a front of the value, and from a state that is reached one line leads
-- on to the value.
pub record IsSpelled {S E : Type 0} (next : S → List ℕ → S → Type 0) (P : S → Type 0) (end : E → S) (Begins : S → E → Type 0) : Type 0 where
  pub keeps : (a b : S) (line : List ℕ) → P a → next a line b → P b
  pub last : (e : E) (line : List ℕ) (b : S) → next (end e) line b → ⊥
  pub ends : (e : E) → Begins (end e) e
  pub back : (a b : S) (line : List ℕ) (e : E) → next a line b → Begins b e → Begins a e
  pub step : (a : S) (e : E) → P a → IsSpelledStep (next a) (λ b. Begins b e)

begins : {S E : Type 0} (next : S → List ℕ → S → Type 0) (P : S → Type 0) (end : E → S) (Begins : S → E → Type 0) → IsSpelled next P end Begins → (a : S) (lines : List (List ℕ)) (e : E) → Follows next a lines (end e) → Begins a e
begins {S} next P end Begins spelled a [] e h = subst (λ (s : S). Begins s e) (sym h) (spelled.ends e)
begins {S} next P end Begins spelled a (line ∷ lines) e h = spelled.back a h.0 line e h.1 (begins next P end Begins spelled h.0 lines e h.2)

pub one_text : {S E : Type 0} (next : S → List ℕ → S → Type 0) (P : S → Type 0) (end : E → S) (Begins : S → E → Type 0) → IsSpelled next P end Begins → (a : S) (lines others : List (List ℕ)) (e : E) →
    P a → Follows next a lines (end e) → Follows next a others (end e) → lines ≡ others
one_text {S} next P end Begins spelled a [] [] e p h g = refl
one_text {S} next P end Begins spelled a [] (other ∷ others) e p h g = absurd (spelled.last e other g.0 (subst (λ (s : S). next s other g.0) h g.1))
one_text {S} next P end Begins spelled a (line ∷ lines) [] e p h g = absurd (spelled.last e line h.0 (subst (λ (s : S). next s line h.0) g h.1))
one_text {S} next P end Begins spelled a (line ∷ lines) (other ∷ others) e p h g =
    let same = (spelled.step a e p).alike h.0 g.0 line other h.1 g.1 (begins next P end Begins spelled h.0 lines e h.2) (begins next P end Begins spelled g.0 others e g.2) in
    let more : lines ≡ others = one_text next P end Begins spelled g.0 lines others e (spelled.keeps a g.0 other p g.1) (subst (λ (s : S). Follows next s lines (end e)) same.1 h.2) g.2 in
    let first = same.0 in cc
