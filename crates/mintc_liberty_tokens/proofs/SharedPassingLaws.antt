-- What a reader passes.
use Rattle.std.proofs.Common.{◌≡◌, ℕ, Bool, true, false, if◌then◌else◌, List, [], ◌∷◌, Option, Some, None, IfSome, MatchBool, refl, ap, subst, ◌∙◌, arith}
use Rattle.mintc_liberty_tokens.specs.declared.reader.Kind.TheVariants as kind
use Rattle.mintc_liberty_tokens.specs.Tokens.{Token, opening, closing, left, right, colon, semicolon, comma, word, string, bad}
use Rattle.mintc_liberty_tokens.specs.Scans.{Scan, IsAhead}
use Rattle.mintc_liberty_tokens.specs.Statements.{left_over, past_semicolon, front, and_more, statement_by, Step, Front}
use Rattle.mintc_liberty_tokens.specs.Reading.{kind_of, past, after_closing, after_right, after_semicolon, group_rest, statement_rest, step_rest}
use Rattle.mintc_liberty_tokens.proofs.SharedStatementLaws.{front-turn}

pub past-none : (test : Token → Bool) (ts : List Token) → past test ts ≡ None → left_over test ts ≡ ts
past-none test [] e = refl
past-none test (t ∷ ts) e = by (test t) e
  where
    by : (b : Bool) → (if b then Some ts else None) ≡ None → (if b then left_over test ts else t ∷ ts) ≡ t ∷ ts
    by true e = absurd (cc)
    by false e = refl

-- a sign that doesn't come next
pub not-closing : (ts : List Token) → (kind.Closing ≡ kind_of ts → ⊥) → after_closing ts ≡ None
not-closing [] n = refl
not-closing (opening ∷ ts) n = refl
not-closing (closing ∷ ts) n = absurd (n refl)
not-closing (left ∷ ts) n = refl
not-closing (right ∷ ts) n = refl
not-closing (colon ∷ ts) n = refl
not-closing (semicolon ∷ ts) n = refl
not-closing (comma ∷ ts) n = refl
not-closing (word v ∷ ts) n = refl
not-closing (string v ∷ ts) n = refl
not-closing (bad ∷ ts) n = refl

pub not-right : (ts : List Token) → (kind.Right ≡ kind_of ts → ⊥) → after_right ts ≡ None
not-right [] n = refl
not-right (opening ∷ ts) n = refl
not-right (closing ∷ ts) n = refl
not-right (left ∷ ts) n = refl
not-right (right ∷ ts) n = absurd (n refl)
not-right (colon ∷ ts) n = refl
not-right (semicolon ∷ ts) n = refl
not-right (comma ∷ ts) n = refl
not-right (word v ∷ ts) n = refl
not-right (string v ∷ ts) n = refl
not-right (bad ∷ ts) n = refl

pub not-semicolon : (ts : List Token) → (kind.Semicolon ≡ kind_of ts → ⊥) → after_semicolon ts ≡ None
not-semicolon [] n = refl
not-semicolon (opening ∷ ts) n = refl
not-semicolon (closing ∷ ts) n = refl
not-semicolon (left ∷ ts) n = refl
not-semicolon (right ∷ ts) n = refl
not-semicolon (colon ∷ ts) n = refl
not-semicolon (semicolon ∷ ts) n = absurd (n refl)
not-semicolon (comma ∷ ts) n = refl
not-semicolon (word v ∷ ts) n = refl
not-semicolon (string v ∷ ts) n = refl
not-semicolon (bad ∷ ts) n = refl

pub no-semicolon : (ts : List Token) → (kind.Semicolon ≡ kind_of ts → ⊥) → past_semicolon ts ≡ ts
no-semicolon [] n = refl
no-semicolon (opening ∷ ts) n = refl
no-semicolon (closing ∷ ts) n = refl
no-semicolon (left ∷ ts) n = refl
no-semicolon (right ∷ ts) n = refl
no-semicolon (colon ∷ ts) n = refl
no-semicolon (semicolon ∷ ts) n = absurd (n refl)
no-semicolon (comma ∷ ts) n = refl
no-semicolon (word v ∷ ts) n = refl
no-semicolon (string v ∷ ts) n = refl
no-semicolon (bad ∷ ts) n = refl

-- what closes a group, one statement after the other
pub group-more : (room : ℕ) (ts us : List Token) → statement_rest room ts ≡ Some us → group_rest room ts ≡ group_rest room us
group-more room ts us e = ap (λ (f : Front). after_right f.after) (front-turn room ts) ∙ by (statement_by front room ts) e
  where
    by : (o : Option Step) → step_rest o ≡ Some us → after_right (and_more (front room) ts o).after ≡ group_rest room us
    by None e = absurd (cc)
    by (Some s) e = let same : s.1 ≡ us = cc in ap (group_rest room) same

pub group-end : (room : ℕ) (ts : List Token) → statement_rest room ts ≡ None → group_rest room ts ≡ after_right ts
group-end room ts e = ap (λ (f : Front). after_right f.after) (front-turn room ts) ∙ by (statement_by front room ts) e
  where
    by : (o : Option Step) → step_rest o ≡ None → after_right (and_more (front room) ts o).after ≡ after_right ts
    by None e = refl
    by (Some s) e = absurd (cc)

-- scanners at one place have the same tokens
pub same-tokens : (s t : Scan) → s ≡ t → s.tokens ≡ t.tokens
same-tokens s t e = ap (λ (r : Scan). r.tokens) e

pub ahead-then : (r s t : Scan) → IsAhead r s → IsAhead s t → IsAhead r t
ahead-then r s t a b = record { same = b.same ∙ a.same; later = omega (arith, a.later, b.later) }

-- either way, with what each way gives
pub both-ways : {P Q X Y : Type 0} (b : Bool) → MatchBool b P Q → (P → X) → (Q → Y) → MatchBool b X Y
both-ways true p f g = f p
both-ways false q f g = g q

pub one-way : {P Q X : Type 0} (b : Bool) → MatchBool b P Q → (P → X) → (Q → X) → X
one-way true p f g = f p
one-way false q f g = g q

pub second-way : (P Q : Type 0) (b : Bool) → MatchBool b P Q → b ≡ false → Q
second-way P Q true m e = absurd (cc)
second-way P Q false m e = m

pub if-some : {A : Type 0} (P : A → Type 0) (o : Option A) (x : A) → o ≡ Some x → IfSome o P → P x
if-some P None x e h = absurd (cc)
if-some P (Some y) x e h = let same : y ≡ x = cc in subst P same h
