-- One statement, by what a reader passes.
use Rattle.std.proofs.Common.{◌≡◌, ℕ, zero, suc, ◌-◌, ◌<◌, List, [], ◌∷◌, length, Option, Some, None, IfSome, option_map, refl, sym, ap, ◌∙◌, arith}
use Rattle.mintc_liberty_tokens.specs.declared.reader.Kind.TheVariants as kind
use Rattle.mintc_liberty_tokens.specs.Tokens.{Token, opening, closing, left, right, colon, semicolon, comma, word, string, bad, is_value, is_item}
use Rattle.mintc_liberty_tokens.specs.Statements.{Statements, Step, taken, left_over, past_semicolon, valued, grouped, nested, called, statement_by, front}
use Rattle.mintc_liberty_tokens.specs.Reading.{kind_of, word_at, string_at, name_at, after_closing, after_right, past_value, value_rest, items_rest, call_rest, called_rest, group_rest, step_rest, statement_rest}
use Rattle.mintc_liberty_tokens.proofs.SharedStatementLaws.{statement-short, fronts-short}
use Rattle.mintc_liberty_tokens.proofs.SharedPassingLaws.{group-end}

pub step-shorter : (room : ℕ) (ts us : List Token) → statement_rest room ts ≡ Some us → length us < length ts
step-shorter room ts us e = by (statement_by front room ts) (statement-short front room ts (λ r vs h. fronts-short (length vs) r vs)) e
  where
    by : (o : Option Step) → IfSome o (λ s. length s.1 < length ts) → step_rest o ≡ Some us → length us < length ts
    by None h e = absurd (cc)
    by (Some s) h e = let same : s.1 ≡ us = cc in let l = ap length same in omega (arith, h, l)

-- the word
pub word-there : (ts us : List Token) (w : List ℕ) → word_at ts ≡ Some (w, us) → ts ≡ word w ∷ us
word-there [] us w e = absurd (cc)
word-there (opening ∷ ts) us w e = absurd (cc)
word-there (closing ∷ ts) us w e = absurd (cc)
word-there (left ∷ ts) us w e = absurd (cc)
word-there (right ∷ ts) us w e = absurd (cc)
word-there (colon ∷ ts) us w e = absurd (cc)
word-there (semicolon ∷ ts) us w e = absurd (cc)
word-there (comma ∷ ts) us w e = absurd (cc)
word-there (word v ∷ ts) us w e = let p : (v, ts) ≡ (w, us) = cc in ap (λ (q : List ℕ × List Token). word q.0 ∷ q.1) p
word-there (string v ∷ ts) us w e = absurd (cc)
word-there (bad ∷ ts) us w e = absurd (cc)

-- the name at the front
pub word-name : (ts us : List Token) (w : List ℕ) → word_at ts ≡ Some (w, us) → name_at ts ≡ Some w
word-name ts us w e = ap name_at (word-there ts us w e)

pub string-name : (ts us : List Token) (w : List ℕ) → string_at ts ≡ Some (w, us) → name_at ts ≡ Some w
string-name [] us w e = absurd (cc)
string-name (opening ∷ ts) us w e = absurd (cc)
string-name (closing ∷ ts) us w e = absurd (cc)
string-name (left ∷ ts) us w e = absurd (cc)
string-name (right ∷ ts) us w e = absurd (cc)
string-name (colon ∷ ts) us w e = absurd (cc)
string-name (semicolon ∷ ts) us w e = absurd (cc)
string-name (comma ∷ ts) us w e = absurd (cc)
string-name (word v ∷ ts) us w e = absurd (cc)
string-name (string v ∷ ts) us w e = let p : (v, ts) ≡ (w, us) = cc in ap (λ (q : List ℕ × List Token). Some q.0) p
string-name (bad ∷ ts) us w e = absurd (cc)

pub no-name : (ts : List Token) → kind_of ts ≡ kind.Text → string_at ts ≡ None → name_at ts ≡ None
no-name [] k e = refl
no-name (opening ∷ ts) k e = refl
no-name (closing ∷ ts) k e = refl
no-name (left ∷ ts) k e = refl
no-name (right ∷ ts) k e = refl
no-name (colon ∷ ts) k e = refl
no-name (semicolon ∷ ts) k e = refl
no-name (comma ∷ ts) k e = refl
no-name (word v ∷ ts) k e = absurd (cc)
no-name (string v ∷ ts) k e = absurd (cc)
no-name (bad ∷ ts) k e = refl

-- behind the word, neither a colon nor a parenthesis
pub neither : (room : ℕ) (w : List ℕ) (ts : List Token) → (kind.Colon ≡ kind_of ts → ⊥) → (kind.Opening ≡ kind_of ts → ⊥) → statement_rest room (word w ∷ ts) ≡ None
neither room w [] n m = refl
neither room w (opening ∷ ts) n m = absurd (m refl)
neither room w (closing ∷ ts) n m = refl
neither room w (left ∷ ts) n m = refl
neither room w (right ∷ ts) n m = refl
neither room w (colon ∷ ts) n m = absurd (n refl)
neither room w (semicolon ∷ ts) n m = refl
neither room w (comma ∷ ts) n m = refl
neither room w (word v ∷ ts) n m = refl
neither room w (string v ∷ ts) n m = refl
neither room w (bad ∷ ts) n m = refl

-- an attribute
valued-rest : (w : List ℕ) (v rest : List Token) → step_rest (valued w v rest) ≡ past_value v rest
valued-rest w [] rest = refl
valued-rest w (t ∷ v) [] = refl
valued-rest w (t ∷ v) (opening ∷ rest) = refl
valued-rest w (t ∷ v) (closing ∷ rest) = refl
valued-rest w (t ∷ v) (left ∷ rest) = refl
valued-rest w (t ∷ v) (right ∷ rest) = refl
valued-rest w (t ∷ v) (colon ∷ rest) = refl
valued-rest w (t ∷ v) (semicolon ∷ rest) = refl
valued-rest w (t ∷ v) (comma ∷ rest) = refl
valued-rest w (t ∷ v) (word x ∷ rest) = refl
valued-rest w (t ∷ v) (string x ∷ rest) = refl
valued-rest w (t ∷ v) (bad ∷ rest) = refl

pub attribute-rest : (room : ℕ) (w : List ℕ) (ts : List Token) → statement_rest room (word w ∷ colon ∷ ts) ≡ value_rest ts
attribute-rest room w ts = valued-rest w (taken is_value ts) (left_over is_value ts)

-- a call: its word and its items don't matter
grouped-rest : (w : List ℕ) (items : List Token) (inner : Statements) (rest : List Token) → step_rest (grouped w items inner rest) ≡ option_map past_semicolon (after_right rest)
grouped-rest w items inner [] = refl
grouped-rest w items inner (opening ∷ rest) = refl
grouped-rest w items inner (closing ∷ rest) = refl
grouped-rest w items inner (left ∷ rest) = refl
grouped-rest w items inner (right ∷ rest) = refl
grouped-rest w items inner (colon ∷ rest) = refl
grouped-rest w items inner (semicolon ∷ rest) = refl
grouped-rest w items inner (comma ∷ rest) = refl
grouped-rest w items inner (word v ∷ rest) = refl
grouped-rest w items inner (string v ∷ rest) = refl
grouped-rest w items inner (bad ∷ rest) = refl

nested-rest : (room : ℕ) (w v : List ℕ) (items js rest : List Token) → step_rest (nested front room w items rest) ≡ step_rest (nested front room v js rest)
nested-rest zero w v items js rest = refl
nested-rest (suc room) w v items js rest =
    grouped-rest w items (front room rest).statements (front room rest).after ∙ sym (grouped-rest v js (front room rest).statements (front room rest).after)

called-same : (room : ℕ) (w v : List ℕ) (items js rest : List Token) → step_rest (called front room w items rest) ≡ step_rest (called front room v js rest)
called-same room w u items js [] = refl
called-same room w u items js (closing ∷ []) = refl
called-same room w u items js (closing ∷ opening ∷ ts) = refl
called-same room w u items js (closing ∷ closing ∷ ts) = refl
called-same room w u items js (closing ∷ left ∷ ts) = nested-rest room w u items js ts
called-same room w u items js (closing ∷ right ∷ ts) = refl
called-same room w u items js (closing ∷ colon ∷ ts) = refl
called-same room w u items js (closing ∷ semicolon ∷ ts) = refl
called-same room w u items js (closing ∷ comma ∷ ts) = refl
called-same room w u items js (closing ∷ word v ∷ ts) = refl
called-same room w u items js (closing ∷ string v ∷ ts) = refl
called-same room w u items js (closing ∷ bad ∷ ts) = refl
called-same room w u items js (opening ∷ ts) = refl
called-same room w u items js (left ∷ ts) = refl
called-same room w u items js (right ∷ ts) = refl
called-same room w u items js (colon ∷ ts) = refl
called-same room w u items js (semicolon ∷ ts) = refl
called-same room w u items js (comma ∷ ts) = refl
called-same room w u items js (word v ∷ ts) = refl
called-same room w u items js (string v ∷ ts) = refl
called-same room w u items js (bad ∷ ts) = refl

pub call-same : (room : ℕ) (w : List ℕ) (ts : List Token) → statement_rest room (word w ∷ opening ∷ ts) ≡ call_rest room ts
call-same room w ts = called-same room w [] (taken is_item ts) [] (left_over is_item ts)

-- behind the items
pub closed-there : (ts us : List Token) → after_closing ts ≡ Some us → ts ≡ closing ∷ us
closed-there [] us e = absurd (cc)
closed-there (opening ∷ ts) us e = absurd (cc)
closed-there (closing ∷ ts) us e = cc
closed-there (left ∷ ts) us e = absurd (cc)
closed-there (right ∷ ts) us e = absurd (cc)
closed-there (colon ∷ ts) us e = absurd (cc)
closed-there (semicolon ∷ ts) us e = absurd (cc)
closed-there (comma ∷ ts) us e = absurd (cc)
closed-there (word v ∷ ts) us e = absurd (cc)
closed-there (string v ∷ ts) us e = absurd (cc)
closed-there (bad ∷ ts) us e = absurd (cc)

pub items-there : (room : ℕ) (ts us : List Token) → items_rest ts ≡ Some us → call_rest room ts ≡ called_rest room (closing ∷ us)
items-there room ts us e = ap (called_rest room) (closed-there (left_over is_item ts) us e)

pub no-group : (room : ℕ) (ts : List Token) → (kind.Left ≡ kind_of ts → ⊥) → called_rest room (closing ∷ ts) ≡ Some (past_semicolon ts)
no-group room [] n = refl
no-group room (opening ∷ ts) n = refl
no-group room (closing ∷ ts) n = refl
no-group room (left ∷ ts) n = absurd (n refl)
no-group room (right ∷ ts) n = refl
no-group room (colon ∷ ts) n = refl
no-group room (semicolon ∷ ts) n = refl
no-group room (comma ∷ ts) n = refl
no-group room (word v ∷ ts) n = refl
no-group room (string v ∷ ts) n = refl
no-group room (bad ∷ ts) n = refl

pub no-room : (room : ℕ) (ts : List Token) → room ≡ 0 → called_rest room (closing ∷ left ∷ ts) ≡ None
no-room room ts e = ap (λ r. called_rest r (closing ∷ left ∷ ts)) e

pub inside : (room : ℕ) (ts : List Token) → (room ≡ 0 → ⊥) → called_rest room (closing ∷ left ∷ ts) ≡ option_map past_semicolon (group_rest (room - 1) ts)
inside zero ts n = absurd (n refl)
inside (suc room) ts n =
    let less : room ≡ suc room - 1 = omega arith in
    grouped-rest [] [] (front room ts).statements (front room ts).after ∙ ap (λ r. option_map past_semicolon (group_rest r ts)) less

-- a group that is closed here
pub right-here : (room : ℕ) (ts us : List Token) → ts ≡ right ∷ us → group_rest room ts ≡ Some us
right-here room ts us e = ap (group_rest room) e ∙ group-end room (right ∷ us) refl
