-- One statement after the other.
use Rattle.std.proofs.Common.{◌≡◌, ℕ, zero, suc, ◌<◌, ◌≤◌, Bool, List, [], ◌∷◌, length, Option, Some, None, IfSome, refl, sym, ap, subst, ◌∙◌, arith}
use Rattle.mintc_liberty_tokens.specs.Tokens.{Token, opening, closing, left, right, colon, semicolon, comma, word, string, bad, is_value, is_item}
use Rattle.mintc_liberty_tokens.specs.Statements.{Statements, more, plain, Step, Front, taken, left_over, past_semicolon, valued, grouped, nested, called, statement_by, and_more, fronts, front}
use Rattle.mintc_text_scan.proofs.SharedSizes.{either}

abbrev Fronts : Type 0
Fronts = ℕ → List Token → Front

-- The three ways in which a statement begins.
pub beginnings : (P : List Token → Type 0) → ((w : List ℕ) (ts : List Token) → P (word w ∷ colon ∷ ts)) → ((w : List ℕ) (ts : List Token) → P (word w ∷ opening ∷ ts)) →
    ((ts : List Token) → ((go : Fronts) (room : ℕ) → statement_by go room ts ≡ None) → P ts) → (ts : List Token) → P ts
beginnings P f g h [] = h [] (λ go room. refl)
beginnings P f g h (word w ∷ []) = h (word w ∷ []) (λ go room. refl)
beginnings P f g h (word w ∷ opening ∷ ts) = g w ts
beginnings P f g h (word w ∷ closing ∷ ts) = h (word w ∷ closing ∷ ts) (λ go room. refl)
beginnings P f g h (word w ∷ left ∷ ts) = h (word w ∷ left ∷ ts) (λ go room. refl)
beginnings P f g h (word w ∷ right ∷ ts) = h (word w ∷ right ∷ ts) (λ go room. refl)
beginnings P f g h (word w ∷ colon ∷ ts) = f w ts
beginnings P f g h (word w ∷ semicolon ∷ ts) = h (word w ∷ semicolon ∷ ts) (λ go room. refl)
beginnings P f g h (word w ∷ comma ∷ ts) = h (word w ∷ comma ∷ ts) (λ go room. refl)
beginnings P f g h (word w ∷ word v ∷ ts) = h (word w ∷ word v ∷ ts) (λ go room. refl)
beginnings P f g h (word w ∷ string v ∷ ts) = h (word w ∷ string v ∷ ts) (λ go room. refl)
beginnings P f g h (word w ∷ bad ∷ ts) = h (word w ∷ bad ∷ ts) (λ go room. refl)
beginnings P f g h (opening ∷ ts) = h (opening ∷ ts) (λ go room. refl)
beginnings P f g h (closing ∷ ts) = h (closing ∷ ts) (λ go room. refl)
beginnings P f g h (left ∷ ts) = h (left ∷ ts) (λ go room. refl)
beginnings P f g h (right ∷ ts) = h (right ∷ ts) (λ go room. refl)
beginnings P f g h (colon ∷ ts) = h (colon ∷ ts) (λ go room. refl)
beginnings P f g h (semicolon ∷ ts) = h (semicolon ∷ ts) (λ go room. refl)
beginnings P f g h (comma ∷ ts) = h (comma ∷ ts) (λ go room. refl)
beginnings P f g h (string v ∷ ts) = h (string v ∷ ts) (λ go room. refl)
beginnings P f g h (bad ∷ ts) = h (bad ∷ ts) (λ go room. refl)

-- The three ways in which items end.
pub endings : (P : List Token → Type 0) → ((ts : List Token) → P (closing ∷ left ∷ ts)) →
    ((ts : List Token) → ((go : Fronts) (room : ℕ) (w : List ℕ) (items : List Token) → called go room w items (closing ∷ ts) ≡ Some (plain w items, past_semicolon ts)) → P (closing ∷ ts)) →
    ((ts : List Token) → ((go : Fronts) (room : ℕ) (w : List ℕ) (items : List Token) → called go room w items ts ≡ None) → P ts) → (ts : List Token) → P ts
endings P f g h [] = h [] (λ go room w items. refl)
endings P f g h (closing ∷ []) = g [] (λ go room w items. refl)
endings P f g h (closing ∷ opening ∷ ts) = g (opening ∷ ts) (λ go room w items. refl)
endings P f g h (closing ∷ closing ∷ ts) = g (closing ∷ ts) (λ go room w items. refl)
endings P f g h (closing ∷ left ∷ ts) = f ts
endings P f g h (closing ∷ right ∷ ts) = g (right ∷ ts) (λ go room w items. refl)
endings P f g h (closing ∷ colon ∷ ts) = g (colon ∷ ts) (λ go room w items. refl)
endings P f g h (closing ∷ semicolon ∷ ts) = g (semicolon ∷ ts) (λ go room w items. refl)
endings P f g h (closing ∷ comma ∷ ts) = g (comma ∷ ts) (λ go room w items. refl)
endings P f g h (closing ∷ word v ∷ ts) = g (word v ∷ ts) (λ go room w items. refl)
endings P f g h (closing ∷ string v ∷ ts) = g (string v ∷ ts) (λ go room w items. refl)
endings P f g h (closing ∷ bad ∷ ts) = g (bad ∷ ts) (λ go room w items. refl)
endings P f g h (opening ∷ ts) = h (opening ∷ ts) (λ go room w items. refl)
endings P f g h (left ∷ ts) = h (left ∷ ts) (λ go room w items. refl)
endings P f g h (right ∷ ts) = h (right ∷ ts) (λ go room w items. refl)
endings P f g h (colon ∷ ts) = h (colon ∷ ts) (λ go room w items. refl)
endings P f g h (semicolon ∷ ts) = h (semicolon ∷ ts) (λ go room w items. refl)
endings P f g h (comma ∷ ts) = h (comma ∷ ts) (λ go room w items. refl)
endings P f g h (word v ∷ ts) = h (word v ∷ ts) (λ go room w items. refl)
endings P f g h (string v ∷ ts) = h (string v ∷ ts) (λ go room w items. refl)
endings P f g h (bad ∷ ts) = h (bad ∷ ts) (λ go room w items. refl)

-- what is left is no longer
left_over-short : (test : Token → Bool) (ts : List Token) → length (left_over test ts) ≤ length ts
left_over-short test [] = omega arith
left_over-short test (t ∷ ts) =
    let rest = left_over-short test ts in
    either (λ us. length us ≤ suc (length ts)) (test t) (left_over test ts) (t ∷ ts) (λ _. omega (arith, rest)) (λ _. omega arith)

semicolon-short : (ts : List Token) → length (past_semicolon ts) ≤ length ts
semicolon-short [] = omega arith
semicolon-short (opening ∷ ts) = omega arith
semicolon-short (closing ∷ ts) = omega arith
semicolon-short (left ∷ ts) = omega arith
semicolon-short (right ∷ ts) = omega arith
semicolon-short (colon ∷ ts) = omega arith
semicolon-short (semicolon ∷ ts) = omega arith
semicolon-short (comma ∷ ts) = omega arith
semicolon-short (word v ∷ ts) = omega arith
semicolon-short (string v ∷ ts) = omega arith
semicolon-short (bad ∷ ts) = omega arith

abbrev Shorter : List Token → Option Step → Type 0
Shorter ts o = IfSome o (λ s. length s.1 < length ts)

abbrev AreShort : Fronts → List Token → Type 0
AreShort go ts = (room : ℕ) (us : List Token) → length us < length ts → length (go room us).after ≤ length us

valued-short : (w : List ℕ) (v rest ts : List Token) → length rest ≤ length ts → Shorter (word w ∷ colon ∷ ts) (valued w v rest)
valued-short w [] rest ts h = tt
valued-short w (t ∷ v) [] ts h = tt
valued-short w (t ∷ v) (opening ∷ rest) ts h = tt
valued-short w (t ∷ v) (closing ∷ rest) ts h = tt
valued-short w (t ∷ v) (left ∷ rest) ts h = tt
valued-short w (t ∷ v) (right ∷ rest) ts h = tt
valued-short w (t ∷ v) (colon ∷ rest) ts h = tt
valued-short w (t ∷ v) (semicolon ∷ rest) ts h = omega (arith, h)
valued-short w (t ∷ v) (comma ∷ rest) ts h = tt
valued-short w (t ∷ v) (word x ∷ rest) ts h = tt
valued-short w (t ∷ v) (string x ∷ rest) ts h = tt
valued-short w (t ∷ v) (bad ∷ rest) ts h = tt

grouped-short : (w : List ℕ) (items : List Token) (inner : Statements) (rest ts : List Token) → length rest < length ts → Shorter ts (grouped w items inner rest)
grouped-short w items inner [] ts h = tt
grouped-short w items inner (opening ∷ rest) ts h = tt
grouped-short w items inner (closing ∷ rest) ts h = tt
grouped-short w items inner (left ∷ rest) ts h = tt
grouped-short w items inner (right ∷ rest) ts h = (let s = semicolon-short rest in omega (arith, h, s))
grouped-short w items inner (colon ∷ rest) ts h = tt
grouped-short w items inner (semicolon ∷ rest) ts h = tt
grouped-short w items inner (comma ∷ rest) ts h = tt
grouped-short w items inner (word v ∷ rest) ts h = tt
grouped-short w items inner (string v ∷ rest) ts h = tt
grouped-short w items inner (bad ∷ rest) ts h = tt

nested-short : (go : Fronts) (room : ℕ) (w : List ℕ) (items us ts : List Token) → length us < length ts → AreShort go ts → Shorter ts (nested go room w items us)
nested-short go zero w items us ts h k = tt
nested-short go (suc room) w items us ts h k = grouped-short w items (go room us).statements (go room us).after ts (let s = k room us h in omega (arith, h, s))

called-short : (go : Fronts) (room : ℕ) (w : List ℕ) (items rest ts : List Token) → length rest < length ts → AreShort go ts → Shorter ts (called go room w items rest)
called-short go room w items rest ts =
    endings (λ us. length us < length ts → AreShort go ts → Shorter ts (called go room w items us))
    (λ us h k. nested-short go room w items us ts (omega (arith, h)) k)
    (λ us e h k. subst (Shorter ts) (sym (e go room w items)) (let s = semicolon-short us in omega (arith, h, s)))
    (λ us e h k. subst (Shorter ts) (sym (e go room w items)) tt)
    rest

-- a statement is not empty
pub statement-short : (go : Fronts) (room : ℕ) (ts : List Token) → AreShort go ts → Shorter ts (statement_by go room ts)
statement-short go room =
    beginnings (λ ts. AreShort go ts → Shorter ts (statement_by go room ts))
    (λ w ts k. valued-short w (taken is_value ts) (left_over is_value ts) ts (left_over-short is_value ts))
    (λ w ts k. called-short go room w (taken is_item ts) (left_over is_item ts) (word w ∷ opening ∷ ts) (let s = left_over-short is_item ts in omega (arith, s)) k)
    (λ ts e k. subst (Shorter ts) (sym (e go room)) tt)

-- what is left behind statements is no longer
more-short : (go : List Token → Front) (ts : List Token) (o : Option Step) → Shorter ts o → ((us : List Token) → length (go us).after ≤ length us) → length (and_more go ts o).after ≤ length ts
more-short go ts None h k = omega arith
more-short go ts (Some s) h k = let l = k s.1 in omega (arith, l, h)

pub fronts-short : (n room : ℕ) (ts : List Token) → length (fronts n room ts).after ≤ length ts
unfolding fronts
fronts-short zero room ts = omega arith
fronts-short (suc n) room ts = more-short (fronts n room) ts (statement_by (fronts n) room ts) (statement-short (fronts n) room ts (λ r us h. fronts-short n r us)) (fronts-short n room)

-- Turns beyond the number of tokens change nothing.
abbrev AreSame : Fronts → Fronts → List Token → Type 0
AreSame go ho ts = (room : ℕ) (us : List Token) → length us < length ts → go room us ≡ ho room us

nested-same : (go ho : Fronts) (room : ℕ) (w : List ℕ) (items us ts : List Token) → length us < length ts → AreSame go ho ts → nested go room w items us ≡ nested ho room w items us
nested-same go ho zero w items us ts h k = refl
nested-same go ho (suc room) w items us ts h k = ap (λ (f : Front). grouped w items f.statements f.after) (k room us h)

called-same : (go ho : Fronts) (room : ℕ) (w : List ℕ) (items rest ts : List Token) → length rest < length ts → AreSame go ho ts → called go room w items rest ≡ called ho room w items rest
called-same go ho room w items rest ts =
    endings (λ us. length us < length ts → AreSame go ho ts → called go room w items us ≡ called ho room w items us)
    (λ us h k. nested-same go ho room w items us ts (omega (arith, h)) k)
    (λ us e h k. e go room w items ∙ sym (e ho room w items))
    (λ us e h k. e go room w items ∙ sym (e ho room w items))
    rest

pub statement-same : (go ho : Fronts) (room : ℕ) (ts : List Token) → AreSame go ho ts → statement_by go room ts ≡ statement_by ho room ts
statement-same go ho room =
    beginnings (λ ts. AreSame go ho ts → statement_by go room ts ≡ statement_by ho room ts)
    (λ w ts k. refl)
    (λ w ts k. called-same go ho room w (taken is_item ts) (left_over is_item ts) (word w ∷ opening ∷ ts) (let s = left_over-short is_item ts in omega (arith, s)) k)
    (λ ts e k. e go room ∙ sym (e ho room))

more-same : (go ho : List Token → Front) (ts : List Token) (o : Option Step) → Shorter ts o → ((us : List Token) → length us < length ts → go us ≡ ho us) → and_more go ts o ≡ and_more ho ts o
more-same go ho ts None h k = refl
more-same go ho ts (Some s) h k = ap (λ (f : Front). record { statements = more s.0 f.statements; after = f.after }) (k s.1 h)

pub enough : (n m room : ℕ) (ts : List Token) → length ts ≤ n → length ts ≤ m → fronts n room ts ≡ fronts m room ts
unfolding fronts
enough zero zero room ts h k = refl
enough zero (suc m) room [] h k = refl
enough zero (suc m) room (t ∷ ts) h k = absurd (omega (arith, h))
enough (suc n) zero room [] h k = refl
enough (suc n) zero room (t ∷ ts) h k = absurd (omega (arith, k))
enough (suc n) (suc m) room ts h k =
    more-same (fronts n room) (fronts m room) ts (statement_by (fronts n) room ts) (statement-short (fronts n) room ts (λ r us l. fronts-short n r us)) (λ us l. enough n m room us (omega (arith, h, l)) (omega (arith, k, l)))
    ∙ ap (and_more (fronts m room) ts) (statement-same (fronts n) (fronts m) room ts (λ r us l. enough n m r us (omega (arith, h, l)) (omega (arith, k, l))))

-- from one statement to the next
pub front-turn : (room : ℕ) (ts : List Token) → front room ts ≡ and_more (front room) ts (statement_by front room ts)
unfolding fronts
front-turn room [] = refl
front-turn room (t ∷ ts) =
    more-same (fronts (length ts) room) (front room) (t ∷ ts) (statement_by (fronts (length ts)) room (t ∷ ts)) (statement-short (fronts (length ts)) room (t ∷ ts) (λ r us l. fronts-short (length ts) r us)) (λ us l. enough (length ts) (length us) room us (omega (arith, l)) (omega arith))
    ∙ ap (and_more (front room) (t ∷ ts)) (statement-same (fronts (length ts)) front room (t ∷ ts) (λ r us l. enough (length ts) (length us) r us (omega (arith, l)) (omega arith)))
