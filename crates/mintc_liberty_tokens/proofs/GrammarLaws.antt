-- What is read is written so: the statements at the front of tokens, and what stands behind them.
use Rattle.std.proofs.Common.{◌≡◌, ℕ, zero, suc, ◌≤◌, Bool, true, false, ◌&&◌, if◌then◌else◌, List, [], ◌∷◌, ◌++◌, length, Option, Some, None, refl, sym, ap, subst, ◌∙◌, arith, true≢false}
use Rattle.std.specs.List.{list_all}
use Rattle.std.proofs.lemmas.Bool.{and_parts}
use Rattle.mintc_liberty_tokens.specs.Tokens.{Token, opening, closing, left, right, colon, semicolon, comma, word, string, bad, is_value, is_item}
use Rattle.mintc_liberty_tokens.specs.Statements.{Statement, Statements, more, attribute, plain, group, Step, Front, taken, left_over, past_semicolon, valued, grouped, nested, called, and_more, statement_by, fronts, front, are_value, is_optional, depth, depth_of, Writes, no_more, an_attribute, a_plain, a_group}
use Rattle.mintc_liberty_tokens.proofs.SharedStatementLaws.{beginnings, endings, front-turn}

both-left : (a b : Bool) → (a && b) ≡ true → a ≡ true
both-left a b h = (and_parts a b h).0

both-right : (a b : Bool) → (a && b) ≡ true → b ≡ true
both-right a b h = (and_parts a b h).1

-- a list is what passes and what is left
split : (test : Token → Bool) (ts : List Token) → ts ≡ taken test ts ++ left_over test ts
split test [] = refl
split test (t ∷ ts) = by (test t) (split test ts)
  where
    by : (b : Bool) → ts ≡ taken test ts ++ left_over test ts → t ∷ ts ≡ (if b then t ∷ taken test ts else []) ++ (if b then left_over test ts else t ∷ ts)
    by true e = ap (λ us. t ∷ us) e
    by false e = refl

passes : (test : Token → Bool) (ts : List Token) → list_all test (taken test ts) ≡ true
passes test [] = refl
passes test (t ∷ ts) = by (test t) refl (passes test ts)
  where
    by : (b : Bool) → test t ≡ b → list_all test (taken test ts) ≡ true → list_all test (if b then t ∷ taken test ts else []) ≡ true
    by true e h = rw (e, h) refl
    by false e h = refl

assoc : (xs ys zs : List Token) → (xs ++ ys) ++ zs ≡ xs ++ (ys ++ zs)
assoc [] ys zs = refl
assoc (x ∷ xs) ys zs = ap (λ l. x ∷ l) (assoc xs ys zs)

-- the `;` that was passed, if there was one
abbrev Optional : List Token → Type 0
Optional ts = (end : List Token) × (is_optional end ≡ true) × (ts ≡ end ++ past_semicolon ts)

semicolons : (ts : List Token) → Optional ts
semicolons [] = ([], refl, refl)
semicolons (opening ∷ ts) = ([], refl, refl)
semicolons (closing ∷ ts) = ([], refl, refl)
semicolons (left ∷ ts) = ([], refl, refl)
semicolons (right ∷ ts) = ([], refl, refl)
semicolons (colon ∷ ts) = ([], refl, refl)
semicolons (semicolon ∷ ts) = (semicolon ∷ [], refl, refl)
semicolons (comma ∷ ts) = ([], refl, refl)
semicolons (word x ∷ ts) = ([], refl, refl)
semicolons (string x ∷ ts) = ([], refl, refl)
semicolons (bad ∷ ts) = ([], refl, refl)

-- A step is written by what stands before the tokens that it leaves.
abbrev StepWrites : ℕ → List Token → Option Step → Type 0
StepWrites room ts None = Unit {0}
StepWrites room ts (Some s) = (head : List Token) × (ts ≡ head ++ s.1) × (depth_of s.0 ≤ room) × ((is : Statements) (us : List Token) → Writes is us → Writes (more s.0 is) (head ++ us))

-- Statements are written by what stands before the tokens behind them, and nest no deeper.
abbrev pub Found : ℕ → List Token → Front → Type 0
Found room ts f = (us : List Token) × (ts ≡ us ++ f.after) × (Writes f.statements us) × (depth f.statements ≤ room)

valued-writes : (room : ℕ) (w : List ℕ) (v rest ts : List Token) → list_all is_value v ≡ true → ts ≡ v ++ rest → StepWrites room (word w ∷ colon ∷ ts) (valued w v rest)
valued-writes room w [] rest ts h e = tt
valued-writes room w (t ∷ v) [] ts h e = tt
valued-writes room w (t ∷ v) (opening ∷ rest) ts h e = tt
valued-writes room w (t ∷ v) (closing ∷ rest) ts h e = tt
valued-writes room w (t ∷ v) (left ∷ rest) ts h e = tt
valued-writes room w (t ∷ v) (right ∷ rest) ts h e = tt
valued-writes room w (t ∷ v) (colon ∷ rest) ts h e = tt
valued-writes room w (t ∷ v) (semicolon ∷ rest) ts h e = (
  word w ∷ colon ∷ (t ∷ v) ++ semicolon ∷ [],
  ap (λ l. word w ∷ colon ∷ l) (e ∙ sym (assoc (t ∷ v) (semicolon ∷ []) rest)),
  omega arith,
  λ is us k. subst (λ l. Writes (more (attribute w (t ∷ v)) is) (word w ∷ colon ∷ l)) (sym (assoc (t ∷ v) (semicolon ∷ []) us)) (an_attribute w (t ∷ v) is us h k),
)
valued-writes room w (t ∷ v) (comma ∷ rest) ts h e = tt
valued-writes room w (t ∷ v) (word x ∷ rest) ts h e = tt
valued-writes room w (t ∷ v) (string x ∷ rest) ts h e = tt
valued-writes room w (t ∷ v) (bad ∷ rest) ts h e = tt

plain-writes : (room : ℕ) (w : List ℕ) (items ts us : List Token) → list_all is_item items ≡ true → us ≡ items ++ closing ∷ ts → Optional ts →
    StepWrites room (word w ∷ opening ∷ us) (Some (plain w items, past_semicolon ts))
plain-writes room w items ts us h e end = (
  word w ∷ opening ∷ items ++ closing ∷ end.0,
  ap (λ l. word w ∷ opening ∷ l) (e ∙ ap (λ l. items ++ closing ∷ l) end.2 ∙ sym (assoc items (closing ∷ end.0) (past_semicolon ts))),
  omega arith,
  λ is vs k. a_plain w items is end.0 vs h end.1 k,
)

group-writes : (room : ℕ) (w : List ℕ) (items ts us vs : List Token) (inner : Statements) → list_all is_item items ≡ true → us ≡ items ++ (closing ∷ left ∷ (vs ++ right ∷ ts)) →
    Writes inner vs → suc (depth inner) ≤ room → Optional ts → StepWrites room (word w ∷ opening ∷ us) (Some (group w items inner, past_semicolon ts))
group-writes room w items ts us vs inner h e k d end = (
  word w ∷ opening ∷ items ++ closing ∷ left ∷ vs ++ right ∷ end.0,
  ap (λ l. word w ∷ opening ∷ l)
      (e ∙ ap (λ l. items ++ (closing ∷ left ∷ (vs ++ right ∷ l))) end.2
      ∙ sym (assoc items (closing ∷ left ∷ vs) (right ∷ (end.0 ++ past_semicolon ts)))
      ∙ sym (assoc (items ++ closing ∷ left ∷ vs) (right ∷ end.0) (past_semicolon ts))),
  d,
  λ is xs l. a_group w items inner is vs end.0 xs h k end.1 l,
)

grouped-writes : (room : ℕ) (w : List ℕ) (items us ts : List Token) (f : Front) → list_all is_item items ≡ true → us ≡ items ++ closing ∷ left ∷ ts → Found room ts f →
    StepWrites (suc room) (word w ∷ opening ∷ us) (grouped w items f.statements f.after)
grouped-writes room w items us ts f h e k = by f.after k.1
  where
    by : (rest : List Token) → ts ≡ k.0 ++ rest → StepWrites (suc room) (word w ∷ opening ∷ us) (grouped w items f.statements rest)
    by [] c = tt
    by (opening ∷ rest) c = tt
    by (closing ∷ rest) c = tt
    by (left ∷ rest) c = tt
    by (right ∷ rest) c = group-writes (suc room) w items rest us k.0 f.statements h (e ∙ ap (λ l. items ++ closing ∷ left ∷ l) c) k.2 (let d = k.3 in omega (arith, d)) (semicolons rest)
    by (colon ∷ rest) c = tt
    by (semicolon ∷ rest) c = tt
    by (comma ∷ rest) c = tt
    by (word x ∷ rest) c = tt
    by (string x ∷ rest) c = tt
    by (bad ∷ rest) c = tt

nested-writes : (go : ℕ → List Token → Front) (room : ℕ) (w : List ℕ) (items us ts : List Token) → ((r : ℕ) (vs : List Token) → Found r vs (go r vs)) →
    list_all is_item items ≡ true → us ≡ items ++ closing ∷ left ∷ ts → StepWrites room (word w ∷ opening ∷ us) (nested go room w items ts)
nested-writes go zero w items us ts k h e = tt
nested-writes go (suc room) w items us ts k h e = grouped-writes room w items us ts (go room ts) h e (k room ts)

called-writes : (go : ℕ → List Token → Front) (room : ℕ) (w : List ℕ) (items us rest : List Token) → ((r : ℕ) (vs : List Token) → Found r vs (go r vs)) →
    list_all is_item items ≡ true → us ≡ items ++ rest → StepWrites room (word w ∷ opening ∷ us) (called go room w items rest)
called-writes go room w items us rest k h =
    endings (λ ts. us ≡ items ++ ts → StepWrites room (word w ∷ opening ∷ us) (called go room w items ts))
    (λ ts e. nested-writes go room w items us ts k h e)
    (λ ts c e. subst (StepWrites room (word w ∷ opening ∷ us)) (sym (c go room w items)) (plain-writes room w items ts us h e (semicolons ts)))
    (λ ts c e. subst (StepWrites room (word w ∷ opening ∷ us)) (sym (c go room w items)) tt)
    rest

statement-writes : (go : ℕ → List Token → Front) (room : ℕ) → ((r : ℕ) (vs : List Token) → Found r vs (go r vs)) → (ts : List Token) → StepWrites room ts (statement_by go room ts)
statement-writes go room k =
    beginnings (λ ts. StepWrites room ts (statement_by go room ts))
    (λ w ts. valued-writes room w (taken is_value ts) (left_over is_value ts) ts (passes is_value ts) (split is_value ts))
    (λ w ts. called-writes go room w (taken is_item ts) ts (left_over is_item ts) k (passes is_item ts) (split is_item ts))
    (λ ts e. subst (StepWrites room ts) (sym (e go room)) tt)

more-found : (go : List Token → Front) (room : ℕ) (ts : List Token) (o : Option Step) → StepWrites room ts o → ((us : List Token) → Found room us (go us)) → Found room ts (and_more go ts o)
more-found go room ts None h k = ([], refl, no_more, omega arith)
more-found go room ts (Some s) h k =
    let m = k s.1 in
    (h.0 ++ m.0, h.1 ∙ ap (λ l. h.0 ++ l) m.1 ∙ sym (assoc h.0 m.0 (go s.1).after), h.3 (go s.1).statements m.0 m.2, (let a = h.2 in let b = m.3 in omega (arith, a, b)))

pub fronts-found : (n room : ℕ) (ts : List Token) → Found room ts (fronts n room ts)
unfolding fronts
fronts-found zero room ts = ([], refl, no_more, omega arith)
fronts-found (suc n) room ts = more-found (fronts n room) room ts (statement_by (fronts n) room ts) (statement-writes (fronts n) room (λ r vs. fronts-found n r vs) ts) (fronts-found n room)

-- what the statements at the front of tokens are, by how they are written
pub found : (room : ℕ) (ts : List Token) → Found room ts (front room ts)
found room ts = fronts-found (length ts) room ts

-- And the other way round: what is written so before a `}` is read.

taken-all : (test : Token → Bool) (v : List Token) (t : Token) (ts : List Token) → list_all test v ≡ true → test t ≡ false → taken test (v ++ t ∷ ts) ≡ v
taken-all test [] t ts h e = ap (λ b. if b then t ∷ taken test ts else []) e
taken-all test (x ∷ v) t ts h e =
    ap (λ b. if b then x ∷ taken test (v ++ t ∷ ts) else []) (both-left (test x) (list_all test v) h)
    ∙ ap (λ l. x ∷ l) (taken-all test v t ts (both-right (test x) (list_all test v) h) e)

left-all : (test : Token → Bool) (v : List Token) (t : Token) (ts : List Token) → list_all test v ≡ true → test t ≡ false → left_over test (v ++ t ∷ ts) ≡ t ∷ ts
left-all test [] t ts h e = ap (λ b. if b then left_over test ts else t ∷ ts) e
left-all test (x ∷ v) t ts h e =
    ap (λ b. if b then left_over test (v ++ t ∷ ts) else x ∷ (v ++ t ∷ ts)) (both-left (test x) (list_all test v) h)
    ∙ left-all test v t ts (both-right (test x) (list_all test v) h) e

-- what is written begins with a word, or with the `}` behind it
starts : (P : List Token → Type 0) (is : Statements) (us r : List Token) → Writes is us → ((ts : List Token) → P (right ∷ ts)) → ((w : List ℕ) (ts : List Token) → P (word w ∷ ts)) → P (us ++ right ∷ r)
starts P _ _ r no_more f g = f r
starts P _ _ r (an_attribute w v is ts h k) f g = g w (colon ∷ v ++ semicolon ∷ ts ++ right ∷ r)
starts P _ _ r (a_plain w items is end ts h e k) f g = g w (opening ∷ items ++ closing ∷ end ++ ts ++ right ∷ r)
starts P _ _ r (a_group w items inner is vs end ts h k e l) f g = g w (opening ∷ items ++ closing ∷ left ∷ vs ++ right ∷ end ++ ts ++ right ∷ r)

abbrev Starts : List Token → Type 0
Starts ts = (past_semicolon ts ≡ ts) × ((room : ℕ) (w : List ℕ) (items : List Token) → called front room w items (closing ∷ ts) ≡ Some (plain w items, ts))

starts-so : (is : Statements) (us r : List Token) → Writes is us → Starts (us ++ right ∷ r)
starts-so is us r h = starts Starts is us r h (λ ts. (refl, λ room w items. refl)) (λ v ts. (refl, λ room w items. refl))

skips : (end ts : List Token) → is_optional end ≡ true → Starts ts → past_semicolon (end ++ ts) ≡ ts
skips [] ts h s = s.0
skips (semicolon ∷ []) ts h s = refl
skips (semicolon ∷ t ∷ end) ts h s = absurd (true≢false (sym h))
skips (opening ∷ end) ts h s = absurd (true≢false (sym h))
skips (closing ∷ end) ts h s = absurd (true≢false (sym h))
skips (left ∷ end) ts h s = absurd (true≢false (sym h))
skips (right ∷ end) ts h s = absurd (true≢false (sym h))
skips (colon ∷ end) ts h s = absurd (true≢false (sym h))
skips (comma ∷ end) ts h s = absurd (true≢false (sym h))
skips (word v ∷ end) ts h s = absurd (true≢false (sym h))
skips (string v ∷ end) ts h s = absurd (true≢false (sym h))
skips (bad ∷ end) ts h s = absurd (true≢false (sym h))

plain-called : (end ts : List Token) → is_optional end ≡ true → Starts ts → (room : ℕ) (w : List ℕ) (items : List Token) → called front room w items (closing ∷ (end ++ ts)) ≡ Some (plain w items, ts)
plain-called [] ts h s room w items = s.1 room w items
plain-called (semicolon ∷ []) ts h s room w items = refl
plain-called (semicolon ∷ t ∷ end) ts h s room w items = absurd (true≢false (sym h))
plain-called (opening ∷ end) ts h s room w items = absurd (true≢false (sym h))
plain-called (closing ∷ end) ts h s room w items = absurd (true≢false (sym h))
plain-called (left ∷ end) ts h s room w items = absurd (true≢false (sym h))
plain-called (right ∷ end) ts h s room w items = absurd (true≢false (sym h))
plain-called (colon ∷ end) ts h s room w items = absurd (true≢false (sym h))
plain-called (comma ∷ end) ts h s room w items = absurd (true≢false (sym h))
plain-called (word v ∷ end) ts h s room w items = absurd (true≢false (sym h))
plain-called (string v ∷ end) ts h s room w items = absurd (true≢false (sym h))
plain-called (bad ∷ end) ts h s room w items = absurd (true≢false (sym h))

valued-called : (w : List ℕ) (v ts : List Token) → are_value v ≡ true → valued w v (semicolon ∷ ts) ≡ Some (attribute w v, ts)
valued-called w [] ts h = absurd (true≢false (sym h))
valued-called w (t ∷ v) ts h = refl

value-all : (v : List Token) → are_value v ≡ true → list_all is_value v ≡ true
value-all [] h = refl
value-all (t ∷ v) h = h

-- one statement before what is read
abbrev Reads : ℕ → Statements → List Token → List Token → Type 0
Reads room is us r = front room (us ++ right ∷ r) ≡ record { statements = is; after = right ∷ r }

reads-more : (room : ℕ) (ts us r : List Token) (s : Statement) (is : Statements) → statement_by front room ts ≡ Some (s, us ++ right ∷ r) → Reads room is us r →
    front room ts ≡ record { statements = more s is; after = right ∷ r }
reads-more room ts us r s is e h =
    front-turn room ts ∙ ap (and_more (front room) ts) e ∙ ap (λ (f : Front). record { statements = more s f.statements; after = f.after }) h

attribute-by : (room : ℕ) (w : List ℕ) (v ts : List Token) → are_value v ≡ true → statement_by front room (word w ∷ colon ∷ (v ++ semicolon ∷ ts)) ≡ Some (attribute w v, ts)
attribute-by room w v ts h =
    ap (λ l. valued w l (left_over is_value (v ++ semicolon ∷ ts))) (taken-all is_value v semicolon ts (value-all v h) refl)
    ∙ ap (valued w v) (left-all is_value v semicolon ts (value-all v h) refl)
    ∙ valued-called w v ts h

call-by : (room : ℕ) (w : List ℕ) (items ts : List Token) → list_all is_item items ≡ true → statement_by front room (word w ∷ opening ∷ (items ++ closing ∷ ts)) ≡ called front room w items (closing ∷ ts)
call-by room w items ts h =
    ap (λ l. called front room w l (left_over is_item (items ++ closing ∷ ts))) (taken-all is_item items closing ts h refl)
    ∙ ap (called front room w items) (left-all is_item items closing ts h refl)

group-called : (room : ℕ) (w : List ℕ) (items vs ts : List Token) (inner : Statements) → Reads room inner vs ts →
    called front (suc room) w items (closing ∷ left ∷ (vs ++ right ∷ ts)) ≡ Some (group w items inner, past_semicolon ts)
group-called room w items vs ts inner h = ap (λ (f : Front). grouped w items f.statements f.after) h

-- how the pieces of what is written join with what is behind them
join-plain : (w : List ℕ) (items end ts rest : List Token) → (word w ∷ opening ∷ items ++ closing ∷ end ++ ts) ++ rest ≡ word w ∷ opening ∷ (items ++ closing ∷ (end ++ (ts ++ rest)))
join-plain w items end ts rest =
    assoc (word w ∷ opening ∷ items ++ closing ∷ end) ts rest ∙ assoc (word w ∷ opening ∷ items) (closing ∷ end) (ts ++ rest)

join-group : (w : List ℕ) (items vs end ts rest : List Token) →
    (word w ∷ opening ∷ items ++ closing ∷ left ∷ vs ++ right ∷ end ++ ts) ++ rest ≡ word w ∷ opening ∷ (items ++ closing ∷ (left ∷ (vs ++ right ∷ (end ++ (ts ++ rest)))))
join-group w items vs end ts rest =
    assoc (word w ∷ opening ∷ items ++ closing ∷ left ∷ vs ++ right ∷ end) ts rest
    ∙ assoc (word w ∷ opening ∷ items ++ closing ∷ left ∷ vs) (right ∷ end) (ts ++ rest)
    ∙ assoc (word w ∷ opening ∷ items) (closing ∷ left ∷ vs) (right ∷ (end ++ (ts ++ rest)))

pub reads : (room : ℕ) (is : Statements) (us r : List Token) → Writes is us → depth is ≤ room → Reads room is us r
reads room _ _ r no_more d = front-turn room (right ∷ r)
reads room _ _ r (an_attribute w v is ts h k) d =
    ap (front room) (assoc (word w ∷ colon ∷ v) (semicolon ∷ ts) (right ∷ r))
    ∙ reads-more room (word w ∷ colon ∷ (v ++ semicolon ∷ (ts ++ right ∷ r))) ts r (attribute w v) is (attribute-by room w v (ts ++ right ∷ r) h) (reads room is ts r k (omega (arith, d)))
reads room _ _ r (a_plain w items is end ts h e k) d =
    ap (front room) (join-plain w items end ts (right ∷ r))
    ∙ reads-more room (word w ∷ opening ∷ (items ++ closing ∷ (end ++ (ts ++ right ∷ r)))) ts r (plain w items) is
    (call-by room w items (end ++ (ts ++ right ∷ r)) h ∙ plain-called end (ts ++ right ∷ r) e (starts-so is ts r k) room w items)
    (reads room is ts r k (omega (arith, d)))
reads zero _ _ r (a_group w items inner is vs end ts h k e l) d = absurd (omega (arith, d))
reads (suc room) _ _ r (a_group w items inner is vs end ts h k e l) d =
    ap (front (suc room)) (join-group w items vs end ts (right ∷ r))
    ∙ reads-more (suc room) (word w ∷ opening ∷ (items ++ closing ∷ (left ∷ (vs ++ right ∷ (end ++ (ts ++ right ∷ r)))))) ts r (group w items inner) is
    (call-by (suc room) w items (left ∷ (vs ++ right ∷ (end ++ (ts ++ right ∷ r)))) h
    ∙ group-called room w items vs (end ++ (ts ++ right ∷ r)) inner (reads room inner vs (end ++ (ts ++ right ∷ r)) k (omega (arith, d)))
    ∙ ap (λ m. Some (group w items inner, m)) (skips end (ts ++ right ∷ r) e (starts-so is ts r l)))
    (reads (suc room) is ts r l (omega (arith, d)))
