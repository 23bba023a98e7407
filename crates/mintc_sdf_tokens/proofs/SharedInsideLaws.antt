-- What stands inside of the list that is open, token by token.
use Rattle.std.proofs.Common.{◌≡◌, ℕ, ◌<◌, Bool, true, false, List, ◌∷◌, length, Option, Some, None, option_map, option_and_then, refl, sym, ap, subst, ◌∙◌, arith}
use Rattle.mintc_sdf_tokens.specs.Tokens.{Token, opening, closing, word, string}
use Rattle.mintc_sdf_tokens.specs.Items.{Items, none, leaf, quoted, list, Front, fronts, items, after}
use Rattle.mintc_sdf_tokens.specs.Reading.{after_opening, after_closing, word_at, string_at, inside, inside_by, with_rest}
use Rattle.mintc_sdf_tokens.proofs.ItemLaws.{closed-list, open-list, after-shorter}

-- a word, a string or a parenthesis that comes next
pub word-next : (ts : List Token) (w : List ℕ) (rest : List Token) → word_at ts ≡ Some (w, rest) → ts ≡ word w ∷ rest
word-next (word v ∷ ts) w rest e = let same : (v, ts) ≡ (w, rest) = cc in ap (λ (p : List ℕ × List Token). word p.0 ∷ p.1) same
word-next _ w rest e = absurd (cc)

pub string-next : (ts : List Token) (w : List ℕ) (rest : List Token) → string_at ts ≡ Some (w, rest) → ts ≡ string w ∷ rest
string-next (string s ∷ ts) w rest e = let same : (s, ts) ≡ (w, rest) = cc in ap (λ (p : List ℕ × List Token). string p.0 ∷ p.1) same
string-next _ w rest e = absurd (cc)

pub opening-next : (ts rest : List Token) → after_opening ts ≡ Some rest → ts ≡ opening ∷ rest
opening-next (opening ∷ ts) rest e = let same : ts ≡ rest = cc in ap (λ l. opening ∷ l) same
opening-next _ rest e = absurd (cc)

pub closing-next : (ts rest : List Token) → after_closing ts ≡ Some rest → ts ≡ closing ∷ rest
closing-next (closing ∷ ts) rest e = let same : ts ≡ rest = cc in ap (λ l. closing ∷ l) same
closing-next _ rest e = absurd (cc)

-- the items and what follows, token by token
pub items-word : (w : List ℕ) (ts : List Token) → (items (word w ∷ ts) ≡ leaf w (items ts)) × (after (word w ∷ ts) ≡ after ts)
unfolding fronts
items-word w ts = (refl, refl)

-- a closed list, and one that isn't
abbrev pub Opened : List Token → List Token → Type 0
Opened ts rest = (items (opening ∷ ts) ≡ list (items ts) (items rest)) × (after (opening ∷ ts) ≡ after rest)

pub opened : (ts rest : List Token) → after ts ≡ closing ∷ rest → Opened ts rest
opened ts rest e = let f = closed-list ts rest e in (ap (λ (f : Front). f.items) f, ap (λ (f : Front). f.after) f)

pub unopened : (ts : List Token) → after_closing (after ts) ≡ None → (items (opening ∷ ts) ≡ none) × (after (opening ∷ ts) ≡ opening ∷ ts)
unopened ts e = let f = open-list ts e in (ap (λ (f : Front). f.items) f, ap (λ (f : Front). f.after) f)

-- What a form gives of the inside of a list.

pub inside-some : {A : Type 0} (f : Items → Option A) (ts : List Token) (a : A) (rest : List Token) → inside f ts ≡ Some (a, rest) → (after ts ≡ closing ∷ rest) × (f (items ts) ≡ Some a)
inside-some {A} f ts a rest e = by (items ts) (after ts) e
  where
    some : (o : Option A) (r : List Token) → option_map (with_rest r) o ≡ Some (a, rest) → (closing ∷ r ≡ closing ∷ rest) × (o ≡ Some a)
    some None r g = absurd (cc)
    some (Some x) r g = let same : (x, r) ≡ (a, rest) = cc in (ap (λ (p : A × List Token). closing ∷ p.1) same, ap (λ (p : A × List Token). Some p.0) same)

    by : (is : Items) (af : List Token) → inside_by f is af ≡ Some (a, rest) → (af ≡ closing ∷ rest) × (f is ≡ Some a)
    by is (closing ∷ r) g = some (f is) r g
    by is _ g = absurd (cc)

-- nothing is given of items out of form, or of a list that isn't closed
pub inside-none : {A : Type 0} (f : Items → Option A) (ts : List Token) → f (items ts) ≡ None → inside f ts ≡ None
inside-none f ts e = grind (arith, e)

pub inside-open : {A : Type 0} (f : Items → Option A) (ts : List Token) → after_closing (after ts) ≡ None → inside f ts ≡ None
inside-open f ts e = grind (arith, e)

pub inside-closed : {A : Type 0} (f : Items → Option A) (ts rest : List Token) (a : A) → after ts ≡ closing ∷ rest → f (items ts) ≡ Some a → inside f ts ≡ Some (a, rest)
inside-closed {A} f ts rest a e g = ap (inside_by f (items ts)) e ∙ ap (option_map (with_rest rest)) g

-- two forms that give the same
pub inside-same : {A : Type 0} (f g : Items → Option A) (ts : List Token) → ((is : Items) → f is ≡ g is) → inside f ts ≡ inside g ts
inside-same f g ts h = grind (arith, h (items ts))

-- behind a word, and at the end
pub inside-word : {A : Type 0} (f : Items → Option A) (ts : List Token) (w : List ℕ) (rest : List Token) → word_at ts ≡ Some (w, rest) → inside f ts ≡ inside (λ is. f (leaf w is)) rest
unfolding fronts
inside-word f ts w rest e = ap (inside f) (word-next ts w rest e)

pub inside-string : {A : Type 0} (f : Items → Option A) (ts : List Token) (w : List ℕ) (rest : List Token) → string_at ts ≡ Some (w, rest) → inside f ts ≡ inside (λ is. f (quoted w is)) rest
unfolding fronts
inside-string f ts w rest e = ap (inside f) (string-next ts w rest e)

pub inside-end : {A : Type 0} (f : Items → Option A) (ts rest : List Token) → after_closing ts ≡ Some rest → inside f ts ≡ option_map (with_rest rest) (f none)
unfolding fronts
inside-end f ts rest e = ap (inside f) (closing-next ts rest e)

-- a word or a list in front
abbrev pub is_leaf : Items → Bool
is_leaf (leaf w is) = true
is_leaf _ = false

abbrev pub is_list : Items → Bool
is_list (list inner is) = true
is_list _ = false

-- an opened list is a list, or is none
pub at-open : (P : Items → Type 0) (ts : List Token) → P none → ((inner is : Items) → P (list inner is)) → P (items (opening ∷ ts))
at-open P ts n l = by (after ts) refl
  where
    by : (af : List Token) → after ts ≡ af → P (items (opening ∷ ts))
    by (closing ∷ r) e = subst P (sym (opened ts r e).0) (l (items ts) (items r))
    by _ e = subst P (sym (unopened ts (ap after_closing e)).0) n

pub no-leaf : (ts : List Token) → word_at ts ≡ None → is_leaf (items ts) ≡ false
unfolding fronts
no-leaf (opening ∷ ts) e = at-open (λ is. is_leaf is ≡ false) ts refl (λ inner is. refl)
no-leaf (word w ∷ ts) e = absurd (cc)
no-leaf _ e = refl

pub no-list : (ts : List Token) → after_opening ts ≡ None → is_list (items ts) ≡ false
unfolding fronts
no-list (opening ∷ ts) e = absurd (cc)
no-list _ e = refl

-- a form that gives nothing of a list in front
opening-none : {A : Type 0} (f : Items → Option A) (ts : List Token) → ((inner is : Items) → f (list inner is) ≡ None) → inside f (opening ∷ ts) ≡ None
opening-none f ts h = by (after ts) refl
  where
    by : (af : List Token) → after ts ≡ af → inside f (opening ∷ ts) ≡ None
    by (closing ∷ r) e = inside-none f (opening ∷ ts) (ap f (opened ts r e).0 ∙ h (items ts) (items r))
    by _ e = inside-open f (opening ∷ ts) (ap after_closing (unopened ts (ap after_closing e)).1)

-- nothing is given where nothing is given of what comes first
of-first : {A : Type 0} (f : Items → Option A) (ts : List Token) → ((rest : List Token) → after_closing ts ≡ Some rest → f none ≡ None) →
    ((w : List ℕ) (rest : List Token) → word_at ts ≡ Some (w, rest) → (is : Items) → f (leaf w is) ≡ None) →
    ((w : List ℕ) (rest : List Token) → string_at ts ≡ Some (w, rest) → (is : Items) → f (quoted w is) ≡ None) →
    ((rest : List Token) → after_opening ts ≡ Some rest → (inner is : Items) → f (list inner is) ≡ None) → inside f ts ≡ None
unfolding fronts
of-first f (word w ∷ ts) n g q l = inside-none f (word w ∷ ts) (g w ts refl (items ts))
of-first f (string w ∷ ts) n g q l = inside-none f (string w ∷ ts) (q w ts refl (items ts))
of-first f (opening ∷ ts) n g q l = opening-none f ts (l ts refl)
of-first f (closing ∷ ts) n g q l = inside-none f (closing ∷ ts) (n ts refl)
of-first f _ n g q l = refl

-- a form that needs a word, a string, a list or the end
pub needs-word : {A : Type 0} (f : Items → Option A) (ts : List Token) → f none ≡ None → ((w : List ℕ) (is : Items) → f (quoted w is) ≡ None) → ((inner is : Items) → f (list inner is) ≡ None) →
    word_at ts ≡ None → inside f ts ≡ None
needs-word f ts n q l e = of-first f ts (λ _ _. n) (λ w rest x. absurd (cc)) (λ w _ _. q w) (λ _ _. l)

pub needs-string : {A : Type 0} (f : Items → Option A) (ts : List Token) → f none ≡ None → ((w : List ℕ) (is : Items) → f (leaf w is) ≡ None) → ((inner is : Items) → f (list inner is) ≡ None) →
    string_at ts ≡ None → inside f ts ≡ None
needs-string f ts n g l e = of-first f ts (λ _ _. n) (λ w _ _. g w) (λ w rest x. absurd (cc)) (λ _ _. l)

pub needs-list : {A : Type 0} (f : Items → Option A) (ts : List Token) → f none ≡ None → ((w : List ℕ) (is : Items) → f (leaf w is) ≡ None) → ((w : List ℕ) (is : Items) → f (quoted w is) ≡ None) →
    after_opening ts ≡ None → inside f ts ≡ None
needs-list f ts n g q e = of-first f ts (λ _ _. n) (λ w _ _. g w) (λ w _ _. q w) (λ rest x. absurd (cc))

pub needs-end : {A : Type 0} (f : Items → Option A) (ts : List Token) → ((w : List ℕ) (is : Items) → f (leaf w is) ≡ None) → ((w : List ℕ) (is : Items) → f (quoted w is) ≡ None) →
    ((inner is : Items) → f (list inner is) ≡ None) → after_closing ts ≡ None → inside f ts ≡ None
needs-end f ts g q l e = of-first f ts (λ rest x. absurd (cc)) (λ w _ _. g w) (λ w _ _. q w) (λ _ _. l)

pub needs-word-or-end : {A : Type 0} (f : Items → Option A) (ts : List Token) → ((w : List ℕ) (is : Items) → f (quoted w is) ≡ None) → ((inner is : Items) → f (list inner is) ≡ None) →
    after_closing ts ≡ None → word_at ts ≡ None → inside f ts ≡ None
needs-word-or-end f ts q l e g = of-first f ts (λ rest x. absurd (cc)) (λ w rest x. absurd (cc)) (λ w _ _. q w) (λ _ _. l)

pub needs-list-or-end : {A : Type 0} (f : Items → Option A) (ts : List Token) → ((w : List ℕ) (is : Items) → f (leaf w is) ≡ None) → ((w : List ℕ) (is : Items) → f (quoted w is) ≡ None) →
    after_closing ts ≡ None → after_opening ts ≡ None → inside f ts ≡ None
needs-list-or-end f ts g q e h = of-first f ts (λ rest x. absurd (cc)) (λ w _ _. g w) (λ w _ _. q w) (λ rest x. absurd (cc))

-- a form of what another form gives
pub inside-then : {A B : Type 0} (f : Items → Option A) (g : A → Option B) (ts : List Token) (a : A) (rest : List Token) → inside f ts ≡ Some (a, rest) →
    inside (λ is. option_and_then g (f is)) ts ≡ option_map (with_rest rest) (g a)
inside-then f g ts a rest e =
    let s = inside-some f ts a rest e in
    ap (inside_by (λ is. option_and_then g (f is)) (items ts)) s.0 ∙ ap (λ o. option_map (with_rest rest) (option_and_then g o)) s.1

-- a form that gives nothing where another gives nothing
pub rest-none : {A : Type 0} (o : Option A) (rest : List Token) → option_map (with_rest rest) o ≡ None → o ≡ None
rest-none o rest e = grind (arith, e)

pub inside-still : {A B : Type 0} (f : Items → Option A) (g : Items → Option B) (ts : List Token) → (f (items ts) ≡ None → g (items ts) ≡ None) → inside f ts ≡ None → inside g ts ≡ None
inside-still f g ts h e = grind (arith, h, e)

pub inside-then_none : {A B : Type 0} (f : Items → Option A) (g : A → Option B) (ts : List Token) → inside f ts ≡ None → inside (λ is. option_and_then g (f is)) ts ≡ None
inside-then_none f g ts e = inside-still f (λ is. option_and_then g (f is)) ts (ap (option_and_then g)) e

-- a form whose first item is a list that another form reads
pub list-none : {A B : Type 0} (f : Items → Option A) (h : Items → Option B) (ts : List Token) → ((inner is : Items) → f inner ≡ None → h (list inner is) ≡ None) →
    inside f ts ≡ None → inside h (opening ∷ ts) ≡ None
list-none f h ts g e = by (after ts) refl e
  where
    by : (af : List Token) → after ts ≡ af → inside_by f (items ts) (after ts) ≡ None → inside h (opening ∷ ts) ≡ None
    by (closing ∷ r) k e = inside-none h (opening ∷ ts) (ap h (opened ts r k).0 ∙ g (items ts) (items r) (rest-none (f (items ts)) r (sym (ap (inside_by f (items ts)) k) ∙ e)))
    by _ k e = inside-open h (opening ∷ ts) (ap after_closing (unopened ts (ap after_closing k)).1)

pub list-some : {A B : Type 0} (f : Items → Option A) (h g : Items → Option B) (ts : List Token) (a : A) (rest : List Token) →
    ((inner is : Items) → f inner ≡ Some a → h (list inner is) ≡ g is) → inside f ts ≡ Some (a, rest) → inside h (opening ∷ ts) ≡ inside g rest
list-some f h g ts a rest k e =
    let s = inside-some f ts a rest e in
    let o = opened ts rest s.0 in
    ap (λ is. inside_by h is (after (opening ∷ ts))) o.0 ∙ ap (inside_by h (list (items ts) (items rest))) o.1
    ∙ same (after rest) (k (items ts) (items rest) s.1)
  where
    same : (af : List Token) → h (list (items ts) (items rest)) ≡ g (items rest) → inside_by h (list (items ts) (items rest)) af ≡ inside_by g (items rest) af
    same (closing ∷ r) e = ap (option_map (with_rest r)) e
    same _ e = refl

-- what is left behind a list is shorter
pub inside-shorter : {A : Type 0} (f : Items → Option A) (ts : List Token) (a : A) (rest : List Token) → inside f ts ≡ Some (a, rest) → length rest < length ts
inside-shorter f ts a rest e = let s = ap length (inside-some f ts a rest e).0 in omega (arith, after-shorter ts, s)
