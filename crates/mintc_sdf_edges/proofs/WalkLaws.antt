-- A walk over the tokens, step by step.
use Rattle.std.proofs.Common.{◌≡◌, ℕ, Bool, true, false, if◌then◌else◌, List, [], ◌∷◌, ◌++◌, length, ◌<◌, Option, Some, None, option_map, option_and_then, Result, Ok, Err, codes, bytes_eq, refl, sym, ap, ◌∙◌, arith, append_assoc}
use Rattle.std.specs.Str.{str_to_ascii_lowercase}
use Rattle.std.proofs.lemmas.Slice.Eq.{bytes_eq-Decides}
use Rattle.mintc_sdf_tokens.specs.declared.reader.TokenKind.TheVariants as mark
use Rattle.mintc_sdf_tokens.specs.declared.conditions.Layer.{Layer}
use Rattle.mintc_sdf_tokens.specs.declared.conditions.Layer.TheVariants as layer
use Rattle.mintc_sdf_tokens.specs.Tokens.{Token, opening, closing, word, string, bad, tokens_of}
use Rattle.mintc_sdf_tokens.specs.Items.{Items, none, leaf, quoted, list, spell, Front, items, after}
use Rattle.mintc_sdf_tokens.specs.Words.{is_key}
use Rattle.mintc_sdf_tokens.specs.Reading.{after_opening, after_closing, word_at, mark_of, inside, inside_by, with_rest}
use Rattle.mintc_sdf_tokens.specs.Conditions.{kind_of, condition_at}
use Rattle.mintc_sdf_tokens.specs.Laws.{AreReadBack, AreWritten}
use Rattle.mintc_sdf_tokens.proofs.SharedInsideLaws.{word-next, inside-shorter}
use Rattle.mintc_sdf_tokens.proofs.SharedConditionLaws.{layer-word}
use Rattle.mintc_sdf.specs.declared.delays.Delay.{Delay}
use Rattle.mintc_sdf.specs.Texts.{Progress as Known, entries, whole, is_end, after_head, said_behind, reading, delays_of, start as known}
use Rattle.mintc_sdf_edges.specs.Telling.{Progress, plain, item, is_block, after_items, after_list}
use Rattle.mintc_sdf_edges.specs.Texts.{start, told_behind, told_in}
use Rattle.mintc_sdf_edges.specs.Walking.{spelled, after_rows, IsOn, IsEntered}

-- distinct keywords
pub keys-differ : (a b w : List ℕ) → is_key a w ≡ true → is_key b w ≡ bytes_eq (str_to_ascii_lowercase a) (str_to_ascii_lowercase b)
keys-differ a b w e = ap (λ l. bytes_eq l (str_to_ascii_lowercase b)) ((bytes_eq-Decides (str_to_ascii_lowercase w) (str_to_ascii_lowercase a)).0 e)

-- What a form gives of a list whose items are known

read-inside : {A : Type 0} → AreReadBack → (f : Items → Option A) (inner : Items) (rows : List Items) (ts : List Token) → ts ≡ spelled (inner ∷ rows) → inside f ts ≡ option_map (with_rest (spelled rows)) (f inner)
unfolding spelled
read-inside reads f inner rows ts e = ap (inside f) e ∙ ap (λ (x : Front). inside_by f x.items x.after) (reads inner (spelled rows))

pub inside-gives : {A : Type 0} → AreReadBack → (f : Items → Option A) (inner : Items) (rows : List Items) (ts rest : List Token) (a : A) → ts ≡ spelled (inner ∷ rows) → inside f ts ≡ Some (a, rest) →
    (f inner ≡ Some a) × (rest ≡ spelled rows)
inside-gives {A} reads f inner rows ts rest a e g = by (f inner) (sym (read-inside reads f inner rows ts e) ∙ g)
  where
    by : (o : Option A) → option_map (with_rest (spelled rows)) o ≡ Some (a, rest) → (o ≡ Some a) × (rest ≡ spelled rows)
    by None h = absurd (cc)
    by (Some x) h = let same : (x, spelled rows) ≡ (a, rest) = cc in (ap (λ (p : A × List Token). Some p.0) same, sym (ap (λ (p : A × List Token). p.1) same))

pub inside-hides : {A : Type 0} → AreReadBack → (f : Items → Option A) (inner : Items) (rows : List Items) (ts : List Token) → ts ≡ spelled (inner ∷ rows) → inside f ts ≡ None → f inner ≡ None
inside-hides {A} reads f inner rows ts e g = by (f inner) (sym (read-inside reads f inner rows ts e) ∙ g)
  where
    by : (o : Option A) → option_map (with_rest (spelled rows)) o ≡ None → o ≡ None
    by None h = refl
    by (Some x) h = absurd (cc)

-- The keyword of a list

pub no-word : (p : Progress) (inner : Items) (rows : List Items) (ts : List Token) → ts ≡ spelled (inner ∷ rows) → word_at ts ≡ None → after_list p inner ≡ None
unfolding spelled spell after_list
no-word p (leaf w is) rows ts e f = absurd (cc (sym (ap word_at e) ∙ f))
no-word p none rows ts e f = refl
no-word p (quoted w is) rows ts e f = refl
no-word p (list inner is) rows ts e f = refl

abbrev IsKeyed : List ℕ → Items → List Items → List Token → Type 0
IsKeyed k inner rows rest = (is : Items) × (inner ≡ leaf k is) × (rest ≡ spelled (is ∷ rows))

pub word-there : (k : List ℕ) (inner : Items) (rows : List Items) (ts rest : List Token) → ts ≡ spelled (inner ∷ rows) → word_at ts ≡ Some (k, rest) → IsKeyed k inner rows rest
unfolding spelled spell
word-there k (leaf w is) rows ts rest e f =
    let g : Some (w, spelled (is ∷ rows)) ≡ Some (k, rest) = sym (ap word_at e) ∙ f in
    let same : (w, spelled (is ∷ rows)) ≡ (k, rest) = cc in
    (is, ap (λ (p : List ℕ × List Token). leaf p.0 is) same, sym (ap (λ (p : List ℕ × List Token). p.1) same))
word-there k none rows ts rest e f = absurd (cc (sym (ap word_at e) ∙ f))
word-there k (quoted w is) rows ts rest e f = absurd (cc (sym (ap word_at e) ∙ f))
word-there k (list inner is) rows ts rest e f = absurd (cc (sym (ap word_at e) ∙ f))

pub block-entered : (p : Progress) (k : List ℕ) (inner : Items) (rows : List Items) (rest : List Token) → IsKeyed k inner rows rest → is_block k ≡ true → IsEntered p inner rows p rest
unfolding after_list
block-entered p k inner rows rest keyed b = (
  keyed.0 ∷ rows,
  keyed.2,
  ap (λ is. option_and_then (λ q. after_rows q rows) (after_list p is)) keyed.1
      ∙ ap (λ v. option_and_then (λ q. after_rows q rows) (if v then after_items p keyed.0 else item p (leaf k keyed.0))) b,
)

-- a list that is no block
other-list : (p : Progress) (k : List ℕ) (is : Items) → is_block k ≡ false → after_list p (leaf k is) ≡ item p (leaf k is)
unfolding after_list
other-list p k is b = ap (λ v. if v then after_items p is else item p (leaf k is)) b

plain-list : (p : Progress) (k : List ℕ) (is : Items) → is_key (codes "COND") k ≡ false → is_key (codes "CONDELSE") k ≡ false → item p (leaf k is) ≡ plain p k is
unfolding item
plain-list p k is f g = rw (f, g) refl

entered : (p q : Progress) (inner : Items) (rows : List Items) (rest : List Token) → after_list p inner ≡ Some q → rest ≡ spelled rows → IsEntered p inner rows q rest
entered p q inner rows rest e f = (rows, f, ap (option_and_then (λ q. after_rows q rows)) e)

pub plain-entered : AreReadBack → (p q : Progress) (k : List ℕ) (inner : Items) (rows : List Items) (next rest : List Token) → IsKeyed k inner rows next → is_block k ≡ false →
    is_key (codes "COND") k ≡ false → is_key (codes "CONDELSE") k ≡ false → inside (plain p k) next ≡ Some (q, rest) → IsEntered p inner rows q rest
plain-entered reads p q k inner rows next rest keyed b f g h =
    let v = inside-gives reads (plain p k) keyed.0 rows next rest q keyed.2 h in
    entered p q inner rows rest (ap (after_list p) keyed.1 ∙ other-list p k keyed.0 b ∙ plain-list p k keyed.0 f g ∙ v.0) v.1

pub plain-lost : AreReadBack → (p : Progress) (k : List ℕ) (inner : Items) (rows : List Items) (next : List Token) → IsKeyed k inner rows next → is_block k ≡ false →
    is_key (codes "COND") k ≡ false → is_key (codes "CONDELSE") k ≡ false → inside (plain p k) next ≡ None → after_list p inner ≡ None
plain-lost reads p k inner rows next keyed b f g h =
    ap (after_list p) keyed.1 ∙ other-list p k keyed.0 b ∙ plain-list p k keyed.0 f g ∙ inside-hides reads (plain p k) keyed.0 rows next keyed.2 h

-- what is passed gets shorter
pub plain-shorter : (p q : Progress) (k : List ℕ) (ts next rest : List Token) → word_at ts ≡ Some (k, next) → inside (plain p k) next ≡ Some (q, rest) → length rest < length ts
plain-shorter p q k ts next rest e f = omega (arith, inside-shorter (plain p k) next q rest f, ap length (word-next ts k next e))

-- a condition is no block
no-block : (k : List ℕ) (l : Layer) → kind_of true k ≡ Some l → is_block k ≡ false
no-block k l e = by (is_key (codes "COND") k) refl (is_key (codes "CONDELSE") k) refl e
  where
    by : (a : Bool) → is_key (codes "COND") k ≡ a → (b : Bool) → is_key (codes "CONDELSE") k ≡ b → (if a then Some layer.Any else (if b then Some layer.Empty else None)) ≡ Some l → is_block k ≡ false
    by true f b g h =
        rw (keys-differ (codes "COND") (codes "CELL") k f, keys-differ (codes "COND") (codes "DELAY") k f, keys-differ (codes "COND") (codes "ABSOLUTE") k f, keys-differ (codes "COND") (codes "TIMINGCHECK") k f) refl
    by false f true g h =
        rw (keys-differ (codes "CONDELSE") (codes "CELL") k g, keys-differ (codes "CONDELSE") (codes "DELAY") k g, keys-differ (codes "CONDELSE") (codes "ABSOLUTE") k g, keys-differ (codes "CONDELSE") (codes "TIMINGCHECK") k g) refl
    by false f false g h = absurd (cc)

condition-list : (p : Progress) (inner : Items) (rows : List Items) (ts next : List Token) (l : Layer) → ts ≡ spelled (inner ∷ rows) → condition_at true ts ≡ Some (l, next) → after_list p inner ≡ item p inner
condition-list p inner rows ts next l e f =
    let w = layer-word true ts next l f in
    let keyed = word-there w.0 inner rows ts next e (ap word_at w.1) in
    ap (after_list p) keyed.1 ∙ other-list p w.0 keyed.0 (no-block w.0 l w.2) ∙ sym (ap (item p) keyed.1)

pub condition-entered : AreReadBack → (p q : Progress) (inner : Items) (rows : List Items) (ts next rest : List Token) (l : Layer) → ts ≡ spelled (inner ∷ rows) → condition_at true ts ≡ Some (l, next) →
    inside (item p) ts ≡ Some (q, rest) → IsEntered p inner rows q rest
condition-entered reads p q inner rows ts next rest l e f g =
    let v = inside-gives reads (item p) inner rows ts rest q e g in
    entered p q inner rows rest (condition-list p inner rows ts next l e f ∙ v.0) v.1

pub condition-lost : AreReadBack → (p : Progress) (inner : Items) (rows : List Items) (ts next : List Token) (l : Layer) → ts ≡ spelled (inner ∷ rows) → condition_at true ts ≡ Some (l, next) →
    inside (item p) ts ≡ None → after_list p inner ≡ None
condition-lost reads p inner rows ts next l e f g = condition-list p inner rows ts next l e f ∙ inside-hides reads (item p) inner rows ts e g

-- One step

pub closed : (p : Progress) (rows : List Items) (ts next : List Token) → ts ≡ spelled rows → after_closing ts ≡ Some next → IsOn p rows p next
unfolding spelled spell after_items
closed p [] ts next e f = absurd (cc (sym (ap after_closing e) ∙ f))
closed p (none ∷ rows) ts next e f =
    let g : Some (spelled rows) ≡ Some next = sym (ap after_closing e) ∙ f in
    let same : spelled rows ≡ next = cc in
    (rows, sym same, refl)
closed p (leaf w is ∷ rows) ts next e f = absurd (cc (sym (ap after_closing e) ∙ f))
closed p (quoted w is ∷ rows) ts next e f = absurd (cc (sym (ap after_closing e) ∙ f))
closed p (list inner is ∷ rows) ts next e f = absurd (cc (sym (ap after_closing e) ∙ f))

pub stopped : (p : Progress) (rows : List Items) (ts : List Token) → ts ≡ spelled rows → (mark_of ts ≡ mark.End → ⊥) → after_closing ts ≡ None → after_opening ts ≡ None → after_rows p rows ≡ None
unfolding spelled spell after_items
stopped p [] ts e n f g = absurd (n (ap mark_of e))
stopped p (none ∷ rows) ts e n f g = absurd (cc (sym (ap after_closing e) ∙ f))
stopped p (leaf w is ∷ rows) ts e n f g = refl
stopped p (quoted w is ∷ rows) ts e n f g = refl
stopped p (list inner is ∷ rows) ts e n f g = absurd (cc (sym (ap after_opening e) ∙ g))

abbrev IsOpened : List Items → List Token → Type 0
IsOpened rows next = (inner is : Items) × (more : List Items) × (rows ≡ list inner is ∷ more) × (next ≡ spelled (inner ∷ is ∷ more))

pub opened-row : (rows : List Items) (ts next : List Token) → ts ≡ spelled rows → after_opening ts ≡ Some next → IsOpened rows next
unfolding spelled spell
opened-row [] ts next e f = absurd (cc (sym (ap after_opening e) ∙ f))
opened-row (none ∷ rows) ts next e f = absurd (cc (sym (ap after_opening e) ∙ f))
opened-row (leaf w is ∷ rows) ts next e f = absurd (cc (sym (ap after_opening e) ∙ f))
opened-row (quoted w is ∷ rows) ts next e f = absurd (cc (sym (ap after_opening e) ∙ f))
opened-row (list inner is ∷ rows) ts next e f =
    let g : Some ((spell inner ++ closing ∷ spell is) ++ closing ∷ spelled rows) ≡ Some next = sym (ap after_opening e) ∙ f in
    let same : (spell inner ++ closing ∷ spell is) ++ closing ∷ spelled rows ≡ next = cc in
    (inner, is, rows, refl, sym same ∙ append_assoc (spell inner) (closing ∷ spell is) (closing ∷ spelled rows))

then-then : {A B C : Type 0} (f : A → Option B) (g : B → Option C) (o : Option A) → option_and_then g (option_and_then f o) ≡ option_and_then (λ a. option_and_then g (f a)) o
then-then f g None = refl
then-then f g (Some a) = refl

rows-list : (p : Progress) (inner is : Items) (rows : List Items) → after_rows p (list inner is ∷ rows) ≡ option_and_then (λ q. after_rows q (is ∷ rows)) (after_list p inner)
unfolding after_items
rows-list p inner is rows = then-then (λ q. after_items q is) (λ q. after_rows q rows) (after_list p inner)

pub opened-on : (p q : Progress) (rows : List Items) (next ts : List Token) → (o : IsOpened rows next) → IsEntered p o.0 (o.1 ∷ o.2) q ts → IsOn p rows q ts
opened-on p q rows next ts o h = (h.0, h.1, ap (after_rows p) o.3 ∙ rows-list p o.0 o.1 o.2 ∙ h.2)

pub opened-lost : (p : Progress) (rows : List Items) (next : List Token) → (o : IsOpened rows next) → after_list p o.0 ≡ None → after_rows p rows ≡ None
opened-lost p rows next o e = ap (after_rows p) o.3 ∙ rows-list p o.0 o.1 o.2 ∙ ap (option_and_then (λ q. after_rows q (o.1 ∷ o.2))) e

-- The whole walk

pub on-start : (p : Progress) (rows : List Items) (ts : List Token) → ts ≡ spelled rows → IsOn p rows p ts
on-start p rows ts e = (rows, e, refl)

pub on-step : (p q r : Progress) (rows : List Items) (ts us : List Token) → (h : IsOn p rows q ts) → IsOn q h.0 r us → IsOn p rows r us
on-step p q r rows ts us h g = (g.0, g.1, h.2 ∙ g.2)

pub on-end : (p q : Progress) (rows : List Items) (ts : List Token) → IsOn p rows q ts → mark_of ts ≡ mark.End → after_rows p rows ≡ Some q
unfolding spelled spell
on-end p q rows ts h e = by h.0 h.1 h.2
  where
    by : (left : List Items) → ts ≡ spelled left → after_rows p rows ≡ after_rows q left → after_rows p rows ≡ Some q
    by [] f g = g
    by (none ∷ more) f g = absurd (cc (sym (ap mark_of f) ∙ e))
    by (leaf w is ∷ more) f g = absurd (cc (sym (ap mark_of f) ∙ e))
    by (quoted w is ∷ more) f g = absurd (cc (sym (ap mark_of f) ∙ e))
    by (list inner is ∷ more) f g = absurd (cc (sym (ap mark_of f) ∙ e))

-- The text

-- a text with delays ends behind its items
pub ends : (text : List ℕ) (ds : List Delay) (ts : List Token) → delays_of text ≡ Ok ds → after_head (tokens_of text) ≡ Some ts → after ts ≡ closing ∷ []
ends text ds ts e f = last (after ts) (by (is_end (after ts)) (entries 1 known (items ts)) (sym (ap (λ o. reading (said_behind o)) f) ∙ e))
  where
    by : (b : Bool) (r : Result (ℕ × Known) ℕ) → reading (whole b r) ≡ Ok ds → b ≡ true
    by true r g = refl
    by false (Ok r) g = absurd (cc)
    by false (Err n) g = absurd (cc)

    last : (us : List Token) → is_end us ≡ true → us ≡ closing ∷ []
    last (closing ∷ []) g = refl
    last [] g = absurd (cc)
    last (closing ∷ u ∷ us) g = absurd (cc)
    last (opening ∷ us) g = absurd (cc)
    last (word w ∷ us) g = absurd (cc)
    last (string w ∷ us) g = absurd (cc)
    last (bad ∷ us) g = absurd (cc)

pub written-out : AreWritten → (ts : List Token) → after ts ≡ closing ∷ [] → ts ≡ spelled (items ts ∷ [])
unfolding spelled
written-out writes ts e = writes ts ∙ ap (λ l. spell (items ts) ++ l) e

one-row : (p : Progress) (is : Items) → after_rows p (is ∷ []) ≡ after_items p is
one-row p is = by (after_items p is)
  where
    by : (o : Option Progress) → option_and_then (λ q. Some q) o ≡ o
    by None = refl
    by (Some q) = refl

pub no-head : (text : List ℕ) (ds : List Delay) → after_head (tokens_of text) ≡ None → told_in text ds ≡ None
no-head text ds e = ap (option_and_then (told_behind ds)) e

pub told-none : (text : List ℕ) (ds : List Delay) (ts : List Token) → after_head (tokens_of text) ≡ Some ts → after_rows (start ds) (items ts ∷ []) ≡ None → told_in text ds ≡ None
told-none text ds ts e f = ap (option_and_then (told_behind ds)) e ∙ ap (option_map (λ (p : Progress). p.found)) (sym (one-row (start ds) (items ts)) ∙ f)

pub told-some : (text : List ℕ) (ds : List Delay) (ts : List Token) (p : Progress) → after_head (tokens_of text) ≡ Some ts → after_rows (start ds) (items ts ∷ []) ≡ Some p → told_in text ds ≡ Some p.found
told-some text ds ts p e f = ap (option_and_then (told_behind ds)) e ∙ ap (option_map (λ (p : Progress). p.found)) (sym (one-row (start ds) (items ts)) ∙ f)
