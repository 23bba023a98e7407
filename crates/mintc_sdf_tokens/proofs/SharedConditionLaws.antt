-- Conditions: what the walk finds is what the forms speak of.
use Rattle.std.proofs.Common.{◌≡◌, ℕ, zero, suc, ◌≤◌, nat_lt, Bool, true, false, if◌then◌else◌, List, [], ◌∷◌, ◌++◌, length, get_or, Option, Some, None, option_map, option_and_then, refl, sym, ap, subst, ◌∙◌, arith, append_assoc, length-append, le-ltb, lt-ltb}
use Rattle.std.proofs.Math.Seq.{take-append_seam, get_or-append_seam}
use Rattle.mintc_sdf_tokens.specs.declared.conditions.Layer.{Layer}
use Rattle.mintc_sdf_tokens.specs.declared.conditions.Layer.TheVariants as layer
use Rattle.mintc_sdf_tokens.specs.Tokens.{Token, opening, closing, word, string, bad}
use Rattle.mintc_sdf_tokens.specs.Items.{Items, none, leaf, quoted, list, is_none, count, items, after, fronts}
use Rattle.mintc_sdf_tokens.specs.Reading.{after_opening, after_closing, inside, inside_by, with_rest, passing}
use Rattle.mintc_sdf_tokens.specs.Conditions.{kind_of, condition_at, more, is_over, has_over, noted, at_end, if_condition, walked}
use Rattle.mintc_sdf_tokens.proofs.ItemLaws.{after-shorter, passed-list}
use Rattle.mintc_sdf_tokens.proofs.SharedInsideLaws.{opened, unopened, inside-open, inside-none, closing-next}

-- where the walk stands in a condition
at-seam : (pre any : List Layer) (l : Layer) → nat_lt (length pre) (length (pre ++ l ∷ any)) ≡ true
at-seam pre any l = lt-ltb _ _ (omega (arith, length-append pre (l ∷ any)))

noted-seam : (pre any : List Layer) (l : Layer) → noted (length pre) (pre ++ l ∷ any) ≡ pre ++ more l ∷ []
noted-seam pre any l =
    ap (λ ls. ls ++ more (get_or (pre ++ l ∷ any) (length pre) layer.Any) ∷ []) (take-append_seam pre (l ∷ any))
    ∙ ap (λ k. pre ++ more k ∷ []) (get_or-append_seam pre l any layer.Any)

-- a keyword that opens a condition
pub layer-word : (both : Bool) (ts rest : List Token) (l : Layer) → condition_at both ts ≡ Some (l, rest) → (k : List ℕ) × (ts ≡ word k ∷ rest) × (kind_of both k ≡ Some l)
layer-word both (word k ∷ ts) rest l e = by (kind_of both k) refl e
  where
    by : (o : Option Layer) → kind_of both k ≡ o → option_map (with_rest ts) o ≡ Some (l, rest) → (j : List ℕ) × (word k ∷ ts ≡ word j ∷ rest) × (kind_of both j ≡ Some l)
    by None f g = absurd (cc)
    by (Some m) f g =
        let same : (m, ts) ≡ (l, rest) = cc in
        (k, ap (λ (p : Layer × List Token). word k ∷ p.1) same, f ∙ ap (λ (p : Layer × List Token). Some p.0) same)
layer-word both _ rest l e = absurd (cc)

-- what the start of something changes, where it is an item and where it is none
abbrev noted_if : Bool → ℕ → List Layer → List Layer
noted_if b d ls = if b then noted d ls else ls

abbrev last_if : Bool → List Token → Option (List Token) → Option (List Token)
last_if b here last = if b then Some here else last

-- what an opening parenthesis does
pub step-in : (both : Bool) (ls : List Layer) (t : Option (List Token)) (d : ℕ) (l : Layer) (ts rest : List Token) → nat_lt d (length ls) ≡ true → condition_at both ts ≡ Some (l, rest) →
    walked both ls t d (opening ∷ ts) ≡ walked both (noted d ls ++ l ∷ []) None (suc d) rest
step-in both ls t d l ts rest b e = let w = layer-word both ts rest l e in rw (w.1, w.2, b) refl

pub step-last : (both : Bool) (ls : List Layer) (t : Option (List Token)) (d : ℕ) (ts : List Token) → nat_lt d (length ls) ≡ true → condition_at both ts ≡ None →
    walked both ls t d (opening ∷ ts) ≡ walked both (noted d ls) (Some (opening ∷ ts)) (suc d) ts
step-last both ls t d (word k ∷ ts) b e = grind (arith, b, e)
step-last both ls t d ts b e = ap (λ b. walked both (noted_if b d ls) (last_if b (opening ∷ ts) t) (suc d) ts) b

pub step-off : (both : Bool) (ls : List Layer) (t : Option (List Token)) (d : ℕ) (ts : List Token) → nat_lt d (length ls) ≡ false →
    walked both ls t d (opening ∷ ts) ≡ walked both ls t (suc d) ts
step-off both ls t d (word k ∷ ts) b = grind (arith, b)
step-off both ls t d ts b = ap (λ b. walked both (noted_if b d ls) (last_if b (opening ∷ ts) t) (suc d) ts) b

-- what a word or a string does
pub step-word : (both b : Bool) (ls : List Layer) (t : Option (List Token)) (d : ℕ) (w : List ℕ) (ts : List Token) → nat_lt d (length ls) ≡ b →
    walked both ls t d (word w ∷ ts) ≡ walked both (noted_if b d ls) (last_if b (word w ∷ ts) t) d ts
step-word both b ls t d w ts e = ap (λ b. walked both (noted_if b d ls) (last_if b (word w ∷ ts) t) d ts) e

pub step-string : (both b : Bool) (ls : List Layer) (t : Option (List Token)) (d : ℕ) (w : List ℕ) (ts : List Token) → nat_lt d (length ls) ≡ b →
    walked both ls t d (string w ∷ ts) ≡ walked both (noted_if b d ls) (last_if b (string w ∷ ts) t) d ts
step-string both b ls t d w ts e = ap (λ b. walked both (noted_if b d ls) (last_if b (string w ∷ ts) t) d ts) e

-- inside of an item that is no condition nothing is noted
quiet : (n d : ℕ) (both : Bool) (ls : List Layer) (t : Option (List Token)) (ts : List Token) → length ls ≤ d → length ts ≤ n → walked both ls t d ts ≡ walked both ls t d (after ts)
unfolding fronts
quiet n d both ls t [] g h = refl
quiet n d both ls t (bad ∷ ts) g h = refl
quiet n d both ls t (closing ∷ ts) g h = refl
quiet (suc n) d both ls t (word w ∷ ts) g h = step-word both false ls t d w ts (le-ltb d (length ls) g) ∙ quiet n d both ls t ts g (omega arith)
quiet (suc n) d both ls t (string w ∷ ts) g h = step-string both false ls t d w ts (le-ltb d (length ls) g) ∙ quiet n d both ls t ts g (omega arith)
quiet (suc n) d both ls t (opening ∷ ts) g h =
    by (after ts) refl (step-off both ls t d ts (le-ltb d (length ls) g) ∙ quiet n (suc d) both ls t ts (omega arith) (omega arith))
    (λ r less. quiet n d both ls t r g less)
  where
    by : (af : List Token) → after ts ≡ af → walked both ls t d (opening ∷ ts) ≡ walked both ls t (suc d) (after ts) →
        ((r : List Token) → length r ≤ n → walked both ls t d r ≡ walked both ls t d (after r)) → walked both ls t d (opening ∷ ts) ≡ walked both ls t d (after (opening ∷ ts))
    by (closing ∷ r) k same go =
        let size : length (after ts) ≡ suc (length r) = ap length k in
        same ∙ ap (walked both ls t (suc d)) k ∙ go r (omega (arith, after-shorter ts, size)) ∙ ap (walked both ls t d) (sym (opened ts r k).1)
    by _ k same go = ap (walked both ls t d) (sym (unopened ts (ap after_closing k)).1)
quiet zero d both ls t _ g h = absurd (omega arith)

-- What is found, by what forms give: `lst` of the last item of some, `at` of an item that is no condition.
unfoldable pub more_by : ℕ → Layer → Layer
more_by zero l = l
more_by (suc n) l = more_by n (more l)

pub more-any : (n : ℕ) → more_by n layer.Any ≡ layer.Any
unfolding more_by
more-any zero = refl
more-any (suc n) = more-any n

pub more-over : (n : ℕ) → more_by n layer.Over ≡ layer.Over
unfolding more_by
more-over zero = refl
more-over (suc n) = more-over n

abbrev pub limited : {A : Type 0} → Layer → Option A → Option A
limited l o = if is_over l then None else o

abbrev pub value : {A : Type 0} → (Items → Option A) → List Layer → Option (List Token) → Option A
value at ls t = if has_over ls then None else option_and_then (λ s. at (items s)) t

pub record Form {A : Type 0} (both : Bool) (lst at : Items → Option A) : Type 0 where
  pub nothing : lst none ≡ None
  pub leaf-is : (w : List ℕ) (is : Items) → lst (leaf w is) ≡ (if is_none is then at (leaf w is) else lst is)
  pub quoted-is : (w : List ℕ) (is : Items) → lst (quoted w is) ≡ (if is_none is then at (quoted w is) else lst is)
  pub list-is : (inner is : Items) → lst (list inner is) ≡ (if is_none is then at (list inner is) else lst is)
  pub kind-is : (k : List ℕ) (js is : Items) (l : Layer) → kind_of both k ≡ Some l → at (list (leaf k js) is) ≡ limited (more_by (count js) l) (lst js)

abbrev Walks : {A : Type 0} → Bool → (Items → Option A) → (Items → Option A) → List Layer → Layer → List Layer → Option (List Token) → List Token → List Token → Type 0
Walks both lst at pre l any t ts rest =
    (ls : List Layer) × (u : Option (List Token))
    × (walked both (pre ++ l ∷ any) t (length pre) ts ≡ walked both (pre ++ more_by (count (items ts)) l ∷ ls) u (length pre) (closing ∷ rest))
    × (value at ls u ≡ (if is_none (items ts) then value at any t else lst (items ts)))

-- one item more in front
front-more : {A : Type 0} (both : Bool) (lst at : Items → Option A) (pre : List Layer) (l : Layer) (any one : List Layer) (t s : Option (List Token)) (here next rest : List Token) (put : Items → Items) →
    items here ≡ put (items next) → ((is : Items) → is_none (put is) ≡ false) → ((is : Items) → count (put is) ≡ suc (count is)) →
    lst (put (items next)) ≡ (if is_none (items next) then value at one s else lst (items next)) →
    walked both (pre ++ l ∷ any) t (length pre) here ≡ walked both (pre ++ more l ∷ one) s (length pre) next →
    Walks both lst at pre (more l) one s next rest → Walks both lst at pre l any t here rest
unfolding more_by
front-more both lst at pre l any one t s here next rest put i some size last same w = (
  w.0,
  w.1,
  same ∙ w.2
      ∙ ap (λ m. walked both (pre ++ m ∷ w.0) w.1 (length pre) (closing ∷ rest)) (sym (ap (λ is. more_by (count is) l) i ∙ ap (λ n. more_by n l) (size (items next)))),
  w.3 ∙ sym last ∙ sym (ap lst i)
      ∙ sym (ap (λ b. if b then value at any t else lst (items here)) (ap is_none i ∙ some (items next))),
)

over-first : {A : Type 0} (at : Items → Option A) (l : Layer) (ls : List Layer) (t : Option (List Token)) → value at (l ∷ ls) t ≡ limited l (value at ls t)
over-first at l ls t = grind arith

none-first : {A : Type 0} (lst : Items → Option A) (is : Items) → lst none ≡ None → (if is_none is then None else lst is) ≡ lst is
none-first lst is e = grind (arith, e)

walks : {A : Type 0} (both : Bool) (lst at : Items → Option A) → Form both lst at → (n : ℕ) (pre : List Layer) (l : Layer) (any : List Layer) (t : Option (List Token)) (ts rest : List Token) →
    length ts ≤ n → after ts ≡ closing ∷ rest → Walks both lst at pre l any t ts rest
unfolding fronts more_by
walks both lst at form n pre l any t [] rest h e = absurd (cc)
walks both lst at form n pre l any t (bad ∷ ts) rest h e = absurd (cc)
walks both lst at form n pre l any t (closing ∷ ts) rest h e = (any, t, ap (walked both (pre ++ l ∷ any) t (length pre)) e, refl)
walks both lst at form (suc n) pre l any t (word w ∷ ts) rest h e =
    front-more both lst at pre l any [] t (Some (word w ∷ ts)) (word w ∷ ts) ts rest (leaf w) refl (λ is. refl) (λ is. refl) (form.leaf-is w (items ts))
    (step-word both true (pre ++ l ∷ any) t (length pre) w ts (at-seam pre any l) ∙ ap (λ ls. walked both ls (Some (word w ∷ ts)) (length pre) ts) (noted-seam pre any l))
    (walks both lst at form n pre (more l) [] (Some (word w ∷ ts)) ts rest (omega arith) e)
walks both lst at form (suc n) pre l any t (string w ∷ ts) rest h e =
    front-more both lst at pre l any [] t (Some (string w ∷ ts)) (string w ∷ ts) ts rest (quoted w) refl (λ is. refl) (λ is. refl) (form.quoted-is w (items ts))
    (step-string both true (pre ++ l ∷ any) t (length pre) w ts (at-seam pre any l) ∙ ap (λ ls. walked both ls (Some (string w ∷ ts)) (length pre) ts) (noted-seam pre any l))
    (walks both lst at form n pre (more l) [] (Some (string w ∷ ts)) ts rest (omega arith) e)
walks {A} both lst at form (suc n) pre l any t (opening ∷ ts) rest h e =
    by (after ts) refl (λ p m one s r less f. walks both lst at form n p m one s r rest less f) (λ p m us r less f. walks both lst at form n p m [] None us r less f)
  where
    here : List Token
    here = opening ∷ ts

    differ : opening ∷ ts ≡ closing ∷ rest → ⊥
    differ f = cc

    plain : (r : List Token) → after ts ≡ closing ∷ r → condition_at both ts ≡ None → Walks both lst at pre (more l) [] (Some (opening ∷ ts)) r rest → Walks both lst at pre l any t (opening ∷ ts) rest
    plain r k f w =
        let o = opened ts r k in
        let size : length (pre ++ more l ∷ []) ≤ suc (length pre) = omega (arith, length-append pre (more l ∷ [])) in
        front-more both lst at pre l any [] t (Some (opening ∷ ts)) (opening ∷ ts) r rest (list (items ts)) o.0 (λ is. refl) (λ is. refl)
        (form.list-is (items ts) (items r) ∙ ap (λ is. if is_none (items r) then at is else lst (items r)) (sym o.0))
        (
        step-last both (pre ++ l ∷ any) t (length pre) ts (at-seam pre any l) f
        ∙ ap (λ ls. walked both ls (Some (opening ∷ ts)) (suc (length pre)) ts) (noted-seam pre any l)
        ∙ quiet (length ts) (suc (length pre)) both (pre ++ more l ∷ []) (Some (opening ∷ ts)) ts size (omega arith)
        ∙ ap (walked both (pre ++ more l ∷ []) (Some (opening ∷ ts)) (suc (length pre))) k
        )
        w

    inner : (r us : List Token) (m : Layer) → after ts ≡ closing ∷ r → condition_at both ts ≡ Some (m, us) → (w : Walks both lst at (pre ++ more l ∷ []) m [] None us r) →
        ((one : List Layer) (s : Option (List Token)) → Walks both lst at pre (more l) one s r rest) → Walks both lst at pre l any t (opening ∷ ts) rest
    inner r us m k f w go =
        let o = opened ts r k in
        let word = layer-word both ts us m f in
        let is = ap items word.1 in
        let long : length (pre ++ more l ∷ []) ≡ suc (length pre) = omega (arith, length-append pre (more l ∷ [])) in
        let last = more_by (count (items us)) m in
        let given = over-first at last w.0 w.1 ∙ ap (limited last) (w.3 ∙ none-first lst (items us) form.nothing) in
        front-more both lst at pre l any (last ∷ w.0) t w.1 (opening ∷ ts) r rest (list (items ts)) o.0 (λ is. refl) (λ is. refl)
        (
        form.list-is (items ts) (items r)
        ∙ ap (λ x. if is_none (items r) then x else lst (items r)) (ap (λ j. at (list j (items r))) is ∙ form.kind-is word.0 (items us) (items r) m word.2 ∙ sym given)
        )
        (
        step-in both (pre ++ l ∷ any) t (length pre) m ts us (at-seam pre any l) f
        ∙ ap (λ ls. walked both (ls ++ m ∷ []) None (suc (length pre)) us) (noted-seam pre any l)
        ∙ ap (λ d. walked both ((pre ++ more l ∷ []) ++ m ∷ []) None d us) (sym long)
        ∙ w.2
        ∙ ap (λ d. walked both ((pre ++ more l ∷ []) ++ last ∷ w.0) w.1 d (closing ∷ r)) long
        ∙ ap (λ ls. walked both ls w.1 (length pre) r) (append_assoc pre (more l ∷ []) (last ∷ w.0))
        )
        (go (last ∷ w.0) w.1)

    by : (af : List Token) → after ts ≡ af →
        ((p : List Layer) (m : Layer) (one : List Layer) (s : Option (List Token)) (r : List Token) → length r ≤ n → after r ≡ closing ∷ rest → Walks both lst at p m one s r rest) →
        ((p : List Layer) (m : Layer) (us r : List Token) → length us ≤ n → after us ≡ closing ∷ r → Walks both lst at p m [] None us r) →
        Walks both lst at pre l any t (opening ∷ ts) rest
    by (closing ∷ r) k go down = kind (condition_at both ts) refl
      where
        size : length (after ts) ≡ suc (length r)
        size = ap length k

        less : length r ≤ n
        less = omega (arith, after-shorter ts, size, h)

        end : after r ≡ closing ∷ rest
        end = sym (opened ts r k).1 ∙ e

        kind : (o : Option (Layer × List Token)) → condition_at both ts ≡ o → Walks both lst at pre l any t (opening ∷ ts) rest
        kind None f = plain r k f (go pre (more l) [] (Some (opening ∷ ts)) r less end)
        kind (Some p) f =
            let word = layer-word both ts p.1 p.0 f in
            let long : length ts ≡ suc (length p.1) = ap length word.1 in
            inner r p.1 p.0 k f (down (pre ++ more l ∷ []) p.0 p.1 r (omega (arith, long, h)) (sym (ap after word.1) ∙ k)) (λ one s. go pre (more l) one s r less end)
    by _ k go down = absurd (differ (sym (unopened ts (ap after_closing k)).1 ∙ e))
walks both lst at form zero pre l any t _ rest h e = absurd (omega arith)

-- The walk ends at the parenthesis that closes the outermost condition, and what it finds is no condition.
abbrev pub Plain : Bool → List Token → Type 0
Plain both ts = (next : List Token) → after_opening ts ≡ Some next → condition_at both next ≡ None

abbrev PlainIf : Bool → Option (List Token) → Type 0
PlainIf both None = Unit {0}
PlainIf both (Some ts) = Plain both ts

abbrev Passes : Bool → Option (List Token) → ℕ → List Token → Option (List Token × List Token) → List Token → List Token → Type 0
Passes both t d ts o start rest = o ≡ Some (start, rest) → PlainIf both t → (passing d ts ≡ Some rest) × Plain both start

passes-end : (both : Bool) (ls : List Layer) (t : Option (List Token)) (ts start rest : List Token) → Passes both t 0 (closing ∷ ts) (at_end ls t ts) start rest
passes-end both ls t ts start rest = by (has_over ls) t
  where
    by : (b : Bool) (t : Option (List Token)) → (if b then None else option_map (with_rest ts) t) ≡ Some (start, rest) → PlainIf both t → (Some ts ≡ Some rest) × Plain both start
    by true t e p = absurd (cc)
    by false None e p = absurd (cc)
    by false (Some s) e p =
        let same : (s, ts) ≡ (start, rest) = cc in
        (ap (λ (x : List Token × List Token). Some x.1) same, subst (λ (x : List Token × List Token). Plain both x.0) same p)

passes-if : (both b : Bool) (t : Option (List Token)) (here : List Token) → Plain both here → PlainIf both t → PlainIf both (last_if b here t)
passes-if both b t here h p = grind (arith, h, p)

passes : (both : Bool) (ls : List Layer) (t : Option (List Token)) (d : ℕ) (ts start rest : List Token) → Passes both t d ts (walked both ls t d ts) start rest
passes both ls t d [] start rest e p = absurd (cc)
passes both ls t zero (closing ∷ ts) start rest e p = passes-end both ls t ts start rest e p
passes both ls t (suc d) (closing ∷ ts) start rest e p = passes both ls t d ts start rest e p
passes both ls t d (word w ∷ ts) start rest e p =
    passes both _ _ d ts start rest e (passes-if both (nat_lt d (length ls)) t (word w ∷ ts) (λ next f. absurd (cc)) p)
passes both ls t d (string w ∷ ts) start rest e p =
    passes both _ _ d ts start rest e (passes-if both (nat_lt d (length ls)) t (string w ∷ ts) (λ next f. absurd (cc)) p)
passes both ls t d (opening ∷ word k ∷ ts) start rest e p =
    by (nat_lt d (length ls)) (kind_of both k) refl e
    (λ l f. passes both (noted d ls ++ l ∷ []) None (suc d) ts start rest f tt)
    (λ b f q. passes both (noted_if b d ls) (last_if b (opening ∷ word k ∷ ts) t) (suc d) (word k ∷ ts) start rest f q)
  where
    here : List Token
    here = opening ∷ word k ∷ ts

    plain : kind_of both k ≡ None → Plain both (opening ∷ word k ∷ ts)
    plain f next g = let same : word k ∷ ts ≡ next = cc in ap (condition_at both) (sym same) ∙ ap (option_map (with_rest ts)) f

    by : (b : Bool) (o : Option Layer) → kind_of both k ≡ o →
        if_condition b o (λ l. walked both (noted d ls ++ l ∷ []) None (suc d) ts) (walked both (noted_if b d ls) (last_if b (opening ∷ word k ∷ ts) t) (suc d) (word k ∷ ts)) ≡ Some (start, rest) →
        ((l : Layer) → walked both (noted d ls ++ l ∷ []) None (suc d) ts ≡ Some (start, rest) → (passing (suc d) ts ≡ Some rest) × Plain both start) →
        ((b : Bool) → walked both (noted_if b d ls) (last_if b (opening ∷ word k ∷ ts) t) (suc d) (word k ∷ ts) ≡ Some (start, rest) → PlainIf both (last_if b (opening ∷ word k ∷ ts) t) → (passing (suc d) (word k ∷ ts) ≡ Some rest) × Plain both start) →
        (passing (suc d) ts ≡ Some rest) × Plain both start
    by true (Some l) f g inward other = inward l g
    by true None f g inward other = other true g (plain f)
    by false o f g inward other = other false g p
passes both ls t d (opening ∷ opening ∷ ts) start rest e p =
    passes both _ _ (suc d) (opening ∷ ts) start rest e (passes-if both (nat_lt d (length ls)) t (opening ∷ opening ∷ ts) (λ next f. let same : opening ∷ ts ≡ next = cc in ap (condition_at both) (sym same)) p)
passes both ls t d (opening ∷ closing ∷ ts) start rest e p =
    passes both _ _ (suc d) (closing ∷ ts) start rest e (passes-if both (nat_lt d (length ls)) t (opening ∷ closing ∷ ts) (λ next f. let same : closing ∷ ts ≡ next = cc in ap (condition_at both) (sym same)) p)
passes both ls t d (opening ∷ string s ∷ ts) start rest e p =
    passes both (noted_if (nat_lt d (length ls)) d ls) _ (suc d) (string s ∷ ts) start rest e (passes-if both (nat_lt d (length ls)) t (opening ∷ string s ∷ ts) (λ next f. let same : string s ∷ ts ≡ next = cc in ap (condition_at both) (sym same)) p)
passes both ls t d _ start rest e p = absurd (cc)

-- what is found, and what nothing is found of
shows : {A : Type 0} (at : Items → Option A) (b : Bool) (u : Option (List Token)) (r start rest : List Token) → (if b then None else option_map (with_rest r) u) ≡ Some (start, rest) →
    (if b then None else option_and_then (λ s. at (items s)) u) ≡ at (items start)
shows at b u r start rest e = grind (arith, e)

shows-none : {A : Type 0} (at : Items → Option A) (b : Bool) (u : Option (List Token)) (r : List Token) → (if b then None else option_map (with_rest r) u) ≡ None →
    (if b then None else option_and_then (λ s. at (items s)) u) ≡ None
shows-none at b u r e = grind (arith, e)

given : {A : Type 0} (both : Bool) (lst at : Items → Option A) → Form both lst at → (outer : Layer) (ts rest : List Token) → (w : Walks both lst at [] outer [] None ts rest) →
    limited (more_by (count (items ts)) outer) (lst (items ts)) ≡ value at (more_by (count (items ts)) outer ∷ w.0) w.1
given both lst at form outer ts rest w =
    let last = more_by (count (items ts)) outer in
    ap (limited last) (sym (w.3 ∙ none-first lst (items ts) form.nothing)) ∙ sym (over-first at last w.0 w.1)

pub found : {A : Type 0} (both : Bool) (lst at : Items → Option A) → Form both lst at → (outer : Layer) (ts start rest : List Token) → walked both (outer ∷ []) None 0 ts ≡ Some (start, rest) →
    (after ts ≡ closing ∷ rest) × (limited (more_by (count (items ts)) outer) (lst (items ts)) ≡ at (items start)) × Plain both start
found both lst at form outer ts start rest e =
    let p = passes both (outer ∷ []) None 0 ts start rest e tt in
    let closed = closing-next (after ts) rest (sym (passed-list ts) ∙ p.0) in
    let w = walks both lst at form (length ts) [] outer [] None ts rest (omega arith) closed in
    (closed, given both lst at form outer ts rest w ∙ shows at (has_over (more_by (count (items ts)) outer ∷ w.0)) w.1 rest start rest (sym w.2 ∙ e), p.1)

pub found-none : {A : Type 0} (both : Bool) (lst at f : Items → Option A) → Form both lst at → (outer : Layer) (ts : List Token) →
    ((is : Items) → f is ≡ limited (more_by (count is) outer) (lst is)) → walked both (outer ∷ []) None 0 ts ≡ None → inside f ts ≡ None
found-none both lst at f form outer ts g e = by (after ts) refl
  where
    by : (af : List Token) → after ts ≡ af → inside f ts ≡ None
    by (closing ∷ r) k =
        let w = walks both lst at form (length ts) [] outer [] None ts r (omega arith) k in
        inside-none f ts (g (items ts) ∙ given both lst at form outer ts r w ∙ shows-none at (has_over (more_by (count (items ts)) outer ∷ w.0)) w.1 r (sym w.2 ∙ e))
    by _ k = inside-open f ts (ap after_closing k)

-- of a condition, from its keyword on
pub found-inside : {A : Type 0} (both : Bool) (lst at f : Items → Option A) → Form both lst at → (outer : Layer) (ts start rest : List Token) →
    ((is : Items) → f is ≡ limited (more_by (count is) outer) (lst is)) → walked both (outer ∷ []) None 0 ts ≡ Some (start, rest) →
    (inside f ts ≡ option_map (with_rest rest) (at (items start))) × Plain both start
found-inside both lst at f form outer ts start rest g e =
    let l = found both lst at form outer ts start rest e in
    (ap (inside_by f (items ts)) l.0 ∙ ap (option_map (with_rest rest)) (g (items ts) ∙ l.1), l.2)
