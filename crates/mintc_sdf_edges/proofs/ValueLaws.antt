-- Values: what their spans are to their numbers.
use Rattle.std.proofs.Common.{◌≡◌, ℕ, suc, ◌-◌, Bool, true, false, ◌||◌, ◌==◌, get_or, if◌then◌else◌, List, [], ◌∷◌, ◌++◌, length, map, Option, Some, None, option_map, option_and_then, refl, sym, ap, subst, ◌∙◌, arith, append_assoc, append-nil}
use Rattle.std.proofs.lemmas.Bool.Decides.{nat_tests}
use Rattle.mintc_decimal.specs.Decimals.{Number, number_of}
use Rattle.mintc_sdf_tokens.specs.Items.{Items, none, leaf, quoted, list}
use Rattle.mintc_sdf_tokens.specs.Words.{before_first}
use Rattle.mintc_sdf.specs.Forms.{meets, value_word, parts_of, part_numbers, numbers_of, joined, one, value_of, all_values, lone_value}
use Rattle.mintc_sdf.specs.Numbers.{is_far, rounded_down, rounded_up, least, greatest, number_fault}
use Rattle.mintc_sdf_edges.specs.Spans.{Span, wider, wider_of, number_span, part_span, parts_span, value_span, value_spans}
use Rattle.mintc_sdf_edges.proofs.SpanLaws.{wider-assoc, wider-nothing, wider_of-assoc, wider_of-nothing, nothing-wider_of}

-- Numbers

-- numbers that are not too far from 0
abbrev pub AreNear : ℕ → List Number → Type 0
AreNear scale [] = Unit {0}
AreNear scale (v ∷ vs) = (is_far scale v ≡ false) × AreNear scale vs

sound : (scale : ℕ) (negative : Bool) (v : Number) (vs : List Number) → number_fault scale negative (v ∷ vs) ≡ None → (is_far scale v ≡ false) × (number_fault scale negative vs ≡ None)
sound scale negative v vs e = grind (arith, e)

pub near-all : (scale : ℕ) (negative : Bool) (ns : List Number) → number_fault scale negative ns ≡ None → AreNear scale ns
near-all scale negative [] e = tt
near-all scale negative (v ∷ vs) e = let s = sound scale negative v vs e in (s.0, near-all scale negative vs s.1)

near-apart : (scale : ℕ) (ns ms : List Number) → AreNear scale (ns ++ ms) → AreNear scale ns × AreNear scale ms
near-apart scale [] ms h = (tt, h)
near-apart scale (n ∷ ns) ms h = let more = near-apart scale ns ms h.1 in ((h.0, more.0), more.1)

-- the span of some numbers
abbrev pub span_of : ℕ → List Number → Span
span_of scale [] = None
span_of scale (v ∷ vs) = Some (least scale v vs, greatest scale v vs)

span-cons : (scale : ℕ) (v : Number) (vs : List Number) → span_of scale (v ∷ vs) ≡ wider (span_of scale (v ∷ [])) (span_of scale vs)
span-cons scale v [] = refl
span-cons scale v (u ∷ us) = refl

pub span-append : (scale : ℕ) (ns ms : List Number) → span_of scale (ns ++ ms) ≡ wider (span_of scale ns) (span_of scale ms)
span-append scale [] ms = refl
span-append scale (v ∷ vs) ms =
    span-cons scale v (vs ++ ms)
    ∙ ap (wider (span_of scale (v ∷ []))) (span-append scale vs ms)
    ∙ sym (wider-assoc (span_of scale (v ∷ [])) (span_of scale vs) (span_of scale ms))
    ∙ ap (λ s. wider s (span_of scale ms)) (sym (span-cons scale v vs))

-- two lists that are joined
pub apart : {A : Type 0} (a b : Option (List A)) (zs : List A) → joined a b ≡ Some zs → (xs ys : List A) × (a ≡ Some xs) × (b ≡ Some ys) × (zs ≡ xs ++ ys)
apart None b zs e = absurd (cc)
apart (Some xs) None zs e = absurd (cc)
apart (Some xs) (Some ys) zs e = let same : xs ++ ys ≡ zs = cc in (xs, ys, refl, refl, sym same)

-- Parts

part-span : (scale : ℕ) (w : List ℕ) (ns : List Number) → part_numbers w ≡ Some ns → AreNear scale ns → part_span scale w ≡ Some (span_of scale ns)
part-span scale [] ns e n = let same : [] ≡ ns = cc in ap (λ l. Some (span_of scale l)) same
part-span scale (b ∷ bs) ns e n = by (number_of (b ∷ bs)) e
  where
    by : (o : Option Number) → option_map one o ≡ Some ns → option_and_then (number_span scale) o ≡ Some (span_of scale ns)
    by None f = absurd (cc)
    by (Some v) f =
        let same : v ∷ [] ≡ ns = cc in
        let near = subst (AreNear scale) (sym same) n in
        ap (λ b. if b then None else Some (Some (rounded_down scale v, rounded_up scale v))) near.0 ∙ ap (λ l. Some (span_of scale l)) same

two-spans : (scale : ℕ) (ns ms : List Number) (a b : Option Span) → a ≡ Some (span_of scale ns) → b ≡ Some (span_of scale ms) → wider_of a b ≡ Some (span_of scale (ns ++ ms))
two-spans scale ns ms a b e f = ap (λ o. wider_of o b) e ∙ ap (wider_of (Some (span_of scale ns))) f ∙ ap (λ s. Some s) (sym (span-append scale ns ms))

parts-span : (scale : ℕ) (ps : List (List ℕ)) (ns : List Number) → numbers_of ps ≡ Some ns → AreNear scale ns → parts_span scale ps ≡ Some (span_of scale ns)
parts-span scale [] ns e n = absurd (cc)
parts-span scale (p ∷ []) ns e n = ap (λ o. wider_of o (Some None)) (part-span scale p ns e n) ∙ ap (λ s. Some s) (wider-nothing (span_of scale ns))
parts-span scale (p ∷ q ∷ []) ns e n = absurd (cc)
parts-span scale (p ∷ q ∷ r ∷ []) ns e n =
    let a = apart (part_numbers p) (joined (part_numbers q) (part_numbers r)) ns e in
    let b = apart (part_numbers q) (part_numbers r) a.1 a.3 in
    let near = near-apart scale a.0 a.1 (subst (AreNear scale) a.4 n) in
    let later = near-apart scale b.0 b.1 (subst (AreNear scale) b.4 near.1) in
    let last : parts_span scale (r ∷ []) ≡ Some (span_of scale b.1) = ap (λ o. wider_of o (Some None)) (part-span scale r b.1 b.3 later.1) ∙ ap (λ s. Some s) (wider-nothing (span_of scale b.1)) in
    let both = two-spans scale b.0 b.1 (part_span scale q) (parts_span scale (r ∷ [])) (part-span scale q b.0 b.2 later.0) last in
    two-spans scale a.0 a.1 (part_span scale p) (parts_span scale (q ∷ r ∷ [])) (part-span scale p a.0 a.2 near.0) (both ∙ ap (λ l. Some (span_of scale l)) (sym b.4))
    ∙ ap (λ l. Some (span_of scale l)) (sym a.4)
parts-span scale (p ∷ q ∷ r ∷ s ∷ ps) ns e n = absurd (cc)

-- Words that colons join

some-parts : (bs : List ℕ) → (p : List ℕ) × (ps : List (List ℕ)) × (parts_of bs ≡ p ∷ ps)
some-parts [] = ([], [], refl)
some-parts (b ∷ bs) = by (b == 58) (some-parts bs)
  where
    by : (v : Bool) → ((p : List ℕ) × (ps : List (List ℕ)) × (parts_of bs ≡ p ∷ ps)) →
        (p : List ℕ) × (ps : List (List ℕ)) × ((if v then [] ∷ parts_of bs else before_first b (parts_of bs)) ≡ p ∷ ps)
    by true s = ([], parts_of bs, refl)
    by false s = (b ∷ s.0, s.1, ap (before_first b) s.2)

parts-colon : (w v : List ℕ) → parts_of (w ++ 58 ∷ v) ≡ parts_of w ++ parts_of v
parts-colon [] v = refl
parts-colon (b ∷ bs) v = by (b == 58) (parts-colon bs v) (some-parts bs)
  where
    by : (c : Bool) → parts_of (bs ++ 58 ∷ v) ≡ parts_of bs ++ parts_of v → ((p : List ℕ) × (ps : List (List ℕ)) × (parts_of bs ≡ p ∷ ps)) →
        (if c then [] ∷ parts_of (bs ++ 58 ∷ v) else before_first b (parts_of (bs ++ 58 ∷ v))) ≡ (if c then [] ∷ parts_of bs else before_first b (parts_of bs)) ++ parts_of v
    by true go s = ap (λ l. [] ∷ l) go
    by false go s = ap (before_first b) (go ∙ ap (λ l. l ++ parts_of v) s.2) ∙ sym (ap (λ l. before_first b l ++ parts_of v) s.2)

spans-append : (scale : ℕ) (ps qs : List (List ℕ)) → parts_span scale (ps ++ qs) ≡ wider_of (parts_span scale ps) (parts_span scale qs)
spans-append scale [] qs = sym (nothing-wider_of (parts_span scale qs))
spans-append scale (p ∷ ps) qs = ap (wider_of (part_span scale p)) (spans-append scale ps qs) ∙ sym (wider_of-assoc (part_span scale p) (parts_span scale ps) (parts_span scale qs))

is-colon : (b : ℕ) → (b == 58) ≡ true → b ≡ 58
is-colon b e = grind (arith, nat_tests)

colon-moved : (w : List ℕ) (n m : ℕ) → n ≡ m → (get_or w n 0 == 58) ≡ true → (get_or w m 0 == 58) ≡ true
colon-moved w n m e f = subst (λ k. (get_or w k 0 == 58) ≡ true) e f

ends-later : (b : ℕ) (w : List ℕ) → ((v : List ℕ) × (w ≡ v ++ 58 ∷ [])) → (v : List ℕ) × (b ∷ w ≡ v ++ 58 ∷ [])
ends-later b w h = (b ∷ h.0, ap (λ l. b ∷ l) h.1)

ends-colon : (w : List ℕ) → (get_or w (length w - 1) 0 == 58) ≡ true → (v : List ℕ) × (w ≡ v ++ 58 ∷ [])
ends-colon [] e = absurd (cc)
ends-colon (b ∷ []) e = ([], ap (λ n. n ∷ []) (is-colon b e))
ends-colon (b ∷ c ∷ cs) e =
    let place : length (b ∷ c ∷ cs) - 1 ≡ suc (length (c ∷ cs) - 1) = omega arith in
    ends-later b (c ∷ cs) (ends-colon (c ∷ cs) (colon-moved (b ∷ c ∷ cs) (length (b ∷ c ∷ cs) - 1) (suc (length (c ∷ cs) - 1)) place e))

begins-colon : (w : List ℕ) → (get_or w 0 0 == 58) ≡ true → (v : List ℕ) × (w ≡ 58 ∷ v)
begins-colon [] e = absurd (cc)
begins-colon (b ∷ bs) e = (bs, ap (λ n. n ∷ bs) (is-colon b e))

either : (a b : Bool) → (a || b) ≡ true → (a ≡ false → b ≡ true)
either true b e f = absurd (cc)
either false b e f = e

-- the spans of two words that meet
join-span : (scale : ℕ) (w u more : List ℕ) → meets w u ≡ true → parts_span scale (parts_of (w ++ (u ++ more))) ≡ wider_of (parts_span scale (parts_of w)) (parts_span scale (parts_of (u ++ more)))
join-span scale w u more e = by (get_or w (length w - 1) 0 == 58) refl
  where
    after_colon : (x y : List ℕ) → parts_span scale (parts_of (x ++ 58 ∷ y)) ≡ wider_of (parts_span scale (parts_of x)) (parts_span scale (parts_of y))
    after_colon x y = ap (parts_span scale) (parts-colon x y) ∙ spans-append scale (parts_of x) (parts_of y)

    by : (b : Bool) → (get_or w (length w - 1) 0 == 58) ≡ b → parts_span scale (parts_of (w ++ (u ++ more))) ≡ wider_of (parts_span scale (parts_of w)) (parts_span scale (parts_of (u ++ more)))
    by true f =
        let v = ends-colon w f in
        ap (λ l. parts_span scale (parts_of (l ++ (u ++ more)))) v.1
        ∙ ap (λ l. parts_span scale (parts_of l)) (append_assoc v.0 (58 ∷ []) (u ++ more))
        ∙ after_colon v.0 (u ++ more)
        ∙ ap (λ o. wider_of o (parts_span scale (parts_of (u ++ more)))) (sym (ap (λ l. parts_span scale (parts_of l)) v.1 ∙ after_colon v.0 [] ∙ wider_of-nothing (parts_span scale (parts_of v.0))))
    by false f =
        let v = begins-colon u (either (get_or w (length w - 1) 0 == 58) (get_or u 0 0 == 58) e f) in
        ap (λ l. parts_span scale (parts_of (w ++ (l ++ more)))) v.1
        ∙ after_colon w (v.0 ++ more)
        ∙ ap (wider_of (parts_span scale (parts_of w))) (sym (ap (λ l. parts_span scale (parts_of (l ++ more))) v.1 ∙ nothing-wider_of (parts_span scale (parts_of (v.0 ++ more)))))

-- the words of a value begin with its first word
begins : (w : List ℕ) (is : Items) (v : List ℕ) → value_word (leaf w is) ≡ Some v → (more : List ℕ) × (v ≡ w ++ more)
begins w none v e = let same : w ≡ v = cc in ([], sym same ∙ sym (append-nil w))
begins w (leaf u is) v e = by (meets w u) (value_word (leaf u is)) e
  where
    by : (b : Bool) (o : Option (List ℕ)) → (if b then option_map (λ more. w ++ more) o else None) ≡ Some v → (more : List ℕ) × (v ≡ w ++ more)
    by true None f = absurd (cc)
    by true (Some more) f = let same : w ++ more ≡ v = cc in (more, sym same)
    by false o f = absurd (cc)
begins w (quoted u is) v e = absurd (cc)
begins w (list u is) v e = absurd (cc)

word-span : (scale : ℕ) (is : Items) (v : List ℕ) → value_word is ≡ Some v → value_span scale is ≡ parts_span scale (parts_of v)
word-span scale none v e = let same : [] ≡ v = cc in ap (λ l. parts_span scale (parts_of l)) same
word-span scale (leaf w none) v e = let same : w ≡ v = cc in wider_of-nothing (parts_span scale (parts_of w)) ∙ ap (λ l. parts_span scale (parts_of l)) same
word-span scale (leaf w (leaf u is)) v e = by (meets w u) refl (value_word (leaf u is)) refl (word-span scale (leaf u is)) e
  where
    by : (b : Bool) → meets w u ≡ b → (o : Option (List ℕ)) → value_word (leaf u is) ≡ o →
        ((more : List ℕ) → value_word (leaf u is) ≡ Some more → value_span scale (leaf u is) ≡ parts_span scale (parts_of more)) → (if b then option_map (λ more. w ++ more) o else None) ≡ Some v →
        wider_of (parts_span scale (parts_of w)) (value_span scale (leaf u is)) ≡ parts_span scale (parts_of v)
    by true m None g go f = absurd (cc)
    by true m (Some more) g go f =
        let same : w ++ more ≡ v = cc in
        let rest = begins u is more g in
        ap (wider_of (parts_span scale (parts_of w))) (go more g ∙ ap (λ l. parts_span scale (parts_of l)) rest.1)
        ∙ sym (join-span scale w u rest.0 m)
        ∙ ap (λ l. parts_span scale (parts_of (w ++ l))) (sym rest.1)
        ∙ ap (λ l. parts_span scale (parts_of l)) same
    by false m o g go f = absurd (cc)
word-span scale (leaf w (quoted u is)) v e = absurd (cc)
word-span scale (leaf w (list u is)) v e = absurd (cc)
word-span scale (quoted w is) v e = absurd (cc)
word-span scale (list w is) v e = absurd (cc)

-- Values

pub value-span : (scale : ℕ) (is : Items) (ns : List Number) → value_of is ≡ Some ns → AreNear scale ns → value_span scale is ≡ Some (span_of scale ns)
value-span scale is ns e n = by (value_word is) refl e
  where
    by : (o : Option (List ℕ)) → value_word is ≡ o → option_and_then (λ w. numbers_of (parts_of w)) o ≡ Some ns → value_span scale is ≡ Some (span_of scale ns)
    by None g f = absurd (cc)
    by (Some w) g f = word-span scale is w g ∙ parts-span scale (parts_of w) ns f n

-- the numbers of some values
abbrev pub all_of : List (List Number) → List Number
all_of [] = []
all_of (ns ∷ nss) = ns ++ all_of nss

-- these are the numbers of values
abbrev pub AreValues : ℕ → Items → List Number → List (List Number) → Type 0
AreValues scale is ns nss = (value_spans scale is ≡ Some (map (span_of scale) nss)) × (ns ≡ all_of nss)

pub all-spans : (scale : ℕ) (is : Items) (ns : List Number) → all_values is ≡ Some ns → AreNear scale ns → (nss : List (List Number)) × AreValues scale is ns nss
all-spans scale none ns e n = let same : [] ≡ ns = cc in ([], (refl, sym same))
all-spans scale (list inner is) ns e n =
    let a = apart (value_of inner) (all_values is) ns e in
    let near = near-apart scale a.0 a.1 (subst (AreNear scale) a.4 n) in
    let more = all-spans scale is a.1 a.3 near.1 in (
      a.0 ∷ more.0,
      (
        ap (λ o. joined (option_map one o) (value_spans scale is)) (value-span scale inner a.0 a.2 near.0) ∙ ap (joined (Some (one (span_of scale a.0)))) more.1.0,
        a.4 ∙ ap (λ l. a.0 ++ l) more.1.1,
      ),
    )
all-spans scale (leaf w is) ns e n = absurd (cc)
all-spans scale (quoted w is) ns e n = absurd (cc)

pub lone-spans : (scale : ℕ) (is : Items) (ns : List Number) → lone_value is ≡ Some ns → AreNear scale ns → AreValues scale is ns (ns ∷ [])
lone-spans scale (list inner none) ns e n =
    (ap (λ o. joined (option_map one o) (value_spans scale none)) (value-span scale inner ns e n), sym (append-nil ns))
lone-spans scale none ns e n = absurd (cc)
lone-spans scale (leaf w is) ns e n = absurd (cc)
lone-spans scale (quoted w is) ns e n = absurd (cc)
lone-spans scale (list inner (leaf w is)) ns e n = absurd (cc)
lone-spans scale (list inner (quoted w is)) ns e n = absurd (cc)
lone-spans scale (list inner (list w is)) ns e n = absurd (cc)
