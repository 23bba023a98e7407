-- What is told of a delay, merged, is that delay.
use Rattle.std.proofs.Common.{◌≡◌, ℕ, suc, true, false, ◌||◌, List, [], ◌∷◌, ◌++◌, length, map, get_or, Option, Some, None, is_some, option_map, option_and_then, refl, sym, ap, subst, ◌∙◌, arith, append_assoc, append-nil, ℤ, ◌≤ℤ◌, All, Any, ◌⊎◌, inl, inr}
use Rattle.std.specs.Int.{int_min, int_max}
use Rattle.std.specs.List.{list_any}
use Rattle.std.specs.Option.{option_or}
use Rattle.std.proofs.lemmas.Int.{ints, clamps}
use Rattle.std.proofs.lemmas.List.Elements.{All-cons, All-nil}
use Rattle.mintc_text.specs.declared.refusals.Refusal.{Refusal}
use Rattle.mintc_decimal.specs.Decimals.{Number}
use Rattle.mintc_sdf.specs.declared.delays.Delay.{Delay}
use Rattle.mintc_sdf.specs.Numbers.{least, greatest, number_fault}
use Rattle.mintc_sdf.specs.Texts.{Said, may_be_negative, refusal_of, fault_of, first_fault, delays_by, delays_from}
use Rattle.mintc_sdf_edges.specs.declared.delays.Edges.{Edges}
use Rattle.mintc_sdf_edges.specs.declared.delays.EdgeDelay.{EdgeDelay}
use Rattle.mintc_sdf_edges.specs.Edges.{speaks}
use Rattle.mintc_sdf_edges.specs.Spans.{Span, wider}
use Rattle.mintc_sdf_edges.specs.Telling.{Progress, with_span, told_one, told, keep}
use Rattle.mintc_sdf_edges.specs.Laws.{IsMerged, AreMerged}
use Rattle.mintc_sdf_edges.proofs.TellingLaws.{keep-silent, keep-some}
use Rattle.mintc_sdf_edges.proofs.ValueLaws.{AreNear, near-all, span_of, span-append, all_of}

-- Spans of all values

abbrev widest : List Span → Span
widest [] = None
widest (s ∷ ss) = wider s (widest ss)

widest-all : (scale : ℕ) (nss : List (List Number)) → widest (map (span_of scale) nss) ≡ span_of scale (all_of nss)
widest-all scale [] = refl
widest-all scale (ns ∷ nss) = ap (wider (span_of scale ns)) (widest-all scale nss) ∙ sym (span-append scale ns (all_of nss))

none-wider : (s t : Span) → wider s t ≡ None → (s ≡ None) × (t ≡ None)
none-wider None t e = (refl, e)
none-wider (Some r) None e = absurd (cc)
none-wider (Some r) (Some q) e = absurd (cc)

silent : (ss : List Span) → widest ss ≡ None → list_any is_some ss ≡ false
silent [] e = refl
silent (s ∷ ss) e =
    let both = none-wider s (widest ss) e in
    ap (λ (o : Span). is_some o || list_any is_some ss) both.0 ∙ silent ss both.1

nothing-told : (d : Delay) (e : Edges) (n place : ℕ) (ss : List Span) → widest ss ≡ None → told d e n place ss ≡ []
nothing-told d e n place [] f = refl
nothing-told d e n place (s ∷ ss) f =
    let both = none-wider s (widest ss) f in
    ap (λ (o : Span). told_one d e (speaks n place) o ++ told d e n (suc place) ss) both.0 ∙ nothing-told d e n (suc place) ss both.1

loud : (ss : List Span) (r : ℤ × ℤ) → widest ss ≡ Some r → list_any is_some ss ≡ true
loud [] r e = absurd (cc)
loud (None ∷ ss) r e = loud ss r e
loud (Some s ∷ ss) r e = refl

-- Delays

Any-head : {X : Type 0} (P : X → Type 0) (x : X) (xs : List X) → P x → Any P (x ∷ xs)
Any-head P x xs h = (0, x, omega arith, refl, h)

Any-later : {X : Type 0} (P : X → Type 0) (x : X) (xs : List X) → Any P xs → Any P (x ∷ xs)
Any-later P x xs h = (suc h.0, h.1, omega arith, h.3, h.4)

abbrev one : Delay → Edges → Edges → ℤ × ℤ → EdgeDelay
one d e speak s = record { delay = with_span d s; edge = e; speaks = speak }

self : (x : ℤ) → x ≤ℤ x
self x = omega (arith, ints)

one-merged : (d : Delay) (e speak : Edges) (s : ℤ × ℤ) → IsMerged (one d e speak s ∷ []) (with_span d s)
one-merged d e speak s = record {
  same = All-cons (λ (f : EdgeDelay). f.delay ≡ with_span (with_span d s) (f.delay.least, f.delay.greatest)) (one d e speak s) [] refl (All-nil _);
  least = All-cons (λ (f : EdgeDelay). s.0 ≤ℤ f.delay.least) (one d e speak s) [] (self s.0) (All-nil _);
  has_least = Any-head (λ (f : EdgeDelay). f.delay.least ≡ s.0) (one d e speak s) [] refl;
  greatest = All-cons (λ (f : EdgeDelay). f.delay.greatest ≤ℤ s.1) (one d e speak s) [] (self s.1) (All-nil _);
  has_greatest = Any-head (λ (f : EdgeDelay). f.delay.greatest ≡ s.1) (one d e speak s) [] refl;
}

All-weaker : {X : Type 0} (P Q : X → Type 0) (xs : List X) → ((x : X) → P x → Q x) → All P xs → All Q xs
All-weaker P Q xs f h = λ k d l. f (get_or xs k d) (h k d l)

lower : (x y z : ℤ) → y ≤ℤ z → int_min x y ≤ℤ z
lower x y z h = omega (arith, ints, clamps, h)

higher : (x y z : ℤ) → z ≤ℤ y → z ≤ℤ int_max x y
higher x y z h = omega (arith, ints, clamps, h)

least-first : (x y : ℤ) → int_min x y ≤ℤ x
least-first x y = omega (arith, ints, clamps)

greatest-first : (x y : ℤ) → x ≤ℤ int_max x y
greatest-first x y = omega (arith, ints, clamps)

least-in : (d : Delay) (e speak : Edges) (x z : ℤ) (top : ℤ) (es : List EdgeDelay) → Any (λ f. f.delay.least ≡ z) es → Any (λ (f : EdgeDelay). f.delay.least ≡ int_min x z) (one d e speak (x, top) ∷ es)
least-in d e speak x z top es h = cases (int_min x z) (either x z)
  where
    either : (x z : ℤ) → (int_min x z ≡ x) ⊎ (int_min x z ≡ z)
    either x z = grind (arith, ints)

    cases : (m : ℤ) → (m ≡ x) ⊎ (m ≡ z) → Any (λ (f : EdgeDelay). f.delay.least ≡ m) (one d e speak (x, top) ∷ es)
    cases m (inl a) = Any-head _ (one d e speak (x, top)) es (sym a)
    cases m (inr b) = Any-later _ (one d e speak (x, top)) es (subst (λ y. Any (λ (f : EdgeDelay). f.delay.least ≡ y) es) (sym b) h)

greatest-in : (d : Delay) (e speak : Edges) (x z : ℤ) (low : ℤ) (es : List EdgeDelay) → Any (λ f. f.delay.greatest ≡ z) es → Any (λ (f : EdgeDelay). f.delay.greatest ≡ int_max x z) (one d e speak (low, x) ∷ es)
greatest-in d e speak x z low es h = cases (int_max x z) (either x z)
  where
    either : (x z : ℤ) → (int_max x z ≡ x) ⊎ (int_max x z ≡ z)
    either x z = grind (arith, ints)

    cases : (m : ℤ) → (m ≡ x) ⊎ (m ≡ z) → Any (λ (f : EdgeDelay). f.delay.greatest ≡ m) (one d e speak (low, x) ∷ es)
    cases m (inl a) = Any-head _ (one d e speak (low, x)) es (sym a)
    cases m (inr b) = Any-later _ (one d e speak (low, x)) es (subst (λ y. Any (λ (f : EdgeDelay). f.delay.greatest ≡ y) es) (sym b) h)

more-merged : (d : Delay) (e speak : Edges) (s t : ℤ × ℤ) (es : List EdgeDelay) → IsMerged es (with_span d t) →
    IsMerged (one d e speak s ∷ es) (with_span d (int_min s.0 t.0, int_max s.1 t.1))
more-merged d e speak s t es h = record {
  same = All-cons (λ (f : EdgeDelay). f.delay ≡ with_span d (f.delay.least, f.delay.greatest)) (one d e speak s) es refl h.same;
  least = All-cons (λ (f : EdgeDelay). int_min s.0 t.0 ≤ℤ f.delay.least) (one d e speak s) es (least-first s.0 t.0)
      (All-weaker (λ (f : EdgeDelay). t.0 ≤ℤ f.delay.least) (λ (f : EdgeDelay). int_min s.0 t.0 ≤ℤ f.delay.least) es (λ x g. lower s.0 t.0 x.delay.least g) h.least);
  has_least = least-in d e speak s.0 t.0 s.1 es h.has_least;
  greatest = All-cons (λ (f : EdgeDelay). f.delay.greatest ≤ℤ int_max s.1 t.1) (one d e speak s) es (greatest-first s.1 t.1)
      (All-weaker (λ (f : EdgeDelay). f.delay.greatest ≤ℤ t.1) (λ (f : EdgeDelay). f.delay.greatest ≤ℤ int_max s.1 t.1) es (λ x g. higher s.1 t.1 x.delay.greatest g) h.greatest);
  has_greatest = greatest-in d e speak s.1 t.1 s.0 es h.has_greatest;
}

told-merged : (d : Delay) (e : Edges) (n place : ℕ) (ss : List Span) (r : ℤ × ℤ) → widest ss ≡ Some r → IsMerged (told d e n place ss) (with_span d r)
told-merged d e n place [] r f = absurd (cc)
told-merged d e n place (None ∷ ss) r f = told-merged d e n (suc place) ss r f
told-merged d e n place (Some s ∷ ss) r f = by (widest ss) refl (told-merged d e n (suc place) ss) f
  where
    by : (o : Span) → widest ss ≡ o → ((t : ℤ × ℤ) → widest ss ≡ Some t → IsMerged (told d e n (suc place) ss) (with_span d t)) → wider (Some s) o ≡ Some r →
        IsMerged (one d e (speaks n place) s ∷ told d e n (suc place) ss) (with_span d r)
    by None g go h =
        let same : s ≡ r = cc in
        subst (λ x. IsMerged (one d e (speaks n place) s ∷ told d e n (suc place) ss) (with_span d x)) same
        (subst (λ l. IsMerged (one d e (speaks n place) s ∷ l) (with_span d s)) (sym (nothing-told d e n (suc place) ss g)) (one-merged d e (speaks n place) s))
    by (Some t) g go h =
        let same : (int_min s.0 t.0, int_max s.1 t.1) ≡ r = cc in
        subst (λ x. IsMerged (one d e (speaks n place) s ∷ told d e n (suc place) ss) (with_span d x)) same
        (more-merged d e (speaks n place) s t (told d e n (suc place) ss) (go t g))

pub merged-append : (es fs : List EdgeDelay) (ds gs : List Delay) → AreMerged es ds → AreMerged fs gs → AreMerged (es ++ fs) (ds ++ gs)
merged-append es fs [] gs h g = subst (λ l. AreMerged (l ++ fs) gs) (sym h) g
merged-append es fs (d ∷ ds) gs h g =
    (h.0, h.1 ++ fs, ap (λ l. l ++ fs) h.2 ∙ append_assoc h.0 h.1 fs, h.3, merged-append h.1 fs ds gs h.4 g)

-- From what is known to what is known behind some delays

-- these delays were told apart, and so many are left
abbrev pub Takes : Progress → Progress → List Delay → List Delay → Type 0
Takes p q ds rest =
    (es : List EdgeDelay) × (q.scale ≡ p.scale) × (q.left ≡ rest) × (q.found ≡ p.found ++ es) × AreMerged es ds

abbrev pub Gives : Option Progress → Progress → List Delay → List Delay → Type 0
Gives o p ds rest = (q : Progress) × (o ≡ Some q) × Takes p q ds rest

-- where this scale holds, what is said is told
abbrev pub Tells : ℕ → (Progress → Option Progress) → List Said → Type 0
Tells scale f ss = (p : Progress) (rest : List Delay) → p.scale ≡ scale → p.left ≡ delays_from ss ++ rest → Gives (f p) p (delays_from ss) rest

pub delays-append : (ss ts : List Said) → delays_from (ss ++ ts) ≡ delays_from ss ++ delays_from ts
delays-append [] ts = refl
delays-append (s ∷ ss) ts = ap (λ l. delays_by s s.claim.numbers ++ l) (delays-append ss ts) ∙ sym (append_assoc (delays_by s s.claim.numbers) (delays_from ss) (delays_from ts))

pub gives-nothing : (p : Progress) (rest : List Delay) → p.left ≡ rest → Gives (Some p) p [] rest
gives-nothing p rest e = (p, refl, ([], refl, e, sym (append-nil p.found), refl))

pub tells-nothing : (scale : ℕ) → Tells scale (λ p. Some p) []
tells-nothing scale p rest s e = gives-nothing p rest e

pub takes-then : (p q r : Progress) (ds gs rest end : List Delay) → Takes p q ds rest → Takes q r gs end → Takes p r (ds ++ gs) end
takes-then p q r ds gs rest end h g = (
  h.0 ++ g.0,
  g.1 ∙ h.1,
  g.2,
  g.3 ∙ ap (λ l. l ++ g.0) h.3 ∙ append_assoc p.found h.0 g.0,
  merged-append h.0 g.0 ds gs h.4 g.4,
)

pub tells-then : (scale : ℕ) (f g : Progress → Option Progress) (ss ts : List Said) → Tells scale f ss → Tells scale g ts → Tells scale (λ p. option_and_then g (f p)) (ss ++ ts)
tells-then scale f g ss ts h k p rest s e =
    let first = h p (delays_from ts ++ rest) s (e ∙ ap (λ l. l ++ rest) (delays-append ss ts) ∙ append_assoc (delays_from ss) (delays_from ts) rest) in
    let taken = first.2 in
    let second = k first.0 rest (taken.1 ∙ s) taken.2 in
    (second.0, ap (option_and_then g) first.1 ∙ second.1, subst (λ l. Takes p second.0 l rest) (sym (delays-append ss ts)) (takes-then p first.0 second.0 (delays_from ss) (delays_from ts) (delays_from ts ++ rest) rest taken second.2))

pub tells-same : (scale : ℕ) (f g : Progress → Option Progress) (ss : List Said) → ((p : Progress) → p.scale ≡ scale → g p ≡ f p) → Tells scale f ss → Tells scale g ss
tells-same scale f g ss same h p rest s e = subst (λ o. Gives o p (delays_from ss) rest) (sym (same p s)) (h p rest s e)

-- no number is at fault
abbrev pub AreSound : List Said → Type 0
AreSound ss = first_fault ss ≡ None

pub sound-apart : (ss ts : List Said) → AreSound (ss ++ ts) → AreSound ss × AreSound ts
sound-apart [] ts e = (refl, e)
sound-apart (s ∷ ss) ts e =
    let both = neither (fault_of s) (first_fault (ss ++ ts)) e in
    let more = sound-apart ss ts both.1 in
    (ap (λ o. option_or o (first_fault ss)) both.0 ∙ more.0, more.1)
  where
    neither : (a b : Option Refusal) → option_or a b ≡ None → (a ≡ None) × (b ≡ None)
    neither None b e = (refl, e)
    neither (Some r) b e = absurd (cc)

none-map : {X Y : Type 0} (f : X → Y) (o : Option X) → option_or (option_map f o) None ≡ None → o ≡ None
none-map f None e = refl
none-map f (Some x) e = absurd (cc)

pub sound-near : (s : Said) → AreSound (s ∷ []) → AreNear s.scale s.claim.numbers
sound-near s e =
    near-all s.scale (may_be_negative s.claim.subject) s.claim.numbers (none-map (refusal_of s.entry) (number_fault s.scale (may_be_negative s.claim.subject) s.claim.numbers) e)

-- a claim whose numbers are those of some values
pub claim-told : (s : Said) (nss : List (List Number)) (e : Edges) → s.claim.numbers ≡ all_of nss → Tells s.scale (λ p. keep e (map (span_of s.scale) nss) p) (s ∷ [])
claim-told s nss e same p rest scale left =
    by (map (span_of s.scale) nss) s.claim.numbers (widest-all s.scale nss ∙ ap (span_of s.scale) (sym same)) (left ∙ ap (λ l. l ++ rest) (append-nil (delays_by s s.claim.numbers)))
  where
    by : (values : List Span) (ns : List Number) → widest values ≡ span_of s.scale ns → p.left ≡ delays_by s ns ++ rest → Gives (keep e values p) p (delays_by s ns ++ []) rest
    by values [] w f = subst (λ o. Gives o p [] rest) (sym (keep-silent e values p (silent values w))) (gives-nothing p rest f)
    by values (v ∷ vs) w f =
        let d : Delay =
        record { entry = s.entry; celltype = s.celltype; place = s.place; subject = s.claim.subject; least = least s.scale v vs; greatest = greatest s.scale v vs } in
        let found = told d e (length values) 0 values in (
          record { scale = p.scale; left = rest; found = p.found ++ found },
          keep-some e values p d rest (loud values (least s.scale v vs, greatest s.scale v vs) w) f,
          (found, refl, refl, refl, (found, [], sym (append-nil found), told-merged d e (length values) 0 values (least s.scale v vs, greatest s.scale v vs) w, refl)),
        )
