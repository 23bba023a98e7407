-- Each delay by edge begins at an edge and speaks of one, and its numbers are in order and in range.
use Rattle.std.proofs.Common.{◌≡◌, ℕ, suc, Bool, true, false, ◌||◌, ◌==◌, if◌then◌else◌, List, [], ◌∷◌, ◌++◌, length, get_or, Option, Some, None, is_some, option_map, option_and_then, codes, refl, sym, ap, subst, ◌∙◌, arith, ℤ, ◌≤ℤ◌, All}
use Rattle.std.specs.Int.{int_min, int_max}
use Rattle.std.specs.List.{list_any}
use Rattle.std.proofs.lemmas.Int.{ints, clamps}
use Rattle.std.proofs.lemmas.List.Elements.{All-nil, All-cons, All-head, All-tail, All-append, All-weaker}
use Rattle.mintc_text.specs.declared.limits.TheConstants.{MOST_DELAY}
use Rattle.mintc_decimal.specs.Decimals.{Number, number_of, floor_of, ceiling_of}
use Rattle.mintc_sdf_tokens.specs.Tokens.{Token, tokens_of}
use Rattle.mintc_sdf_tokens.specs.Items.{Items, none, leaf, quoted, list, is_none, items}
use Rattle.mintc_sdf_tokens.specs.Words.{is_key}
use Rattle.mintc_sdf.specs.declared.delays.Delay.{Delay}
use Rattle.mintc_sdf.specs.declared.delays.Subject.{Subject}
use Rattle.mintc_sdf.specs.Forms.{with_items, parts_of, joined, one, scale_of}
use Rattle.mintc_sdf.specs.Numbers.{is_far, rounded_down, rounded_up}
use Rattle.mintc_sdf.specs.Texts.{after_head}
use Rattle.mintc_sdf.specs.Laws.{lowest, IsWithin, AreWithin}
use Rattle.mintc_sdf_edges.specs.declared.delays.Edges.{Edges}
use Rattle.mintc_sdf_edges.specs.declared.delays.EdgeDelay.{EdgeDelay}
use Rattle.mintc_sdf_edges.specs.Edges.{both_edges, rising, falling, is_rise, edge_of, inner_edge, last_edge, edge_at, speaks}
use Rattle.mintc_sdf_edges.specs.Spans.{Span, wider, wider_of, number_span, part_span, parts_span, value_span, value_spans}
use Rattle.mintc_sdf_edges.specs.Telling.{Progress, with_span, told_one, told, take_next, keep, keep_each, keep_all, has_one_port, has_two_ports, heading, said, with_scale, plain, item, last_item, lone_item, is_block, after_items, after_list}
use Rattle.mintc_sdf_edges.specs.Texts.{start, told_behind, told_in}
use Rattle.mintc_sdf_edges.specs.Laws.{AreMerged, HasEdges, HaveEdges, EdgeDelaysAreWithin}
use Rattle.mintc_sdf_edges.proofs.MergeLaws.{merge}

-- Edges

abbrev HasSome : Edges → Type 0
HasSome e = (e.rise || e.fall) ≡ true

word-some : (w : List ℕ) → HasSome (edge_of w)
word-some w = by (is_rise w)
  where
    by : (b : Bool) → HasSome (if b then rising else falling)
    by true = refl
    by false = refl

speaks-some : (n place : ℕ) → HasSome (speaks n place)
speaks-some n place = by (n == 1) (place == 0) (place == 1)
  where
    by : (a b c : Bool) → HasSome (if a then both_edges else (if b then rising else (if c then falling else both_edges)))
    by true b c = refl
    by false true c = refl
    by false false true = refl
    by false false false = refl

abbrev EachSome : Option Edges → Type 0
EachSome o = (e : Edges) → o ≡ Some e → HasSome e

none-some : EachSome None
none-some e f = absurd (cc)

this-some : (d : Edges) → HasSome d → EachSome (Some d)
this-some d h e f = let same : d ≡ e = cc in subst HasSome same h

either-some : (b : Bool) (o q : Option Edges) → EachSome o → EachSome q → EachSome (if b then o else q)
either-some true o q h g = h
either-some false o q h g = g

inner-some : (is : Items) → EachSome (inner_edge is) × EachSome (last_edge is)
unfolding inner_edge last_edge
inner-some none = (none-some, none-some)
inner-some (quoted s is) = (none-some, either-some (is_none is) None (last_edge is) none-some (inner-some is).1)
inner-some (leaf k is) = (
  either-some (is_key (codes "COND") k) (last_edge is) (Some (edge_of k)) (inner-some is).1 (this-some (edge_of k) (word-some k)),
  either-some (is_none is) (Some both_edges) (last_edge is) (this-some both_edges refl) (inner-some is).1,
)
inner-some (list inner is) = (none-some, either-some (is_none is) (inner_edge inner) (last_edge is) (inner-some inner).0 (inner-some is).1)

abbrev StartsSome : Option (Edges × Items) → Type 0
StartsSome o = (h : Edges × Items) → o ≡ Some h → HasSome h.0

at-some : (is : Items) → StartsSome (edge_at is)
at-some (leaf w is) h e = let same : (both_edges, is) ≡ h = cc in subst (λ (x : Edges × Items). HasSome x.0) same refl
at-some (list inner is) h e = by (inner_edge inner) (inner-some inner).0 e
  where
    by : (o : Option Edges) → EachSome o → option_map (with_items is) o ≡ Some h → HasSome h.0
    by None g f = absurd (cc)
    by (Some d) g f = let same : (d, is) ≡ h = cc in subst (λ (x : Edges × Items). HasSome x.0) same (g d refl)
at-some none h e = absurd (cc)
at-some (quoted s is) h e = absurd (cc)

heading-some : (two : Bool) (is : Items) → StartsSome (heading two is)
heading-some false is h e = by (edge_at is) e
  where
    by : (o : Option (Edges × Items)) → option_map (λ (port : Edges × Items). (both_edges, port.1)) o ≡ Some h → HasSome h.0
    by None f = absurd (cc)
    by (Some p) f = let same : (both_edges, p.1) ≡ h = cc in subst (λ (x : Edges × Items). HasSome x.0) same refl
heading-some true is h e = by (edge_at is) (at-some is) e
  where
    second : (p : Edges × Items) → HasSome p.0 → (o : Option (Edges × Items)) → option_map (λ (q : Edges × Items). (p.0, q.1)) o ≡ Some h → HasSome h.0
    second p g None f = absurd (cc)
    second p g (Some q) f = let same : (p.0, q.1) ≡ h = cc in subst (λ (x : Edges × Items). HasSome x.0) same g

    by : (o : Option (Edges × Items)) → StartsSome o → option_and_then (λ (first : Edges × Items). option_map (λ (second : Edges × Items). (first.0, second.1)) (edge_at first.1)) o ≡ Some h → HasSome h.0
    by None g f = absurd (cc)
    by (Some p) g f = second p (g p refl) (edge_at p.1) f

-- Numbers in order

abbrev IsOrdered : Span → Type 0
IsOrdered None = Unit {0}
IsOrdered (Some r) = r.0 ≤ℤ r.1

abbrev AreOrdered : List Span → Type 0
AreOrdered [] = Unit {0}
AreOrdered (s ∷ ss) = IsOrdered s × AreOrdered ss

quotient-ordered : (negative : Bool) (q : ℕ) (left : Bool) → floor_of negative q left ≤ℤ ceiling_of negative q left
quotient-ordered true q true = grind (arith, ints)
quotient-ordered true q false = grind (arith, ints)
quotient-ordered false q true = grind (arith, ints)
quotient-ordered false q false = grind (arith, ints)

number-ordered : (scale : ℕ) (v : Number) → rounded_down scale v ≤ℤ rounded_up scale v
number-ordered scale v = quotient-ordered v.negative _ _

between : (a b c d : ℤ) → a ≤ℤ c → int_min a b ≤ℤ int_max c d
between a b c d h = omega (arith, ints, clamps, h)

wider-ordered : (a b : Span) → IsOrdered a → IsOrdered b → IsOrdered (wider a b)
wider-ordered None b h g = g
wider-ordered (Some a) None h g = h
wider-ordered (Some a) (Some b) h g = between a.0 b.0 a.1 b.1 h

abbrev GivesOrdered : Option Span → Type 0
GivesOrdered o = (s : Span) → o ≡ Some s → IsOrdered s

nothing-ordered : GivesOrdered (Some None)
nothing-ordered None e = tt
nothing-ordered (Some r) e = absurd (cc)

both-ordered : (a b : Option Span) → GivesOrdered a → GivesOrdered b → GivesOrdered (wider_of a b)
both-ordered None b h g s e = absurd (cc)
both-ordered (Some x) None h g s e = absurd (cc)
both-ordered (Some x) (Some y) h g s e = let same : wider x y ≡ s = cc in subst IsOrdered same (wider-ordered x y (h x refl) (g y refl))

part-ordered : (scale : ℕ) (bs : List ℕ) → GivesOrdered (part_span scale bs)
part-ordered scale [] = nothing-ordered
part-ordered scale (b ∷ bs) = λ s e. by s (number_of (b ∷ bs)) e
  where
    near : (s : Span) (v : Number) (far : Bool) → (if far then None else Some (Some (rounded_down scale v, rounded_up scale v))) ≡ Some s → IsOrdered s
    near s v true f = absurd (cc)
    near s v false f = let same : Some (rounded_down scale v, rounded_up scale v) ≡ s = cc in subst IsOrdered same (number-ordered scale v)

    by : (s : Span) (o : Option Number) → option_and_then (number_span scale) o ≡ Some s → IsOrdered s
    by s None f = absurd (cc)
    by s (Some v) f = near s v (is_far scale v) f

parts-ordered : (scale : ℕ) (ps : List (List ℕ)) → GivesOrdered (parts_span scale ps)
parts-ordered scale [] = nothing-ordered
parts-ordered scale (p ∷ ps) = both-ordered (part_span scale p) (parts_span scale ps) (part-ordered scale p) (parts-ordered scale ps)

value-ordered : (scale : ℕ) (is : Items) → GivesOrdered (value_span scale is)
value-ordered scale none = nothing-ordered
value-ordered scale (leaf w is) = both-ordered (parts_span scale (parts_of w)) (value_span scale is) (parts-ordered scale (parts_of w)) (value-ordered scale is)
value-ordered scale (quoted w is) = λ s e. absurd (cc)
value-ordered scale (list inner is) = λ s e. absurd (cc)

abbrev GivesAllOrdered : Option (List Span) → Type 0
GivesAllOrdered o = (ss : List Span) → o ≡ Some ss → AreOrdered ss

values-ordered : (scale : ℕ) (is : Items) → GivesAllOrdered (value_spans scale is)
values-ordered scale none ss e = let same : [] ≡ ss = cc in subst AreOrdered same tt
values-ordered scale (list inner is) ss e = by (value_span scale inner) (value_spans scale is) (value-ordered scale inner) (values-ordered scale is) e
  where
    by : (o : Option Span) (q : Option (List Span)) → GivesOrdered o → GivesAllOrdered q → joined (option_map one o) q ≡ Some ss → AreOrdered ss
    by None q h g f = absurd (cc)
    by (Some s) None h g f = absurd (cc)
    by (Some s) (Some ts) h g f = let same : s ∷ ts ≡ ss = cc in subst AreOrdered same (h s refl, g ts refl)
values-ordered scale (leaf w is) ss e = absurd (cc)
values-ordered scale (quoted w is) ss e = absurd (cc)

-- What is told

record IsFit (e : EdgeDelay) : Type 0 where
  pub edges : HasEdges e
  pub ordered : e.delay.least ≤ℤ e.delay.greatest

one-fit : (d : Delay) (edge speak : Edges) (s : Span) → HasSome edge → HasSome speak → IsOrdered s → All IsFit (told_one d edge speak s)
one-fit d edge speak None h g o = All-nil IsFit
one-fit d edge speak (Some r) h g o =
    All-cons IsFit (record { delay = with_span d r; edge = edge; speaks = speak }) [] (record { edges = record { edge = h; speaks = g }; ordered = o }) (All-nil IsFit)

told-fit : (d : Delay) (edge : Edges) (n place : ℕ) (ss : List Span) → HasSome edge → AreOrdered ss → All IsFit (told d edge n place ss)
told-fit d edge n place [] h o = All-nil IsFit
told-fit d edge n place (s ∷ ss) h o =
    All-append IsFit (told_one d edge (speaks n place) s) (told d edge n (suc place) ss) (one-fit d edge (speaks n place) s h (speaks-some n place) o.0) (told-fit d edge n (suc place) ss h o.1)

-- what is told stays fit
abbrev StaysFit : Progress → Option Progress → Type 0
StaysFit p o = All IsFit p.found → (q : Progress) → o ≡ Some q → All IsFit q.found

same-fit : (p : Progress) → StaysFit p (Some p)
same-fit p all q e = let same : p ≡ q = cc in subst (λ (x : Progress). All IsFit x.found) same all

none-fit : (p : Progress) → StaysFit p None
none-fit p all q e = absurd (cc)

then-fit : (p : Progress) (o : Option Progress) (f : Progress → Option Progress) → StaysFit p o → ((q : Progress) → StaysFit q (f q)) → StaysFit p (option_and_then f o)
then-fit p None f h g all q e = absurd (cc)
then-fit p (Some r) f h g all q e = g r (h all r refl) q e

either-fit : (p : Progress) (b : Bool) (o q : Option Progress) → StaysFit p o → StaysFit p q → StaysFit p (if b then o else q)
either-fit p true o q h g = h
either-fit p false o q h g = g

next-fit : (edge : Edges) (ss : List Span) (p : Progress) (ds : List Delay) → HasSome edge → AreOrdered ss → StaysFit p (take_next edge ss p ds)
next-fit edge ss p [] h o = none-fit p
next-fit edge ss p (d ∷ ds) h o = λ all q e.
    let same : p.found ++ told d edge (length ss) 0 ss ≡ q.found = found (record { scale = p.scale; left = ds; found = p.found ++ told d edge (length ss) 0 ss }) q e in
    subst (All IsFit) same (All-append IsFit p.found (told d edge (length ss) 0 ss) all (told-fit d edge (length ss) 0 ss h o))
  where
    found : (r q : Progress) → Some r ≡ Some q → r.found ≡ q.found
    found r q e = let same : r ≡ q = cc in ap (λ (x : Progress). x.found) same

keep-fit : (edge : Edges) (ss : List Span) (p : Progress) → HasSome edge → AreOrdered ss → StaysFit p (keep edge ss p)
keep-fit edge ss p h o = either-fit p (list_any is_some ss) (take_next edge ss p p.left) (Some p) (next-fit edge ss p p.left h o) (same-fit p)

each-fit : (edge : Edges) (ss : List Span) (p : Progress) → HasSome edge → AreOrdered ss → StaysFit p (keep_each edge ss p)
each-fit edge [] p h o = same-fit p
each-fit edge (s ∷ ss) p h o = then-fit p (keep edge (s ∷ []) p) (keep_each edge ss) (keep-fit edge (s ∷ []) p h (o.0, tt)) (λ q. each-fit edge ss q h o.1)

all-fit : (each : Bool) (edge : Edges) (ss : List Span) (p : Progress) → HasSome edge → AreOrdered ss → StaysFit p (keep_all each edge ss p)
all-fit each edge ss p h o = either-fit p each (keep_each edge ss p) (keep edge ss p) (each-fit edge ss p h o) (keep-fit edge ss p h o)

said-fit : (p : Progress) (k : List ℕ) (is : Items) → StaysFit p (said p k is)
said-fit p k is = λ all q e. by all q (heading (has_two_ports k) is) (heading-some (has_two_ports k) is) e
  where
    values : All IsFit p.found → (q : Progress) (h : Edges × Items) → HasSome h.0 → (o : Option (List Span)) → GivesAllOrdered o →
        option_and_then (λ (ss : List Span). keep_all (is_key (codes "SETUPHOLD") k) h.0 ss p) o ≡ Some q → All IsFit q.found
    values all q h g None i f = absurd (cc)
    values all q h g (Some ss) i f = all-fit (is_key (codes "SETUPHOLD") k) h.0 ss p g (i ss refl) all q f

    by : All IsFit p.found → (q : Progress) (o : Option (Edges × Items)) → StartsSome o →
        option_and_then (λ (h : Edges × Items). option_and_then (λ (ss : List Span). keep_all (is_key (codes "SETUPHOLD") k) h.0 ss p) (value_spans p.scale h.1)) o ≡ Some q → All IsFit q.found
    by all q None g f = absurd (cc)
    by all q (Some h) g f = values all q h (g h refl) (value_spans p.scale h.1) (values-ordered p.scale h.1) f

scale-fit : (p : Progress) (o : Option ℕ) → StaysFit p (option_map (with_scale p) o)
scale-fit p None all q e = absurd (cc)
scale-fit p (Some n) all q e = let same : with_scale p n ≡ q = cc in subst (λ (x : Progress). All IsFit x.found) same all

plain-fit : (p : Progress) (k : List ℕ) (is : Items) → StaysFit p (plain p k is)
plain-fit p k is =
    either-fit p (has_two_ports k || has_one_port k) (said p k is) (if is_key (codes "TIMESCALE") k then option_map (with_scale p) (scale_of is) else Some p) (said-fit p k is)
    (either-fit p (is_key (codes "TIMESCALE") k) (option_map (with_scale p) (scale_of is)) (Some p) (scale-fit p (scale_of is)) (same-fit p))

item-fit : (p : Progress) (is : Items) → StaysFit p (item p is) × StaysFit p (last_item p is) × StaysFit p (lone_item p is)
unfolding item last_item lone_item
item-fit p none = (none-fit p, none-fit p, none-fit p)
item-fit p (quoted s is) = (none-fit p, (item-fit p is).1, none-fit p)
item-fit p (leaf k is) = (
  either-fit p (is_key (codes "COND") k) (last_item p is) (if is_key (codes "CONDELSE") k then lone_item p is else plain p k is) (item-fit p is).1
      (either-fit p (is_key (codes "CONDELSE") k) (lone_item p is) (plain p k is) (item-fit p is).2 (plain-fit p k is)),
  (item-fit p is).1,
  none-fit p,
)
item-fit p (list inner is) = (
  none-fit p,
  either-fit p (is_none is) (item p inner) (last_item p is) (item-fit p inner).0 (item-fit p is).1,
  either-fit p (is_none is) (item p inner) None (item-fit p inner).0 (none-fit p),
)

after-fit : (p : Progress) (is : Items) → StaysFit p (after_items p is) × StaysFit p (after_list p is)
unfolding after_items after_list
after-fit p none = (same-fit p, none-fit p)
after-fit p (quoted s is) = (none-fit p, none-fit p)
after-fit p (leaf k is) = (none-fit p, either-fit p (is_block k) (after_items p is) (item p (leaf k is)) (after-fit p is).0 (item-fit p (leaf k is)).0)
after-fit p (list inner is) = (then-fit p (after_list p inner) (λ q. after_items q is) (after-fit p inner).1 (λ q. (after-fit q is).0), none-fit p)

-- The text

behind-fit : (ds : List Delay) (ts : List Token) (es : List EdgeDelay) → told_behind ds ts ≡ Some es → All IsFit es
behind-fit ds ts es e = by (after_items (start ds) (items ts)) (after-fit (start ds) (items ts)).0 e
  where
    by : (o : Option Progress) → StaysFit (start ds) o → option_map (λ (p : Progress). p.found) o ≡ Some es → All IsFit es
    by None g f = absurd (cc)
    by (Some p) g f = let same : p.found ≡ es = cc in subst (All IsFit) same (g (All-nil IsFit) p refl)

text-fit : (text : List ℕ) (ds : List Delay) (es : List EdgeDelay) → told_in text ds ≡ Some es → All IsFit es
text-fit text ds es e = by (after_head (tokens_of text)) e
  where
    by : (o : Option (List Token)) → option_and_then (told_behind ds) o ≡ Some es → All IsFit es
    by None f = absurd (cc)
    by (Some ts) f = behind-fit ds ts es f

pub have-edges : HaveEdges
have-edges text es told = All-weaker IsFit HasEdges (λ e h. h.edges) es (text-fit text told.0 es told.2)

-- Numbers in range

front : (P : EdgeDelay → Type 0) (xs ys : List EdgeDelay) → All P (xs ++ ys) → All P xs
front P [] ys h = All-nil P
front P (x ∷ xs) ys h = All-cons P x xs (All-head P x (xs ++ ys) h) (front P xs ys (All-tail P x (xs ++ ys) h))

back : (P : EdgeDelay → Type 0) (xs ys : List EdgeDelay) → All P (xs ++ ys) → All P ys
back P [] ys h = h
back P (x ∷ xs) ys h = back P xs ys (All-tail P x (xs ++ ys) h)

abbrev HasRange : EdgeDelay → Type 0
HasRange e = IsWithin e.delay

through : (x y z : ℤ) → x ≤ℤ y → y ≤ℤ z → x ≤ℤ z
through x y z h g = omega (arith, ints, h, g)

one-within : (d : Delay) (e : EdgeDelay) → IsWithin d → e.delay ≡ with_span d (e.delay.least, e.delay.greatest) → d.least ≤ℤ e.delay.least → e.delay.greatest ≤ℤ d.greatest → IsFit e → HasRange e
one-within d e w same low high fit =
    let subject : e.delay.subject ≡ d.subject = ap (λ (x : Delay). x.subject) same in (
      subst (λ (s : Subject). lowest s ≤ℤ e.delay.least) (sym subject) (through (lowest d.subject) d.least e.delay.least w.0 low),
      fit.ordered,
      through e.delay.greatest d.greatest MOST_DELAY high w.2,
    )

all-within : (es : List EdgeDelay) (ds : List Delay) → AreMerged es ds → All IsWithin ds → All IsFit es → All HasRange es
all-within es [] m w fit = subst (All HasRange) (sym m) (All-nil HasRange)
all-within es (d ∷ ds) m w fit =
    let fits = subst (All IsFit) m.2 fit in
    let mine = front IsFit m.0 m.1 fits in
    subst (All HasRange) (sym m.2)
    (All-append HasRange m.0 m.1
    (λ k x l. one-within d (get_or m.0 k x) (All-head IsWithin d ds w) (m.3.same k x l) (m.3.least k x l) (m.3.greatest k x l) (mine k x l))
    (all-within m.1 ds m.4 (All-tail IsWithin d ds w) (back IsFit m.0 m.1 fits)))

pub are-within : AreWithin → EdgeDelaysAreWithin
are-within within text es told =
    let merged = merge text told.0 told.1 in
    let same : merged.0 ≡ es = one-list merged.0 es (sym merged.1 ∙ told.2) in
    all-within es told.0 (subst (λ l. AreMerged l told.0) same merged.2) (within text told.0 told.1) (text-fit text told.0 es told.2)
  where
    one-list : (xs ys : List EdgeDelay) → Some xs ≡ Some ys → xs ≡ ys
    one-list xs ys e = cc
