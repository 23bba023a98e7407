-- Spans of parts, of words and of values, one after the other.
use Rattle.std.proofs.Common.{◌≡◌, ℕ, ◌+◌, ◌<◌, List, [], ◌∷◌, ◌++◌, length, take, drop, Option, Some, None, option_map, refl, sym, ap, ◌∙◌, arith, append_assoc, append-nil, ℤ}
use Rattle.std.specs.Int.{int_min, int_max}
use Rattle.std.proofs.lemmas.Int.{ints}
use Rattle.mintc_sdf_tokens.specs.Tokens.{Token, closing}
use Rattle.mintc_sdf_tokens.specs.Items.{Items, leaf, items, after}
use Rattle.mintc_sdf_tokens.specs.Reading.{after_closing, after_opening, word_at, inside, inside_by, with_rest}
use Rattle.mintc_sdf_tokens.proofs.SharedInsideLaws.{opening-next, needs-list-or-end, needs-word-or-end, list-none, list-some, inside-shorter, inside-word, inside-end, inside-none}
use Rattle.mintc_sdf.specs.Forms.{parts_of, joined, one}
use Rattle.mintc_sdf.specs.Values.{colon_size}
use Rattle.mintc_sdf.proofs.SharedPartLaws.{one-part, next-part}
use Rattle.mintc_sdf_edges.specs.Spans.{Span, wider, wider_of, part_span, parts_span, value_span, value_spans}

-- The wider of spans

min-assoc : (x y z : ℤ) → int_min (int_min x y) z ≡ int_min x (int_min y z)
min-assoc x y z = grind (arith, ints)

max-assoc : (x y z : ℤ) → int_max (int_max x y) z ≡ int_max x (int_max y z)
max-assoc x y z = grind (arith, ints)

pub wider-assoc : (a b c : Span) → wider (wider a b) c ≡ wider a (wider b c)
wider-assoc None b c = refl
wider-assoc (Some a) None c = refl
wider-assoc (Some a) (Some b) None = refl
wider-assoc (Some a) (Some b) (Some c) = ap (λ x. Some (x, int_max (int_max a.1 b.1) c.1)) (min-assoc a.0 b.0 c.0) ∙ ap (λ y. Some (int_min a.0 (int_min b.0 c.0), y)) (max-assoc a.1 b.1 c.1)

pub wider-nothing : (a : Span) → wider a None ≡ a
wider-nothing None = refl
wider-nothing (Some a) = refl

pub wider_of-assoc : (a b c : Option Span) → wider_of (wider_of a b) c ≡ wider_of a (wider_of b c)
wider_of-assoc None b c = refl
wider_of-assoc (Some a) None c = refl
wider_of-assoc (Some a) (Some b) None = refl
wider_of-assoc (Some a) (Some b) (Some c) = ap Some (wider-assoc a b c)

pub wider_of-nothing : (a : Option Span) → wider_of a (Some None) ≡ a
wider_of-nothing None = refl
wider_of-nothing (Some a) = ap Some (wider-nothing a)

pub nothing-wider_of : (a : Option Span) → wider_of (Some None) a ≡ a
nothing-wider_of None = refl
nothing-wider_of (Some a) = refl

-- Parts

take-all : (bs : List ℕ) → take (length bs) bs ≡ bs
take-all [] = refl
take-all (b ∷ bs) = ap (λ l. b ∷ l) (take-all bs)

-- the last part of a word
pub word-end : (scale : ℕ) (whole span : Option Span) (bs : List ℕ) (n : ℕ) → whole ≡ wider_of span (parts_span scale (parts_of bs)) → n ≡ colon_size bs → n ≡ length bs →
    wider_of span (part_span scale (take n bs)) ≡ whole
word-end scale whole span bs n e h l =
    ap (λ k. wider_of span (part_span scale (take k bs))) l
    ∙ ap (λ p. wider_of span (part_span scale p)) (take-all bs)
    ∙ ap (wider_of span) (sym (wider_of-nothing (part_span scale bs)))
    ∙ sym (e ∙ ap (λ ps. wider_of span (parts_span scale ps)) (one-part bs n h l))

-- and one before
pub word-turn : (scale : ℕ) (whole span : Option Span) (bs rest : List ℕ) (n : ℕ) → whole ≡ wider_of span (parts_span scale (parts_of bs)) → n ≡ colon_size bs → n < length bs → rest ≡ drop (n + 1) bs →
    whole ≡ wider_of (wider_of span (part_span scale (take n bs))) (parts_span scale (parts_of rest))
word-turn scale whole span bs rest n e h l left =
    e ∙ ap (λ ps. wider_of span (parts_span scale ps)) (next-part bs rest n h l left) ∙ sym (wider_of-assoc span (part_span scale (take n bs)) (parts_span scale (parts_of rest)))

pub word-start : (scale : ℕ) (bs : List ℕ) → parts_span scale (parts_of bs) ≡ wider_of (Some None) (parts_span scale (parts_of bs))
word-start scale bs = sym (nothing-wider_of (parts_span scale (parts_of bs)))

-- Values

-- a span in front of that of what is left
abbrev pub widened : Span → Option (Span × List Token) → Option (Span × List Token)
widened s None = None
widened s (Some r) = Some (wider s r.0, r.1)

widened-twice : (s t : Span) (o : Option (Span × List Token)) → widened s (widened t o) ≡ widened (wider s t) o
widened-twice s t None = refl
widened-twice s t (Some r) = ap (λ u. Some (u, r.1)) (sym (wider-assoc s t r.0))

pub widened-start : (o : Option (Span × List Token)) → o ≡ widened None o
widened-start None = refl
widened-start (Some r) = refl

inside-wider : (s : Span) (f : Items → Option Span) (ts : List Token) → inside (λ is. wider_of (Some s) (f is)) ts ≡ widened s (inside f ts)
inside-wider s f ts = by (after ts)
  where
    some : (o : Option Span) (r : List Token) → option_map (with_rest r) (wider_of (Some s) o) ≡ widened s (option_map (with_rest r) o)
    some None r = refl
    some (Some t) r = refl

    by : (af : List Token) → inside_by (λ is. wider_of (Some s) (f is)) (items ts) af ≡ widened s (inside_by f (items ts) af)
    by (closing ∷ r) = some (f (items ts)) r
    by _ = refl

-- one word of a value, where what is left completes what is known
module _ (scale : ℕ) (span : Span) (whole : Option (Span × List Token)) (ts : List Token) (left : whole ≡ widened span (inside (value_span scale) ts)) where
  pub value-end : (rest : List Token) → after_closing ts ≡ Some rest → whole ≡ Some (span, rest)
  value-end rest e = left ∙ ap (widened span) (inside-end (value_span scale) ts rest e) ∙ ap (λ s. Some (s, rest)) (wider-nothing span)

  pub value-other : after_closing ts ≡ None → word_at ts ≡ None → whole ≡ None
  value-other e f = left ∙ ap (widened span) (needs-word-or-end (value_span scale) ts (λ _ _. refl) (λ _ _. refl) e f)

  pub value-bad : (w : List ℕ) (rest : List Token) → word_at ts ≡ Some (w, rest) → parts_span scale (parts_of w) ≡ None → whole ≡ None
  value-bad w rest e f =
      left
      ∙ ap (widened span) (inside-word (value_span scale) ts w rest e ∙ inside-none (λ is. value_span scale (leaf w is)) rest (ap (λ o. wider_of o (value_span scale (items rest))) f))

  pub value-step : (w : List ℕ) (rest : List Token) (s : Span) → word_at ts ≡ Some (w, rest) → parts_span scale (parts_of w) ≡ Some s → whole ≡ widened (wider span s) (inside (value_span scale) rest)
  value-step w rest s e f =
      left
      ∙ ap (widened span) (inside-word (value_span scale) ts w rest e ∙ ap (λ o. inside (λ is. wider_of o (value_span scale is)) rest) f ∙ inside-wider s (value_span scale) rest)
      ∙ widened-twice span s (inside (value_span scale) rest)

-- Lists of values

-- spans in front of those of what is left
abbrev pub appended : List Span → Option (List Span × List Token) → Option (List Span × List Token)
appended ss None = None
appended ss (Some r) = Some (ss ++ r.0, r.1)

appended-twice : (ss ts : List Span) (o : Option (List Span × List Token)) → appended ss (appended ts o) ≡ appended (ss ++ ts) o
appended-twice ss ts None = refl
appended-twice ss ts (Some r) = ap (λ l. Some (l, r.1)) (sym (append_assoc ss ts r.0))

pub appended-start : (ss : List Span) (o : Option (List Span × List Token)) → ss ≡ [] → o ≡ appended ss o
appended-start ss None e = refl
appended-start ss (Some r) e = ap (λ l. Some (l ++ r.0, r.1)) (sym e)

inside-joined : (ss : List Span) (f : Items → Option (List Span)) (ts : List Token) → inside (λ is. joined (Some ss) (f is)) ts ≡ appended ss (inside f ts)
inside-joined ss f ts = by (after ts)
  where
    some : (o : Option (List Span)) (r : List Token) → option_map (with_rest r) (joined (Some ss) o) ≡ appended ss (option_map (with_rest r) o)
    some None r = refl
    some (Some t) r = refl

    by : (af : List Token) → inside_by (λ is. joined (Some ss) (f is)) (items ts) af ≡ appended ss (inside_by f (items ts) af)
    by (closing ∷ r) = some (f (items ts)) r
    by _ = refl

module _ (scale : ℕ) (ss : List Span) (whole : Option (List Span × List Token)) (ts : List Token) (left : whole ≡ appended ss (inside (value_spans scale) ts)) where
  pub values-end : (rest : List Token) → after_closing ts ≡ Some rest → whole ≡ Some (ss, rest)
  values-end rest e = left ∙ ap (appended ss) (inside-end (value_spans scale) ts rest e) ∙ ap (λ l. Some (l, rest)) (append-nil ss)

  pub values-other : after_closing ts ≡ None → after_opening ts ≡ None → whole ≡ None
  values-other e f = left ∙ ap (appended ss) (needs-list-or-end (value_spans scale) ts (λ _ _. refl) (λ _ _. refl) e f)

  pub values-bad : (next : List Token) → after_opening ts ≡ Some next → inside (value_span scale) next ≡ None → whole ≡ None
  values-bad next e f =
      left
      ∙ ap (λ l. appended ss (inside (value_spans scale) l)) (opening-next ts next e)
      ∙ ap (appended ss) (list-none (value_span scale) (value_spans scale) next (λ inner is g. ap (λ o. joined (option_map one o) (value_spans scale is)) g) f)

  pub values-step : (next rest : List Token) (s : Span) → after_opening ts ≡ Some next → inside (value_span scale) next ≡ Some (s, rest) →
      (whole ≡ appended (ss ++ s ∷ []) (inside (value_spans scale) rest)) × (length rest < length ts)
  values-step next rest s e f = (
    left
        ∙ ap (λ l. appended ss (inside (value_spans scale) l)) (opening-next ts next e)
        ∙ ap (appended ss) (list-some (value_span scale) (value_spans scale) (λ is. joined (Some (s ∷ [])) (value_spans scale is)) next s rest (λ inner is g. ap (λ o. joined (option_map one o) (value_spans scale is)) g) f
        ∙ inside-joined (s ∷ []) (value_spans scale) rest)
        ∙ appended-twice ss (s ∷ []) (inside (value_spans scale) rest),
    omega (arith, inside-shorter (value_span scale) next s rest f, ap length (opening-next ts next e)),
  )
