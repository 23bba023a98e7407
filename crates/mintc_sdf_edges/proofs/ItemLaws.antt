-- Lists whose keyword says what they tell, token by token.
use Rattle.std.proofs.Common.{◌≡◌, ℕ, Bool, true, false, ◌||◌, if◌then◌else◌, List, Option, Some, None, option_map, option_and_then, codes, refl, sym, ap, ◌∙◌}
use Rattle.mintc_sdf_tokens.specs.Tokens.{Token}
use Rattle.mintc_sdf_tokens.specs.Items.{Items, leaf, items, after}
use Rattle.mintc_sdf_tokens.specs.Words.{is_key}
use Rattle.mintc_sdf_tokens.specs.Reading.{after_closing, word_at, inside, with_rest}
use Rattle.mintc_sdf_tokens.proofs.SharedInsideLaws.{inside-word, inside-same, inside-none, inside-open, inside-closed, inside-then, inside-then_none, closing-next}
use Rattle.mintc_sdf.specs.Forms.{scale_of}
use Rattle.mintc_sdf_edges.specs.declared.delays.Edges.{Edges}
use Rattle.mintc_sdf_edges.specs.Spans.{Span, value_spans}
use Rattle.mintc_sdf_edges.specs.Telling.{Progress, keep_all, has_one_port, has_two_ports, heading, said, with_scale, plain, item, last_item, lone_item}
use Rattle.mintc_sdf.proofs.SharedListLaws.{at-goes}

-- ports and values
module _ (p : Progress) (key : List ℕ) (two : Bool) (ports : two ≡ has_two_ports key) (ts : List Token) where
  pub said-lost : heading two (items ts) ≡ None → inside (said p key) ts ≡ None
  said-lost e =
      inside-none (said p key) ts
      (ap (λ b. option_and_then (λ (h : Edges × Items). option_and_then (λ ss. keep_all (is_key (codes "SETUPHOLD") key) h.0 ss p) (value_spans p.scale h.1)) (heading b (items ts))) (sym ports)
      ∙ ap (option_and_then (λ (h : Edges × Items). option_and_then (λ ss. keep_all (is_key (codes "SETUPHOLD") key) h.0 ss p) (value_spans p.scale h.1))) e)

  module _ (next : List Token) (edge : Edges) (at : (heading two (items ts) ≡ Some (edge, items next)) × (after next ≡ after ts)) where
    behind : inside (said p key) ts ≡ inside (λ is. option_and_then (λ ss. keep_all (is_key (codes "SETUPHOLD") key) edge ss p) (value_spans p.scale is)) next
    behind =
        ap (λ b. inside (λ is. option_and_then (λ (h : Edges × Items). option_and_then (λ ss. keep_all (is_key (codes "SETUPHOLD") key) h.0 ss p) (value_spans p.scale h.1)) (heading b is)) ts) (sym ports)
        ∙ at-goes (heading two) (λ (h : Edges × Items). option_and_then (λ ss. keep_all (is_key (codes "SETUPHOLD") key) h.0 ss p) (value_spans p.scale h.1)) ts next edge at

    pub said-apart : inside (value_spans p.scale) next ≡ None → inside (said p key) ts ≡ None
    said-apart e = behind ∙ inside-then_none (value_spans p.scale) (λ ss. keep_all (is_key (codes "SETUPHOLD") key) edge ss p) next e

    module _ (rest : List Token) (ss : List Span) (values : inside (value_spans p.scale) next ≡ Some (ss, rest)) (each : Bool) (kind : each ≡ is_key (codes "SETUPHOLD") key) where
      kept : inside (said p key) ts ≡ option_map (with_rest rest) (keep_all each edge ss p)
      kept =
          behind ∙ inside-then (value_spans p.scale) (λ ss. keep_all (is_key (codes "SETUPHOLD") key) edge ss p) next ss rest values
          ∙ ap (λ b. option_map (with_rest rest) (keep_all b edge ss p)) (sym kind)

      pub said-done : (q : Progress) → keep_all each edge ss p ≡ Some q → inside (said p key) ts ≡ Some (q, rest)
      said-done q e = kept ∙ ap (option_map (with_rest rest)) e

      pub said-over : keep_all each edge ss p ≡ None → inside (said p key) ts ≡ None
      said-over e = kept ∙ ap (option_map (with_rest rest)) e

-- by the keyword
pub plain-said : (p : Progress) (key : List ℕ) (ts : List Token) → (has_two_ports key || has_one_port key) ≡ true → inside (plain p key) ts ≡ inside (said p key) ts
plain-said p key ts e =
    inside-same (plain p key) (said p key) ts (λ is. ap (λ b. if b then said p key is else (if is_key (codes "TIMESCALE") key then option_map (with_scale p) (scale_of is) else Some p)) e)

plain-other : (p : Progress) (key : List ℕ) (is : Items) (b : Bool) → (has_two_ports key || has_one_port key) ≡ false → is_key (codes "TIMESCALE") key ≡ b →
    plain p key is ≡ (if b then option_map (with_scale p) (scale_of is) else Some p)
plain-other p key is b e f =
    ap (λ v. if v then said p key is else (if is_key (codes "TIMESCALE") key then option_map (with_scale p) (scale_of is) else Some p)) e
    ∙ ap (λ v. if v then option_map (with_scale p) (scale_of is) else Some p) f

module _ (p : Progress) (key : List ℕ) (ts : List Token) (silent : (has_two_ports key || has_one_port key) ≡ false) where
  pub plain-open : is_key (codes "TIMESCALE") key ≡ false → after_closing (after ts) ≡ None → inside (plain p key) ts ≡ None
  plain-open f e = inside-open (plain p key) ts e

  pub plain-passed : (rest : List Token) → is_key (codes "TIMESCALE") key ≡ false → after_closing (after ts) ≡ Some rest → inside (plain p key) ts ≡ Some (p, rest)
  plain-passed rest f e = inside-closed (plain p key) ts rest p (closing-next (after ts) rest e) (plain-other p key (items ts) false silent f)

  scale-form : is_key (codes "TIMESCALE") key ≡ true → inside (plain p key) ts ≡ inside (λ is. option_map (with_scale p) (scale_of is)) ts
  scale-form f = inside-same (plain p key) (λ is. option_map (with_scale p) (scale_of is)) ts (λ is. plain-other p key is true silent f)

  as-then : inside (λ is. option_map (with_scale p) (scale_of is)) ts ≡ inside (λ is. option_and_then (λ n. Some (with_scale p n)) (scale_of is)) ts
  as-then = inside-same (λ is. option_map (with_scale p) (scale_of is)) (λ is. option_and_then (λ n. Some (with_scale p n)) (scale_of is)) ts (λ is. by (scale_of is))
    where
      by : (o : Option ℕ) → option_map (with_scale p) o ≡ option_and_then (λ n. Some (with_scale p n)) o
      by None = refl
      by (Some n) = refl

  pub scale-lost : is_key (codes "TIMESCALE") key ≡ true → inside scale_of ts ≡ None → inside (plain p key) ts ≡ None
  scale-lost f e = scale-form f ∙ as-then ∙ inside-then_none scale_of (λ n. Some (with_scale p n)) ts e

  pub scale-done : (n : ℕ) (rest : List Token) → is_key (codes "TIMESCALE") key ≡ true → inside scale_of ts ≡ Some (n, rest) → inside (plain p key) ts ≡ Some (with_scale p n, rest)
  scale-done n rest f e = scale-form f ∙ as-then ∙ inside-then scale_of (λ n. Some (with_scale p n)) ts n rest e

-- a list that is no condition
pub item-plain : (p : Progress) (ts next : List Token) (k : List ℕ) → word_at ts ≡ Some (k, next) → is_key (codes "COND") k ≡ false → is_key (codes "CONDELSE") k ≡ false →
    inside (item p) ts ≡ inside (plain p k) next
unfolding item
item-plain p ts next k e f g = inside-word (item p) ts k next e ∙ inside-same (λ is. item p (leaf k is)) (plain p k) next (λ is. both is)
  where
    both : (is : Items) → (if is_key (codes "COND") k then last_item p is else (if is_key (codes "CONDELSE") k then lone_item p is else plain p k is)) ≡ plain p k is
    both is = ap (λ b. if b then last_item p is else (if is_key (codes "CONDELSE") k then lone_item p is else plain p k is)) f ∙ ap (λ b. if b then lone_item p is else plain p k is) g
