-- Conditions of definitions, checks and ports: what the walk finds, shown where its list was read.
use Rattle.std.proofs.Common.{◌≡◌, ℕ, Bool, true, false, if◌then◌else◌, List, [], ◌∷◌, Option, Some, None, option_map, codes, refl, sym, ap, ◌∙◌, arith}
use Rattle.mintc_sdf_tokens.specs.declared.conditions.Layer.{Layer}
use Rattle.mintc_sdf_tokens.specs.Tokens.{Token}
use Rattle.mintc_sdf_tokens.specs.Items.{Items, leaf, count, items, fronts}
use Rattle.mintc_sdf_tokens.specs.Words.{is_key}
use Rattle.mintc_sdf_tokens.specs.Reading.{word_at, inside, with_rest}
use Rattle.mintc_sdf_tokens.specs.Conditions.{kind_of, condition_at, walked}
use Rattle.mintc_sdf_tokens.proofs.SharedInsideLaws.{inside-same, word-next}
use Rattle.mintc_sdf_tokens.proofs.SharedConditionLaws.{more_by, limited, Form, layer-word, Plain, found-none, found-inside}
use Rattle.mintc_sdf.specs.Forms.{with_items}

-- what an item gives, and what is left behind it
abbrev pub first_of : {A : Type 0} → A × Items → A
first_of p = p.0

pub first-with : {A : Type 0} (is : Items) (o : Option A) → option_map first_of (option_map (with_items is) o) ≡ o
first-with is o = grind arith

-- what an item gives, shown where its list was read
abbrev pub shown : {A : Type 0} → List Token → Option (A × Items) → Option (A × List Token)
shown rest None = None
shown rest (Some p) = Some (p.0, rest)

shown-first : {A : Type 0} (rest : List Token) (o : Option (A × Items)) → option_map (with_rest rest) (option_map first_of o) ≡ shown rest o
shown-first rest o = grind arith

-- ---- conditions of definitions, checks or ports, each of which is read by such a form
module _ {A : Type 0} (both : Bool) (one last : Items → Option A) (listed : Items → Option (A × Items))
    (kind : (k : List ℕ) (l : Layer) → kind_of both k ≡ Some l → (is : Items) → one (leaf k is) ≡ limited (more_by (count is) l) (last is))
    (form : Form both last (λ is. option_map first_of (listed is))) where
  -- one that is a condition, from its keyword on
  by-word : (ts next : List Token) (l : Layer) → condition_at both ts ≡ Some (l, next) → inside one ts ≡ inside (λ is. limited (more_by (count is) l) (last is)) next
  unfolding fronts
  by-word ts next l e =
      let w = layer-word both ts next l e in
      ap (inside one) w.1 ∙ inside-same (λ is. one (leaf w.0 is)) (λ is. limited (more_by (count is) l) (last is)) next (kind w.0 l w.2)

  pub found : (ts next start rest : List Token) (l : Layer) → condition_at both ts ≡ Some (l, next) → walked both (l ∷ []) None 0 next ≡ Some (start, rest) →
      (inside one ts ≡ shown rest (listed (items start))) × Plain both start
  found ts next start rest l e f =
      let g = found-inside both last (λ is. option_map first_of (listed is)) (λ is. limited (more_by (count is) l) (last is)) form l next start rest (λ is. refl) f in
      (by-word ts next l e ∙ g.0 ∙ shown-first rest (listed (items start)), g.1)

  pub not-found : (ts next : List Token) (l : Layer) → condition_at both ts ≡ Some (l, next) → walked both (l ∷ []) None 0 next ≡ None → inside one ts ≡ None
  not-found ts next l e f =
      by-word ts next l e ∙ found-none both last (λ is. option_map first_of (listed is)) (λ is. limited (more_by (count is) l) (last is)) form l next (λ is. refl) f

-- a word that opens no condition
pub plain-word : (both : Bool) (ts next : List Token) (k : List ℕ) → word_at ts ≡ Some (k, next) → condition_at both ts ≡ None → kind_of both k ≡ None
plain-word both ts next k e f = by (kind_of both k) (sym (ap (condition_at both) (word-next ts k next e)) ∙ f)
  where
    by : (o : Option Layer) → option_map (with_rest next) o ≡ None → o ≡ None
    by None g = refl
    by (Some m) g = absurd (cc)

pub plain-def : (k : List ℕ) → kind_of true k ≡ None → (is_key (codes "COND") k ≡ false) × (is_key (codes "CONDELSE") k ≡ false)
plain-def k e = grind (arith, e)

pub plain-port : (k : List ℕ) → kind_of false k ≡ None → is_key (codes "COND") k ≡ false
plain-port k e = grind (arith, e)
