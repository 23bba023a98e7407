-- A list that comes next, and what a form gives of it.
use Rattle.std.proofs.Common.{◌≡◌, List, ◌∷◌, Option, Some, None, option_map, option_and_then, refl, sym, ap, ◌∙◌, arith}
use Rattle.mintc_sdf_tokens.specs.Tokens.{Token, opening, closing}
use Rattle.mintc_sdf_tokens.specs.Items.{Items, items, after}
use Rattle.mintc_sdf.specs.Forms.{with_items, list_at}
use Rattle.mintc_sdf_tokens.specs.Reading.{after_opening, after_closing, inside, inside_by, with_rest}
use Rattle.mintc_sdf_tokens.proofs.SharedInsideLaws.{rest-none, inside-some, no-list, opening-next, opened, unopened}

-- a list that comes next
pub at-none : {A : Type 0} (f : Items → Option A) (ts : List Token) → after_opening ts ≡ None → list_at f (items ts) ≡ None
at-none f ts e = grind (arith, no-list ts e)

pub at-bad : {A : Type 0} (f : Items → Option A) (ts next : List Token) → after_opening ts ≡ Some next → inside f next ≡ None → list_at f (items ts) ≡ None
at-bad f ts next e g = ap (λ l. list_at f (items l)) (opening-next ts next e) ∙ by (after next) refl g
  where
    by : (af : List Token) → after next ≡ af → inside_by f (items next) (after next) ≡ None → list_at f (items (opening ∷ next)) ≡ None
    by (closing ∷ r) k h = ap (list_at f) (opened next r k).0 ∙ ap (option_map (with_items (items r))) (rest-none (f (items next)) r (sym (ap (inside_by f (items next)) k) ∙ h))
    by _ k h = ap (list_at f) (unopened next (ap after_closing k)).0

pub at-some : {A : Type 0} (f : Items → Option A) (ts next rest : List Token) (a : A) → after_opening ts ≡ Some next → inside f next ≡ Some (a, rest) →
    (list_at f (items ts) ≡ Some (a, items rest)) × (after rest ≡ after ts)
at-some f ts next rest a e g =
    let s = inside-some f next a rest g in
    let o = opened next rest s.0 in
    let t = opening-next ts next e in
    (ap (λ l. list_at f (items l)) t ∙ ap (list_at f) o.0 ∙ ap (option_map (with_items (items rest))) s.1, sym (ap after t ∙ o.1))

-- a form that goes on behind another
pub at-goes : {A B : Type 0} (p : Items → Option (A × Items)) (k : A × Items → Option B) (ts next : List Token) (a : A) → (p (items ts) ≡ Some (a, items next)) × (after next ≡ after ts) →
    inside (λ is. option_and_then k (p is)) ts ≡ inside (λ is. k (a, is)) next
at-goes p k ts next a e = ap (inside_by (λ is. option_and_then k (p is)) (items ts)) (sym e.1) ∙ by (after next) (ap (option_and_then k) e.0)
  where
    by : (af : List Token) → option_and_then k (p (items ts)) ≡ k (a, items next) → inside_by (λ is. option_and_then k (p is)) (items ts) af ≡ inside_by (λ is. k (a, is)) (items next) af
    by (closing ∷ r) g = ap (option_map (with_rest r)) g
    by _ g = refl
