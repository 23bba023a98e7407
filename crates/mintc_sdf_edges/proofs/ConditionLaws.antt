-- Conditions of items and of ports: what the walk finds is what the forms speak of.
use Rattle.std.proofs.Common.{◌≡◌, ℕ, Bool, true, false, if◌then◌else◌, List, [], ◌∷◌, Option, Some, None, option_map, codes, refl, sym, ap, ◌∙◌, arith}
use Rattle.mintc_sdf_tokens.specs.declared.conditions.Layer.{Layer}
use Rattle.mintc_sdf_tokens.specs.declared.conditions.Layer.TheVariants as layer
use Rattle.mintc_sdf_tokens.specs.Tokens.{Token}
use Rattle.mintc_sdf_tokens.specs.Items.{Items, leaf, is_none, count, items}
use Rattle.mintc_sdf_tokens.specs.Words.{is_key}
use Rattle.mintc_sdf_tokens.specs.Reading.{after_opening, inside}
use Rattle.mintc_sdf_tokens.specs.Conditions.{kind_of, condition_at, walked}
use Rattle.mintc_sdf_tokens.proofs.SharedConditionLaws.{more_by, more-any, more-over, limited, Form, Plain, found-inside}
use Rattle.mintc_sdf.specs.Forms.{list_at}
use Rattle.mintc_sdf_edges.specs.declared.delays.Edges.{Edges}
use Rattle.mintc_sdf_edges.specs.Edges.{inner_edge, last_edge, edge_at}
use Rattle.mintc_sdf_edges.specs.Telling.{Progress, item, last_item, lone_item}
use Rattle.mintc_sdf.proofs.SharedFoundLaws.{first_of, first-with, shown, found, not-found}
use Rattle.mintc_sdf.proofs.SharedListLaws.{at-bad, at-some}

-- Definitions and checks

abbrev def_at : Progress → Items → Option Progress
def_at p is = option_map first_of (list_at (item p) is)

-- a COND gives what its last item gives, a CONDELSE what its only one gives
def-any : (p : Progress) (is : Items) → last_item p is ≡ limited (more_by (count is) layer.Any) (last_item p is)
def-any p is = ap (λ l. limited l (last_item p is)) (sym (more-any (count is)))

def-one : (p : Progress) (is : Items) → lone_item p is ≡ limited (more_by (count is) layer.Empty) (last_item p is)
unfolding last_item lone_item more_by
def-one p is = grind (arith, more-over)

def-kind : (p : Progress) (k : List ℕ) (l : Layer) → kind_of true k ≡ Some l → (is : Items) → item p (leaf k is) ≡ limited (more_by (count is) l) (last_item p is)
unfolding item
def-kind p k l e is = by (is_key (codes "COND") k) refl (is_key (codes "CONDELSE") k) refl e
  where
    by : (a : Bool) → is_key (codes "COND") k ≡ a → (b : Bool) → is_key (codes "CONDELSE") k ≡ b → (if a then Some layer.Any else (if b then Some layer.Empty else None)) ≡ Some l →
        item p (leaf k is) ≡ limited (more_by (count is) l) (last_item p is)
    by true f b g h = cc (f, def-any p is, h)
    by false f true g h = cc (f, g, def-one p is, h)
    by false f false g h = absurd (cc)

def-form : (p : Progress) → Form true (last_item p) (def_at p)
unfolding last_item
def-form p = record {
  nothing = refl;
  leaf-is = λ w is. leaf-is is;
  quoted-is = λ w is. leaf-is is;
  list-is = λ inner is. ap (λ o. if is_none is then o else last_item p is) (sym (first-with is (item p inner)));
  kind-is = λ k js is l e. first-with is (item p (leaf k js)) ∙ def-kind p k l e js;
}
  where
    leaf-is : (is : Items) → last_item p is ≡ (if is_none is then None else last_item p is)
    leaf-is is = grind arith

-- an item that is a condition
pub def-found : (p : Progress) (ts next start rest : List Token) (l : Layer) → condition_at true ts ≡ Some (l, next) → walked true (l ∷ []) None 0 next ≡ Some (start, rest) →
    (inside (item p) ts ≡ shown rest (list_at (item p) (items start))) × Plain true start
def-found p = found true (item p) (last_item p) (list_at (item p)) (def-kind p) (def-form p)

pub plain-there : (p : Progress) (next start rest : List Token) (l : Layer) → walked true (l ∷ []) None 0 next ≡ Some (start, rest) → Plain true start
plain-there p next start rest l f = (found-inside true (last_item p) (def_at p) (λ is. limited (more_by (count is) l) (last_item p is)) (def-form p) l next start rest (λ is. refl) f).1

pub def-found_none : (p : Progress) (ts next : List Token) (l : Layer) → condition_at true ts ≡ Some (l, next) → walked true (l ∷ []) None 0 next ≡ None → inside (item p) ts ≡ None
def-found_none p = not-found true (item p) (last_item p) (list_at (item p)) (def-kind p) (def-form p)

-- Ports

abbrev port_item : Items → Option Edges
port_item is = option_map first_of (edge_at is)

port-kind : (k : List ℕ) (l : Layer) → kind_of false k ≡ Some l → (is : Items) → inner_edge (leaf k is) ≡ limited (more_by (count is) l) (last_edge is)
unfolding inner_edge
port-kind k l e is = by (is_key (codes "COND") k) refl e
  where
    by : (a : Bool) → is_key (codes "COND") k ≡ a → (if a then Some layer.Any else None) ≡ Some l → inner_edge (leaf k is) ≡ limited (more_by (count is) l) (last_edge is)
    by false f h = absurd (cc)
    by true f h = cc (f, more-any (count is), h)

port-form : Form false last_edge port_item
unfolding last_edge
port-form = record {
  nothing = refl;
  leaf-is = λ w is. refl;
  quoted-is = λ w is. refl;
  list-is = λ inner is. ap (λ o. if is_none is then o else last_edge is) (sym (first-with is (inner_edge inner)));
  kind-is = λ k js is l e. first-with is (inner_edge (leaf k js)) ∙ port-kind k l e js;
}

pub port-found : (ts next start rest : List Token) (l : Layer) → condition_at false ts ≡ Some (l, next) → walked false (l ∷ []) None 0 next ≡ Some (start, rest) →
    (inside inner_edge ts ≡ shown rest (edge_at (items start))) × Plain false start
port-found = found false inner_edge last_edge edge_at port-kind port-form

pub port-found_none : (ts next : List Token) (l : Layer) → condition_at false ts ≡ Some (l, next) → walked false (l ∷ []) None 0 next ≡ None → inside inner_edge ts ≡ None
port-found_none = not-found false inner_edge last_edge edge_at port-kind port-form

-- what an item tells, shown where a condition ends
pub item-shown : (p q : Progress) (o : Option (Progress × List Token)) (ts next end rest : List Token) → o ≡ shown rest (list_at (item p) (items ts)) → after_opening ts ≡ Some next →
    inside (item p) next ≡ Some (q, end) → o ≡ Some (q, rest)
item-shown p q o ts next end rest e f h = e ∙ ap (shown rest) (at-some (item p) ts next end q f h).0

pub item-hidden : (p : Progress) (o : Option (Progress × List Token)) (ts next rest : List Token) → o ≡ shown rest (list_at (item p) (items ts)) → after_opening ts ≡ Some next →
    inside (item p) next ≡ None → o ≡ None
item-hidden p o ts next rest e f h = e ∙ ap (shown rest) (at-bad (item p) ts next f h)
