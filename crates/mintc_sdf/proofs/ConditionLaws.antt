-- Conditions of definitions and of ports: what the walk finds is what the forms speak of.
use Rattle.std.proofs.Common.{◌≡◌, ℕ, Bool, true, false, true≢false, if◌then◌else◌, List, [], ◌∷◌, Option, Some, None, option_map, codes, bytes_eq, refl, sym, ap, ◌∙◌, arith}
use Rattle.std.specs.Str.{str_to_ascii_lowercase}
use Rattle.std.proofs.lemmas.Slice.Eq.{bytes_eq-Decides}
use Rattle.mintc_sdf_tokens.specs.declared.conditions.Layer.{Layer}
use Rattle.mintc_sdf_tokens.specs.declared.conditions.Layer.TheVariants as layer
use Rattle.mintc_sdf_tokens.specs.Tokens.{Token}
use Rattle.mintc_sdf_tokens.specs.Items.{Items, leaf, is_none, count, items}
use Rattle.mintc_sdf_tokens.specs.Words.{is_key, is_edge}
use Rattle.mintc_sdf.specs.Forms.{Claim, list_at, inner_def, last_def, lone_def, inner_port, last_port, port_at}
use Rattle.mintc_sdf_tokens.specs.Reading.{inside}
use Rattle.mintc_sdf_tokens.specs.Conditions.{kind_of, condition_at, walked}
use Rattle.mintc_sdf_tokens.proofs.SharedConditionLaws.{more_by, more-any, more-over, limited, Form, Plain}
use Rattle.mintc_sdf.proofs.SharedFoundLaws.{first_of, first-with, shown, found, not-found}

-- distinct keywords
keys-differ : (a b w : List ℕ) → is_key a w ≡ true → is_key b w ≡ bytes_eq (str_to_ascii_lowercase a) (str_to_ascii_lowercase b)
keys-differ a b w e = ap (λ l. bytes_eq l (str_to_ascii_lowercase b)) ((bytes_eq-Decides (str_to_ascii_lowercase w) (str_to_ascii_lowercase a)).0 e)

-- Definitions

abbrev def_at : ℕ → Items → Option Claim
def_at d is = option_map first_of (list_at (inner_def d) is)

-- a COND gives what its last item gives, a CONDELSE what its only one gives
def-any : (d : ℕ) (is : Items) → last_def d is ≡ limited (more_by (count is) layer.Any) (last_def d is)
def-any d is = ap (λ l. limited l (last_def d is)) (sym (more-any (count is)))

def-one : (d : ℕ) (is : Items) → lone_def d is ≡ limited (more_by (count is) layer.Empty) (last_def d is)
unfolding last_def lone_def more_by
def-one d is = grind (arith, more-over)

def-kind : (d : ℕ) (k : List ℕ) (l : Layer) → kind_of true k ≡ Some l → (is : Items) → inner_def d (leaf k is) ≡ limited (more_by (count is) l) (last_def d is)
unfolding inner_def
def-kind d k l e is = by (is_key (codes "COND") k) refl (is_key (codes "CONDELSE") k) refl e
  where
    by : (a : Bool) → is_key (codes "COND") k ≡ a → (b : Bool) → is_key (codes "CONDELSE") k ≡ b → (if a then Some layer.Any else (if b then Some layer.Empty else None)) ≡ Some l →
        inner_def d (leaf k is) ≡ limited (more_by (count is) l) (last_def d is)
    by true f b g h =
        cc (keys-differ (codes "COND") (codes "IOPATH") k f, keys-differ (codes "COND") (codes "INTERCONNECT") k f, keys-differ (codes "COND") (codes "PORT") k f, f, def-any d is, h)
    by false f true g h =
        cc (keys-differ (codes "CONDELSE") (codes "IOPATH") k g, keys-differ (codes "CONDELSE") (codes "INTERCONNECT") k g, keys-differ (codes "CONDELSE") (codes "PORT") k g, f, g, def-one d is, h)
    by false f false g h = absurd (cc)

def-form : (d : ℕ) → Form true (last_def d) (def_at d)
unfolding last_def
def-form d = record {
  nothing = refl;
  leaf-is = λ w is. leaf-is is;
  quoted-is = λ w is. leaf-is is;
  list-is = λ inner is. ap (λ o. if is_none is then o else last_def d is) (sym (first-with is (inner_def d inner)));
  kind-is = λ k js is l e. first-with is (inner_def d (leaf k js)) ∙ def-kind d k l e js;
}
  where
    leaf-is : (is : Items) → last_def d is ≡ (if is_none is then None else last_def d is)
    leaf-is is = grind arith

-- a definition that is a condition
pub def-found : (d : ℕ) (ts next start rest : List Token) (l : Layer) → condition_at true ts ≡ Some (l, next) → walked true (l ∷ []) None 0 next ≡ Some (start, rest) →
    (inside (inner_def d) ts ≡ shown rest (list_at (inner_def d) (items start))) × Plain true start
def-found d = found true (inner_def d) (last_def d) (list_at (inner_def d)) (def-kind d) (def-form d)

pub def-found_none : (d : ℕ) (ts next : List Token) (l : Layer) → condition_at true ts ≡ Some (l, next) → walked true (l ∷ []) None 0 next ≡ None → inside (inner_def d) ts ≡ None
def-found_none d = not-found true (inner_def d) (last_def d) (list_at (inner_def d)) (def-kind d) (def-form d)

-- Ports

abbrev item_at : Items → Option (List ℕ)
item_at is = option_map first_of (port_at is)

no-edge : (k : List ℕ) → is_key (codes "COND") k ≡ true → is_edge k ≡ false
no-edge k e =
    cc (
      keys-differ (codes "COND") (codes "posedge") k e,
      keys-differ (codes "COND") (codes "negedge") k e,
      signal (codes "01") refl,
      signal (codes "10") refl,
      signal (codes "0z") refl,
      signal (codes "z1") refl,
      signal (codes "1z") refl,
      signal (codes "z0") refl,
    )
  where
    signal : (w : List ℕ) → bytes_eq (str_to_ascii_lowercase w) (codes "cond") ≡ false → bytes_eq k w ≡ false
    signal w f = one (bytes_eq k w) refl
      where
        one : (b : Bool) → bytes_eq k w ≡ b → b ≡ false
        one false g = refl
        one true g = absurd (true≢false (sym e ∙ ap (is_key (codes "COND")) ((bytes_eq-Decides k w).0 g) ∙ f))

port-kind : (k : List ℕ) (l : Layer) → kind_of false k ≡ Some l → (is : Items) → inner_port (leaf k is) ≡ limited (more_by (count is) l) (last_port is)
unfolding inner_port
port-kind k l e is = by (is_key (codes "COND") k) refl e
  where
    by : (a : Bool) → is_key (codes "COND") k ≡ a → (if a then Some layer.Any else None) ≡ Some l → inner_port (leaf k is) ≡ limited (more_by (count is) l) (last_port is)
    by false f h = absurd (cc)
    by true f h = cc (no-edge k f, f, more-any (count is), h)

port-form : Form false last_port item_at
unfolding last_port
port-form = record {
  nothing = refl;
  leaf-is = λ w is. refl;
  quoted-is = λ w is. refl;
  list-is = λ inner is. ap (λ o. if is_none is then o else last_port is) (sym (first-with is (inner_port inner)));
  kind-is = λ k js is l e. first-with is (inner_port (leaf k js)) ∙ port-kind k l e js;
}

pub port-found : (ts next start rest : List Token) (l : Layer) → condition_at false ts ≡ Some (l, next) → walked false (l ∷ []) None 0 next ≡ Some (start, rest) →
    (inside inner_port ts ≡ shown rest (port_at (items start))) × Plain false start
port-found = found false inner_port last_port port_at port-kind port-form

pub port-found_none : (ts next : List Token) (l : Layer) → condition_at false ts ≡ Some (l, next) → walked false (l ∷ []) None 0 next ≡ None → inside inner_port ts ≡ None
port-found_none = not-found false inner_port last_port port_at port-kind port-form
