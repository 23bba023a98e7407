-- The forms of delays: what items say, and what those say that they become.
use Rattle.std.proofs.Common.{◌≡◌, ℕ, suc, Bool, true, false, true≢false, ◌||◌, ◌&&◌, if◌then◌else◌, nat_le, List, [], ◌∷◌, Option, Some, None, option_map, option_and_then, codes, bytes_eq, refl, sym, ap, ◌∙◌, arith, inl}
use Rattle.std.specs.Str.{str_to_ascii_lowercase}
use Rattle.std.proofs.lemmas.Slice.Eq.{bytes_eq-Decides}
use Rattle.mintc_sdf_tokens.specs.Items.{Items, none, leaf, quoted, list, count, is_none}
use Rattle.mintc_sdf_tokens.specs.Words.{is_key}
use Rattle.mintc_sdf.specs.declared.delays.Subject.TheVariants as subject
use Rattle.mintc_sdf.specs.Forms.{Claim, one, with_items, value_of, all_values, values_of, lone_value, inner_port, one_port, iopath, interconnect, port, inner_def, last_def, lone_def, setup, hold, setuphold, width, check, is_passed_check}
use Rattle.mintc_sdf.specs.Forms.{each, each_def, delay_item, part, celltype, place_of, instance, Cell, cell_with, one_list, cell, Settings, divider_of, scale_of, header}
use Rattle.mintcx_clamp.specs.Walking.{is_signed, is_unsigned}
use Rattle.mintcx_clamp.proofs.BesideLaws.{Beside, Numbers_beside, Claim_beside, Claims_beside, Number_beside, beside-refl, beside-map, beside-joined, beside-claim, beside-one, numbers-refl, claims-refl, claim-refl, word-beside}
use Rattle.mintcx_clamp.proofs.TreeLaws.{value, values, outer, inside}

-- Keywords

keys-differ : (a b w : List ℕ) → is_key a w ≡ true → is_key b w ≡ bytes_eq (str_to_ascii_lowercase a) (str_to_ascii_lowercase b)
keys-differ a b w e = ap (λ l. bytes_eq l (str_to_ascii_lowercase b)) ((bytes_eq-Decides (str_to_ascii_lowercase w) (str_to_ascii_lowercase a)).0 e)

abbrev same_key : List ℕ → List ℕ → Bool
same_key a b = bytes_eq (str_to_ascii_lowercase a) (str_to_ascii_lowercase b)

pub not-unsigned : (a k : List ℕ) → is_key a k ≡ true →
    (same_key a (codes "IOPATH") || same_key a (codes "INTERCONNECT") || same_key a (codes "PORT") || same_key a (codes "WIDTH")) ≡ false → is_unsigned k ≡ false
not-unsigned a k e f = rw (keys-differ a (codes "IOPATH") k e, keys-differ a (codes "INTERCONNECT") k e, keys-differ a (codes "PORT") k e, keys-differ a (codes "WIDTH") k e) f

pub not-signed : (a k : List ℕ) → is_key a k ≡ true →
    (same_key a (codes "SETUP") || same_key a (codes "HOLD") || same_key a (codes "SETUPHOLD")) ≡ false → is_signed k ≡ false
not-signed a k e f = rw (keys-differ a (codes "SETUP") k e, keys-differ a (codes "HOLD") k e, keys-differ a (codes "SETUPHOLD") k e) f

never : {A : Type 0} (b : Bool) → b ≡ true → b ≡ false → A
never b e f = absurd (true≢false (sym e ∙ f))

is-iopath : (k : List ℕ) → is_key (codes "IOPATH") k ≡ true → is_unsigned k ≡ true
is-iopath k e = rw e refl

is-interconnect : (k : List ℕ) → is_key (codes "INTERCONNECT") k ≡ true → is_unsigned k ≡ true
is-interconnect k e = grind (arith, e)

is-port : (k : List ℕ) → is_key (codes "PORT") k ≡ true → is_unsigned k ≡ true
is-port k e = grind (arith, e)

is-width : (k : List ℕ) → is_key (codes "WIDTH") k ≡ true → is_unsigned k ≡ true
is-width k e = grind (arith, e)

is-setup : (k : List ℕ) → is_key (codes "SETUP") k ≡ true → is_signed k ≡ true
is-setup k e = rw e refl

is-hold : (k : List ℕ) → is_key (codes "HOLD") k ≡ true → is_signed k ≡ true
is-hold k e = grind (arith, e)

is-setuphold : (k : List ℕ) → is_key (codes "SETUPHOLD") k ≡ true → is_signed k ≡ true
is-setuphold k e = grind (arith, e)

-- what stands behind a keyword, by what the keyword is
pub keyed : {A B : Type 0} (R : A → B → Type 0) (k : List ℕ) (f : Items → Option A) (g : Items → Option B) (is : Items) → Beside R (f is) (g is) →
    (is_signed k ≡ false → is_unsigned k ≡ true → Beside R (f is) (g (values is))) →
    (is_signed k ≡ false → is_unsigned k ≡ false → Beside R (f is) (g (outer is))) →
    Beside R (f is) (g (if is_signed k then is else (if is_unsigned k then values is else outer is)))
keyed R k f g is same u o = by (is_signed k) refl (is_unsigned k) refl
  where
    by : (a : Bool) → is_signed k ≡ a → (b : Bool) → is_unsigned k ≡ b → Beside R (f is) (g (if a then is else (if b then values is else outer is)))
    by true e b h = same
    by false e true h = u e h
    by false e false h = o e h

-- Values

value-beside : (is : Items) → Beside Numbers_beside (value_of is) (value_of (value is))
value-beside none = numbers-refl (value_of none)
value-beside (leaf w none) = word-beside w
value-beside (leaf w (leaf v is)) = numbers-refl (value_of (leaf w (leaf v is)))
value-beside (leaf w (quoted s is)) = numbers-refl (value_of (leaf w (quoted s is)))
value-beside (leaf w (list inner is)) = numbers-refl (value_of (leaf w (list inner is)))
value-beside (quoted s is) = numbers-refl (value_of (quoted s is))
value-beside (list inner is) = numbers-refl (value_of (list inner is))

all-beside : (is : Items) → Beside Numbers_beside (all_values is) (all_values (values is))
all-beside none = tt
all-beside (leaf w is) = tt
all-beside (quoted s is) = tt
all-beside (list inner is) = beside-joined Number_beside (value_of inner) (value_of (value inner)) (all_values is) (all_values (values is)) (value-beside inner) (all-beside is)

count-same : (is : Items) → count (values is) ≡ count is
count-same none = refl
count-same (leaf w is) = ap (λ n. suc n) (count-same is)
count-same (quoted s is) = ap (λ n. suc n) (count-same is)
count-same (list inner is) = ap (λ n. suc n) (count-same is)

values-beside : (is : Items) → Beside Numbers_beside (values_of is) (values_of (values is))
values-beside is = rw (count-same is) (by (nat_le 1 (count is) && nat_le (count is) 12))
  where
    by : (b : Bool) → Beside Numbers_beside (if b then all_values is else None) (if b then all_values (values is) else None)
    by true = all-beside is
    by false = tt

lone-beside : (is : Items) → Beside Numbers_beside (lone_value is) (lone_value (values is))
lone-beside none = tt
lone-beside (leaf w is) = tt
lone-beside (quoted s is) = tt
lone-beside (list inner none) = value-beside inner
lone-beside (list inner (leaf w is)) = tt
lone-beside (list inner (quoted s is)) = tt
lone-beside (list inner (list i is)) = tt

-- Ports

port-same : (is : Items) → inner_port (value is) ≡ inner_port is
unfolding inner_port
port-same none = refl
port-same (leaf w none) = grind arith
port-same (leaf w (leaf v is)) = refl
port-same (leaf w (quoted s is)) = refl
port-same (leaf w (list inner is)) = refl
port-same (quoted s is) = refl
port-same (list inner is) = refl

port-beside : {A B : Type 0} (R : A → B → Type 0) (f : List ℕ → Items → Option A) (g : List ℕ → Items → Option B) → ((n : List ℕ) (is : Items) → Beside R (f n is) (g n (values is))) →
    (is : Items) → Beside R (one_port f is) (one_port g (values is))
port-beside R f g h none = tt
port-beside R f g h (leaf w is) = h _ is
port-beside R f g h (quoted s is) = tt
port-beside {A} {B} R f g h (list inner is) = rw (port-same inner) (by (inner_port inner))
  where
    by : (o : Option (List ℕ)) → Beside R (option_and_then (λ (p : List ℕ × Items). f p.0 p.1) (option_map (with_items is) o)) (option_and_then (λ (p : List ℕ × Items). g p.0 p.1) (option_map (with_items (values is)) o))
    by None = tt
    by (Some n) = h n is

-- Definitions

iopath-beside : (is : Items) → Beside Claim_beside (iopath is) (iopath (values is))
iopath-beside is =
    port-beside Claim_beside _ _ (λ from is. port-beside Claim_beside _ _ (λ to is. beside-claim (subject.Iopath from to) refl (values_of is) (values_of (values is)) (values-beside is)) is) is

interconnect-beside : (d : ℕ) (is : Items) → Beside Claim_beside (interconnect d is) (interconnect d (values is))
interconnect-beside d none = tt
interconnect-beside d (quoted s is) = tt
interconnect-beside d (list inner is) = tt
interconnect-beside d (leaf w none) = tt
interconnect-beside d (leaf w (quoted s is)) = tt
interconnect-beside d (leaf w (list inner is)) = tt
interconnect-beside d (leaf w (leaf v is)) = beside-claim _ refl (values_of is) (values_of (values is)) (values-beside is)

wire-beside : (is : Items) → Beside Claim_beside (port is) (port (values is))
wire-beside is = port-beside Claim_beside _ _ (λ pin is. beside-claim (subject.Port pin) refl (values_of is) (values_of (values is)) (values-beside is)) is

none-same : (is : Items) → is_none (outer is) ≡ is_none is
unfolding outer
none-same none = refl
none-same (leaf w is) = refl
none-same (quoted s is) = refl
none-same (list inner is) = refl

claim-same : (o : Option Claim) → Beside Claim_beside o o
claim-same o = beside-refl Claim_beside claim-refl o

def-values : (d : ℕ) (k : List ℕ) (is : Items) → is_unsigned k ≡ true → Beside Claim_beside (inner_def d (leaf k is)) (inner_def d (leaf k (values is)))
unfolding inner_def
def-values d k is u = by (is_key (codes "IOPATH") k) (is_key (codes "INTERCONNECT") k) (is_key (codes "PORT") k) (is_key (codes "COND") k) refl (is_key (codes "CONDELSE") k) refl
  where
    by : (a b c e : Bool) → is_key (codes "COND") k ≡ e → (g : Bool) → is_key (codes "CONDELSE") k ≡ g → Beside Claim_beside
        (if a then iopath is else (if b then interconnect d is else (if c then port is else (if e then last_def d is else (if g then lone_def d is else None)))))
        (if a then iopath (values is) else (if b then interconnect d (values is) else (if c then port (values is) else (if e then last_def d (values is) else (if g then lone_def d (values is) else None)))))
    by true b c e h g i = iopath-beside is
    by false true c e h g i = interconnect-beside d is
    by false false true e h g i = wire-beside is
    by false false false true h g i = never (is_unsigned k) u (not-unsigned (codes "COND") k h refl)
    by false false false false h true i = never (is_unsigned k) u (not-unsigned (codes "CONDELSE") k i refl)
    by false false false false h false i = tt

def-outer : (d : ℕ) (k : List ℕ) (is : Items) → is_unsigned k ≡ false → Beside Claim_beside (last_def d is) (last_def d (outer is)) → Beside Claim_beside (lone_def d is) (lone_def d (outer is)) →
    Beside Claim_beside (inner_def d (leaf k is)) (inner_def d (leaf k (outer is)))
unfolding inner_def
def-outer d k is u last lone = by (is_key (codes "IOPATH") k) refl (is_key (codes "INTERCONNECT") k) refl (is_key (codes "PORT") k) refl (is_key (codes "COND") k) (is_key (codes "CONDELSE") k)
  where
    by : (a : Bool) → is_key (codes "IOPATH") k ≡ a → (b : Bool) → is_key (codes "INTERCONNECT") k ≡ b → (c : Bool) → is_key (codes "PORT") k ≡ c → (e g : Bool) → Beside Claim_beside
        (if a then iopath is else (if b then interconnect d is else (if c then port is else (if e then last_def d is else (if g then lone_def d is else None)))))
        (if a then iopath (outer is) else (if b then interconnect d (outer is) else (if c then port (outer is) else (if e then last_def d (outer is) else (if g then lone_def d (outer is) else None)))))
    by true h b i c j e g = never (is_unsigned k) (is-iopath k h) u
    by false h true i c j e g = never (is_unsigned k) (is-interconnect k i) u
    by false h false i true j e g = never (is_unsigned k) (is-port k j) u
    by false h false i false j true g = last
    by false h false i false j false true = lone
    by false h false i false j false false = tt

last-list : (d : ℕ) (inner is : Items) → Beside Claim_beside (inner_def d inner) (inner_def d (inside inner)) → Beside Claim_beside (last_def d is) (last_def d (outer is)) →
    Beside Claim_beside (last_def d (list inner is)) (last_def d (outer (list inner is)))
unfolding last_def outer
last-list d inner is def last = rw (none-same is) (by (is_none is))
  where
    by : (b : Bool) → Beside Claim_beside (if b then inner_def d inner else last_def d is) (if b then inner_def d (inside inner) else last_def d (outer is))
    by true = def
    by false = last

lone-list : (d : ℕ) (inner is : Items) → Beside Claim_beside (inner_def d inner) (inner_def d (inside inner)) → Beside Claim_beside (lone_def d (list inner is)) (lone_def d (outer (list inner is)))
unfolding lone_def outer
lone-list d inner is def = rw (none-same is) (by (is_none is))
  where
    by : (b : Bool) → Beside Claim_beside (if b then inner_def d inner else None) (if b then inner_def d (inside inner) else None)
    by true = def
    by false = tt

mutual
  unfolding inner_def last_def lone_def inside outer

  pub def-beside : (d : ℕ) (is : Items) → Beside Claim_beside (inner_def d is) (inner_def d (inside is))
  def-beside d none = tt
  def-beside d (quoted s is) = tt
  def-beside d (list inner is) = tt
  def-beside d (leaf k is) =
      keyed Claim_beside k (λ js. inner_def d (leaf k js)) (λ js. inner_def d (leaf k js)) is (claim-same (inner_def d (leaf k is))) (λ s u. def-values d k is u) (λ s u. def-outer d k is u (last-beside d is) (lone-def-beside d is))

  last-beside : (d : ℕ) (is : Items) → Beside Claim_beside (last_def d is) (last_def d (outer is))
  last-beside d none = tt
  last-beside d (leaf w is) = last-beside d is
  last-beside d (quoted s is) = last-beside d is
  last-beside d (list inner is) = last-list d inner is (def-beside d inner) (last-beside d is)

  lone-def-beside : (d : ℕ) (is : Items) → Beside Claim_beside (lone_def d is) (lone_def d (outer is))
  lone-def-beside d none = tt
  lone-def-beside d (leaf w is) = tt
  lone-def-beside d (quoted s is) = tt
  lone-def-beside d (list inner is) = lone-list d inner is (def-beside d inner)

-- Checks

width-beside : (is : Items) → Beside Claim_beside (width is) (width (values is))
width-beside is = port-beside Claim_beside _ _ (λ pin is. beside-claim (subject.Width pin) refl (lone_value is) (lone_value (values is)) (lone-beside is)) is

check-key : (k : List ℕ) (is js : Items) → is_signed k ≡ false → (is_key (codes "WIDTH") k ≡ true → Beside Claim_beside (width is) (width js)) → Beside Claims_beside (check (leaf k is)) (check (leaf k js))
unfolding check
check-key k is js s w = by (is_passed_check k) (is_key (codes "SETUP") k) refl (is_key (codes "HOLD") k) refl (is_key (codes "SETUPHOLD") k) refl (is_key (codes "WIDTH") k) refl
  where
    by : (p a : Bool) → is_key (codes "SETUP") k ≡ a → (b : Bool) → is_key (codes "HOLD") k ≡ b → (c : Bool) → is_key (codes "SETUPHOLD") k ≡ c → (e : Bool) → is_key (codes "WIDTH") k ≡ e → Beside Claims_beside
        (if p then Some [] else (if a then option_map one (setup is) else (if b then option_map one (hold is) else (if c then setuphold is else (if e then option_map one (width is) else None)))))
        (if p then Some [] else (if a then option_map one (setup js) else (if b then option_map one (hold js) else (if c then setuphold js else (if e then option_map one (width js) else None)))))
    by true a f b g c h e i = tt
    by false true f b g c h e i = never (is_signed k) (is-setup k f) s
    by false false f true g c h e i = never (is_signed k) (is-hold k g) s
    by false false f false g true h e i = never (is_signed k) (is-setuphold k h) s
    by false false f false g false h true i = beside-one (width is) (width js) (w i)
    by false false f false g false h false i = tt

pub check-beside : (is : Items) → Beside Claims_beside (check is) (check (inside is))
unfolding check inside
check-beside none = tt
check-beside (quoted s is) = tt
check-beside (list inner is) = tt
check-beside (leaf k is) =
    keyed Claims_beside k (λ js. check (leaf k js)) (λ js. check (leaf k js)) is (claims-refl (check (leaf k is)))
    (λ s u. check-key k is (values is) s (λ w. width-beside is))
    (λ s u. check-key k is (outer is) s (λ w. never (is_unsigned k) (is-width k w) u))

-- Cells

each-beside : (f : Items → Option (List Claim)) → ((is : Items) → Beside Claims_beside (f is) (f (inside is))) → (is : Items) → Beside Claims_beside (each f is) (each f (outer is))
unfolding outer
each-beside f h none = tt
each-beside f h (leaf w is) = tt
each-beside f h (quoted s is) = tt
each-beside f h (list inner is) = beside-joined Claim_beside (f inner) (f (inside inner)) (each f is) (each f (outer is)) (h inner) (each-beside f h is)

item-key : (d : ℕ) (k : List ℕ) (is js : Items) → (is_key (codes "ABSOLUTE") k ≡ true → Beside Claims_beside (each (each_def d) is) (each (each_def d) js)) →
    Beside Claims_beside (delay_item d (leaf k is)) (delay_item d (leaf k js))
unfolding delay_item
item-key d k is js h = by (is_key (codes "ABSOLUTE") k) refl
  where
    rest : Option (List Claim)
    rest = if is_key (codes "PATHPULSE") k || is_key (codes "PATHPULSEPERCENT") k then Some [] else None

    by : (a : Bool) → is_key (codes "ABSOLUTE") k ≡ a → Beside Claims_beside
        (if a then each (each_def d) is else (if is_key (codes "PATHPULSE") k || is_key (codes "PATHPULSEPERCENT") k then Some [] else None))
        (if a then each (each_def d) js else (if is_key (codes "PATHPULSE") k || is_key (codes "PATHPULSEPERCENT") k then Some [] else None))
    by true e = h e
    by false e = claims-refl (if is_key (codes "PATHPULSE") k || is_key (codes "PATHPULSEPERCENT") k then Some [] else None)

item-beside : (d : ℕ) (is : Items) → Beside Claims_beside (delay_item d is) (delay_item d (inside is))
unfolding delay_item inside
item-beside d none = tt
item-beside d (quoted s is) = tt
item-beside d (list inner is) = tt
item-beside d (leaf k is) =
    keyed Claims_beside k (λ js. delay_item d (leaf k js)) (λ js. delay_item d (leaf k js)) is (claims-refl (delay_item d (leaf k is)))
    (λ s u. item-key d k is (values is) (λ e. never (is_unsigned k) u (not-unsigned (codes "ABSOLUTE") k e refl)))
    (λ s u. item-key d k is (outer is) (λ e. each-beside (each_def d) (λ js. beside-one (inner_def d js) (inner_def d (inside js)) (def-beside d js)) is))

part-key : (d : ℕ) (k : List ℕ) (is js : Items) → (is_key (codes "DELAY") k ≡ true → Beside Claims_beside (each (delay_item d) is) (each (delay_item d) js)) →
    (is_key (codes "TIMINGCHECK") k ≡ true → Beside Claims_beside (each check is) (each check js)) → Beside Claims_beside (part d (leaf k is)) (part d (leaf k js))
unfolding part
part-key d k is js h g = by (is_key (codes "DELAY") k) refl (is_key (codes "TIMINGCHECK") k) refl
  where
    by : (a : Bool) → is_key (codes "DELAY") k ≡ a → (b : Bool) → is_key (codes "TIMINGCHECK") k ≡ b → Beside Claims_beside
        (if a then each (delay_item d) is else (if b then each check is else (if is_key (codes "LABEL") k || is_key (codes "TIMINGENV") k then Some [] else None)))
        (if a then each (delay_item d) js else (if b then each check js else (if is_key (codes "LABEL") k || is_key (codes "TIMINGENV") k then Some [] else None)))
    by true e b f = h e
    by false e true f = g f
    by false e false f = claims-refl (if is_key (codes "LABEL") k || is_key (codes "TIMINGENV") k then Some [] else None)

part-beside : (d : ℕ) (is : Items) → Beside Claims_beside (part d is) (part d (inside is))
unfolding part inside
part-beside d none = tt
part-beside d (quoted s is) = tt
part-beside d (list inner is) = tt
part-beside d (leaf k is) =
    keyed Claims_beside k (λ js. part d (leaf k js)) (λ js. part d (leaf k js)) is (claims-refl (part d (leaf k is)))
    (λ s u. part-key d k is (values is) (λ e. never (is_unsigned k) u (not-unsigned (codes "DELAY") k e refl)) (λ e. never (is_unsigned k) u (not-unsigned (codes "TIMINGCHECK") k e refl)))
    (λ s u. part-key d k is (outer is) (λ e. each-beside (delay_item d) (item-beside d) is) (λ e. each-beside check check-beside is))

-- the same of forms without lists: nothing changes
type-values : (k : List ℕ) (is : Items) → celltype (leaf k (values is)) ≡ celltype (leaf k is)
type-values k none = refl
type-values k (leaf w is) = refl
type-values k (list inner is) = refl
type-values k (quoted s none) = refl
type-values k (quoted s (leaf w is)) = refl
type-values k (quoted s (quoted t is)) = refl
type-values k (quoted s (list inner is)) = refl

type-outer : (k : List ℕ) (is : Items) → celltype (leaf k (outer is)) ≡ celltype (leaf k is)
unfolding outer
type-outer k none = refl
type-outer k (leaf w is) = refl
type-outer k (list inner is) = refl
type-outer k (quoted s none) = refl
type-outer k (quoted s (leaf w is)) = refl
type-outer k (quoted s (quoted t is)) = refl
type-outer k (quoted s (list inner is)) = refl

-- a form that is the same of what stands behind a keyword
same-by : {A : Type 0} (f : Items → Option A) (k : List ℕ) (is : Items) → f (values is) ≡ f is → f (outer is) ≡ f is → f (if is_signed k then is else (if is_unsigned k then values is else outer is)) ≡ f is
same-by f k is u o = by (is_signed k) (is_unsigned k)
  where
    by : (a b : Bool) → f (if a then is else (if b then values is else outer is)) ≡ f is
    by true b = refl
    by false true = u
    by false false = o

type-same : (is : Items) → celltype (inside is) ≡ celltype is
unfolding inside
type-same none = refl
type-same (quoted s is) = refl
type-same (list inner is) = refl
type-same (leaf k is) = same-by (λ js. celltype (leaf k js)) k is (type-values k is) (type-outer k is)

place-values : (d : ℕ) (is : Items) → place_of d (values is) ≡ place_of d is
place-values d none = refl
place-values d (quoted s is) = refl
place-values d (list inner is) = refl
place-values d (leaf w none) = refl
place-values d (leaf w (leaf v is)) = refl
place-values d (leaf w (quoted s is)) = refl
place-values d (leaf w (list inner is)) = refl

place-outer : (d : ℕ) (is : Items) → place_of d (outer is) ≡ place_of d is
unfolding outer
place-outer d none = refl
place-outer d (quoted s is) = refl
place-outer d (list inner is) = refl
place-outer d (leaf w none) = refl
place-outer d (leaf w (leaf v is)) = refl
place-outer d (leaf w (quoted s is)) = refl
place-outer d (leaf w (list inner is)) = refl

instance-same : (d : ℕ) (is : Items) → instance d (inside is) ≡ instance d is
unfolding inside
instance-same d none = refl
instance-same d (quoted s is) = refl
instance-same d (list inner is) = refl
instance-same d (leaf k is) =
    same-by (λ js. instance d (leaf k js)) k is (ap (λ o. if is_key (codes "INSTANCE") k then o else None) (place-values d is)) (ap (λ o. if is_key (codes "INSTANCE") k then o else None) (place-outer d is))

divider-values : (is : Items) → divider_of (values is) ≡ divider_of is
divider-values none = refl
divider-values (quoted s is) = refl
divider-values (list inner is) = refl
divider-values (leaf w none) = refl
divider-values (leaf w (leaf v is)) = refl
divider-values (leaf w (quoted s is)) = refl
divider-values (leaf w (list inner is)) = refl

divider-outer : (is : Items) → divider_of (outer is) ≡ divider_of is
unfolding outer
divider-outer none = refl
divider-outer (quoted s is) = refl
divider-outer (list inner is) = refl
divider-outer (leaf w none) = refl
divider-outer (leaf w (leaf v is)) = refl
divider-outer (leaf w (quoted s is)) = refl
divider-outer (leaf w (list inner is)) = refl

scale-values : (is : Items) → scale_of (values is) ≡ scale_of is
scale-values none = refl
scale-values (quoted s is) = refl
scale-values (list inner is) = refl
scale-values (leaf w none) = refl
scale-values (leaf w (quoted s is)) = refl
scale-values (leaf w (list inner is)) = refl
scale-values (leaf w (leaf v none)) = refl
scale-values (leaf w (leaf v (leaf u is))) = refl
scale-values (leaf w (leaf v (quoted s is))) = refl
scale-values (leaf w (leaf v (list inner is))) = refl

scale-outer : (is : Items) → scale_of (outer is) ≡ scale_of is
unfolding outer
scale-outer none = refl
scale-outer (quoted s is) = refl
scale-outer (list inner is) = refl
scale-outer (leaf w none) = refl
scale-outer (leaf w (quoted s is)) = refl
scale-outer (leaf w (list inner is)) = refl
scale-outer (leaf w (leaf v none)) = refl
scale-outer (leaf w (leaf v (leaf u is))) = refl
scale-outer (leaf w (leaf v (quoted s is))) = refl
scale-outer (leaf w (leaf v (list inner is))) = refl

pub header-values : (s : Settings) (k : List ℕ) (is : Items) → header s k (values is) ≡ header s k is
unfolding header
header-values s k is = rw (divider-values is, scale-values is) refl

pub header-outer : (s : Settings) (k : List ℕ) (is : Items) → header s k (outer is) ≡ header s k is
unfolding header
header-outer s k is = rw (divider-outer is, scale-outer is) refl

-- a cell
abbrev pub Cell_beside : Cell → Cell → Type 0
Cell_beside c e = (e.celltype ≡ c.celltype) × (e.place ≡ c.place) × Claims_beside c.claims e.claims

list-beside : {A B C : Type 0} (R : B → C → Type 0) (form : Items → Option A) (f : A → Items → Option B) (g : A → Items → Option C) → ((is : Items) → form (inside is) ≡ form is) →
    ((a : A) (is : Items) → Beside R (f a is) (g a (outer is))) → (is : Items) → Beside R (one_list form f is) (one_list form g (outer is))
unfolding outer
list-beside R form f g same h none = tt
list-beside R form f g same h (leaf w is) = tt
list-beside R form f g same h (quoted s is) = tt
list-beside {A} R form f g same h (list inner is) = rw (same inner) (by (form inner))
  where
    by : (o : Option A) → Beside R (option_and_then (λ (p : A × Items). f p.0 p.1) (option_map (with_items is) o)) (option_and_then (λ (p : A × Items). g p.0 p.1) (option_map (with_items (outer is)) o))
    by None = tt
    by (Some a) = h a is

pub cell-beside : (d : ℕ) (is : Items) → Beside Cell_beside (cell d is) (cell d (outer is))
cell-beside d is =
    list-beside Cell_beside celltype _ _ type-same
    (λ name js. list-beside Cell_beside (instance d) _ _ (instance-same d)
    (λ place ks. beside-map Claims_beside Cell_beside (cell_with name place) (cell_with name place) (λ cs es r. (refl, refl, r)) (each (part d) ks) (each (part d) (outer ks)) (each-beside (part d) (part-beside d) ks)) js) is

pub cell-refl : (o : Option Cell) → Beside Cell_beside o o
cell-refl o = beside-refl Cell_beside (λ c. (refl, refl, all c.claims)) o
  where
    all : (cs : List Claim) → Claims_beside cs cs
    all [] = tt
    all (c ∷ cs) = (inl refl, all cs)
