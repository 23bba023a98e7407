-- What definitions and checks in form tell by edge.
use Rattle.std.proofs.Common.{◌≡◌, ℕ, append-nil, Bool, true, false, ◌&&◌, ◌||◌, if◌then◌else◌, nat_le, List, [], ◌∷◌, ◌++◌, map, Option, Some, None, option_map, option_and_then, codes, bytes_eq, refl, sym, ap, subst, ◌∙◌}
use Rattle.std.specs.Str.{str_to_ascii_lowercase}
use Rattle.std.proofs.lemmas.Slice.Eq.{bytes_eq-Decides}
use Rattle.mintc_decimal.specs.Decimals.{Number}
use Rattle.mintc_sdf_tokens.specs.Items.{Items, none, leaf, quoted, list, is_none, count}
use Rattle.mintc_sdf_tokens.specs.Words.{is_key, is_edge, unescaped, names_of}
use Rattle.mintc_sdf.specs.declared.delays.Place.{Place}
use Rattle.mintc_sdf.specs.declared.delays.Subject.{Subject}
use Rattle.mintc_sdf.specs.declared.delays.Subject.TheVariants as subject
use Rattle.mintc_sdf.specs.Forms.{scale_of, with_items, lone_name, joined, one, all_values, values_of, value_of, lone_value, inner_port, last_port, port_at, one_port, two_ports, first_port, Claim, claim, iopath, interconnect, port, inner_def, last_def, lone_def, is_passed_check, setup, hold, width, both, setuphold, check}
use Rattle.mintc_sdf.specs.Texts.{Said}
use Rattle.mintc_sdf_edges.specs.declared.delays.Edges.{Edges}
use Rattle.mintc_sdf_edges.specs.Edges.{both_edges, edge_of, inner_edge, last_edge, edge_at}
use Rattle.mintc_sdf_edges.specs.Spans.{Span, value_spans}
use Rattle.mintc_sdf_edges.specs.Telling.{Progress, with_scale, keep, keep_each, keep_all, has_one_port, has_two_ports, heading, said, plain, item, last_item, lone_item, is_block, after_list}
use Rattle.mintc_sdf_edges.proofs.ValueLaws.{AreNear, span_of, apart, AreValues, all-spans, lone-spans, value-span}
use Rattle.mintc_sdf_edges.proofs.MergedLaws.{Tells, tells-same, tells-then, tells-nothing, AreSound, sound-apart, sound-near, claim-told}

-- Keywords, which count in lower case alone

lower : (a k : List ℕ) → is_key a k ≡ true → str_to_ascii_lowercase k ≡ str_to_ascii_lowercase a
lower a k e = (bytes_eq-Decides (str_to_ascii_lowercase k) (str_to_ascii_lowercase a)).0 e

like : (a k b : List ℕ) → is_key a k ≡ true → is_key b k ≡ is_key b a
like a k b e = ap (λ l. bytes_eq l (str_to_ascii_lowercase b)) (lower a k e)

like-two : (a k : List ℕ) → is_key a k ≡ true → has_two_ports k ≡ has_two_ports a
like-two a k e =
    rw (like a k (codes "IOPATH") e, like a k (codes "INTERCONNECT") e, like a k (codes "SETUP") e, like a k (codes "HOLD") e, like a k (codes "SETUPHOLD") e) refl

like-one : (a k : List ℕ) → is_key a k ≡ true → has_one_port k ≡ has_one_port a
like-one a k e = rw (like a k (codes "PORT") e, like a k (codes "WIDTH") e) refl

pub like-block : (a k : List ℕ) → is_key a k ≡ true → is_block k ≡ is_block a
like-block a k e = rw (like a k (codes "CELL") e, like a k (codes "DELAY") e, like a k (codes "ABSOLUTE") e, like a k (codes "TIMINGCHECK") e) refl

-- a list with this keyword is no block
pub not-block : (p : Progress) (a k : List ℕ) (is : Items) → is_key a k ≡ true → is_block a ≡ false → after_list p (leaf k is) ≡ item p (leaf k is)
unfolding after_list
not-block p a k is e f = rw (like-block a k e, f) refl

-- and no condition
not-condition : (p : Progress) (a k : List ℕ) (is : Items) → is_key a k ≡ true → is_key (codes "COND") a ≡ false → is_key (codes "CONDELSE") a ≡ false → item p (leaf k is) ≡ plain p k is
unfolding item
not-condition p a k is e f g = rw (like a k (codes "COND") e, f, like a k (codes "CONDELSE") e, g) refl

-- it says something
says-something : (p : Progress) (a k : List ℕ) (is : Items) → is_key a k ≡ true → is_key (codes "COND") a ≡ false → is_key (codes "CONDELSE") a ≡ false → (has_two_ports a || has_one_port a) ≡ true →
    item p (leaf k is) ≡ said p k is
says-something p a k is e f g h = not-condition p a k is e f g ∙ rw (like-two a k e, like-one a k e, h) refl

-- it says nothing
pub says-nothing : (p : Progress) (a k : List ℕ) (is : Items) → is_key a k ≡ true → is_key (codes "COND") a ≡ false → is_key (codes "CONDELSE") a ≡ false →
    (has_two_ports a || has_one_port a) ≡ false → is_key (codes "TIMESCALE") a ≡ false → item p (leaf k is) ≡ Some p
says-nothing p a k is e f g h i = not-condition p a k is e f g ∙ rw (like-two a k e, like-one a k e, h, like a k (codes "TIMESCALE") e, i) refl

-- a list that tells nothing
abbrev pub Quiet : Items → Type 0
Quiet is = (p : Progress) → after_list p is ≡ Some p

pub quiet : (a k : List ℕ) (is : Items) → is_key a k ≡ true → is_block a ≡ false → is_key (codes "COND") a ≡ false → is_key (codes "CONDELSE") a ≡ false →
    (has_two_ports a || has_one_port a) ≡ false → is_key (codes "TIMESCALE") a ≡ false → Quiet (leaf k is)
quiet a k is e b f g h i p = not-block p a k is e b ∙ says-nothing p a k is e f g h i

pub quiet-tells : (scale : ℕ) (is : Items) → Quiet is → Tells scale (λ p. after_list p is) []
quiet-tells scale is q = tells-same scale (λ p. Some p) (λ p. after_list p is) [] (λ p s. q p) (tells-nothing scale)

-- checks that are passed over
passed-check : (k : List ℕ) (is : Items) → is_passed_check k ≡ true → Quiet (leaf k is)
passed-check k is e =
    by (is_key (codes "RECOVERY") k) refl (is_key (codes "REMOVAL") k) refl (is_key (codes "RECREM") k) refl (is_key (codes "SKEW") k) refl (is_key (codes "BIDIRECTSKEW") k) refl (is_key (codes "PERIOD") k) refl (is_key (codes "NOCHANGE") k) refl e
  where
    by : (a : Bool) → is_key (codes "RECOVERY") k ≡ a → (b : Bool) → is_key (codes "REMOVAL") k ≡ b → (c : Bool) → is_key (codes "RECREM") k ≡ c → (d : Bool) → is_key (codes "SKEW") k ≡ d →
        (f : Bool) → is_key (codes "BIDIRECTSKEW") k ≡ f → (g : Bool) → is_key (codes "PERIOD") k ≡ g → (h : Bool) → is_key (codes "NOCHANGE") k ≡ h → (a || b || c || d || f || g || h) ≡ true → Quiet (leaf k is)
    by true ea b eb c ec d ed f ef g eg h eh e = quiet (codes "RECOVERY") k is ea refl refl refl refl refl
    by false ea true eb c ec d ed f ef g eg h eh e = quiet (codes "REMOVAL") k is eb refl refl refl refl refl
    by false ea false eb true ec d ed f ef g eg h eh e = quiet (codes "RECREM") k is ec refl refl refl refl refl
    by false ea false eb false ec true ed f ef g eg h eh e = quiet (codes "SKEW") k is ed refl refl refl refl refl
    by false ea false eb false ec false ed true ef g eg h eh e = quiet (codes "BIDIRECTSKEW") k is ef refl refl refl refl refl
    by false ea false eb false ec false ed false ef true eg h eh e = quiet (codes "PERIOD") k is eg refl refl refl refl refl
    by false ea false eb false ec false ed false ef false eg true eh e = quiet (codes "NOCHANGE") k is eh refl refl refl refl refl
    by false ea false eb false ec false ed false ef false eg false eh e = absurd (cc)

-- a TIMESCALE
pub scale-list : (p : Progress) (k : List ℕ) (is : Items) → is_key (codes "TIMESCALE") k ≡ true → after_list p (leaf k is) ≡ option_map (with_scale p) (scale_of is)
scale-list p k is e =
    not-block p (codes "TIMESCALE") k is e refl ∙ not-condition p (codes "TIMESCALE") k is e refl refl ∙ rw (like-two (codes "TIMESCALE") k e, like-one (codes "TIMESCALE") k e, e) refl

-- Ports

abbrev HasEdge : Option Edges → Type 0
HasEdge o = (e : Edges) × (o ≡ Some e)

lone-last : (is : Items) (n : List ℕ) → lone_name is ≡ Some n → HasEdge (last_edge is)
unfolding last_edge
lone-last (leaf w none) n e = (both_edges, refl)
lone-last none n e = absurd (cc)
lone-last (leaf w (leaf v is)) n e = absurd (cc)
lone-last (leaf w (quoted v is)) n e = absurd (cc)
lone-last (leaf w (list v is)) n e = absurd (cc)
lone-last (quoted w is) n e = absurd (cc)
lone-last (list w is) n e = absurd (cc)

abbrev HaveEdges : Items → Type 0
HaveEdges is = ((n : List ℕ) → inner_port is ≡ Some n → HasEdge (inner_edge is)) × ((n : List ℕ) → last_port is ≡ Some n → HasEdge (last_edge is))

have-edges : (is : Items) → HaveEdges is
unfolding inner_port last_port inner_edge last_edge
have-edges none = (λ n e. absurd (cc), λ n e. absurd (cc))
have-edges (quoted w is) = (λ n e. absurd (cc), λ n e. last (is_none is) ((have-edges is).1 n) e)
  where
    last : (b : Bool) {n : List ℕ} → (last_port is ≡ Some n → HasEdge (last_edge is)) → (if b then None else last_port is) ≡ Some n → HasEdge (if b then None else last_edge is)
    last true go e = absurd (cc)
    last false go e = go e
have-edges (leaf k is) = (λ n e. inner (is_key (codes "COND") k) (is_edge k) n ((have-edges is).1 n) e, λ n e. last (is_none is) (unescaped k) ((have-edges is).1 n) e)
  where
    inner : (b c : Bool) (n : List ℕ) → (last_port is ≡ Some n → HasEdge (last_edge is)) → (if c then lone_name is else (if b then last_port is else None)) ≡ Some n →
        HasEdge (if b then last_edge is else Some (edge_of k))
    inner true true n go e = lone-last is n e
    inner true false n go e = go e
    inner false c n go e = (edge_of k, refl)

    last : (b : Bool) (x : List ℕ) {n : List ℕ} → (last_port is ≡ Some n → HasEdge (last_edge is)) → (if b then Some x else last_port is) ≡ Some n → HasEdge (if b then Some both_edges else last_edge is)
    last true x go e = (both_edges, refl)
    last false x go e = go e
have-edges (list inner is) = (λ n e. absurd (cc), λ n e. last (is_none is) ((have-edges inner).0 n) ((have-edges is).1 n) e)
  where
    last : (b : Bool) {n : List ℕ} → (inner_port inner ≡ Some n → HasEdge (inner_edge inner)) → (last_port is ≡ Some n → HasEdge (last_edge is)) → (if b then inner_port inner else last_port is) ≡ Some n →
        HasEdge (if b then inner_edge inner else last_edge is)
    last true first go e = first e
    last false first go e = go e

abbrev IsEdgeAt : Items → Items → Type 0
IsEdgeAt is rest = (e : Edges) × (edge_at is ≡ Some (e, rest))

edge-there : (is rest : Items) (n : List ℕ) → port_at is ≡ Some (n, rest) → IsEdgeAt is rest
edge-there (leaf w is) rest n e = (both_edges, by)
  where
    by : edge_at (leaf w is) ≡ Some (both_edges, rest)
    by = let f = ap (λ (o : Option (List ℕ × Items)). option_map (λ p. (both_edges, p.1)) o) e in f
edge-there (list inner is) rest n e = by (inner_port inner) refl e
  where
    by : (o : Option (List ℕ)) → inner_port inner ≡ o → option_map (with_items is) o ≡ Some (n, rest) → IsEdgeAt (list inner is) rest
    by None f g = absurd (cc)
    by (Some m) f g =
        let same : (m, is) ≡ (n, rest) = cc in
        let edge = (have-edges inner).0 m f in
        (edge.0, ap (option_map (with_items is)) edge.1 ∙ ap (λ (p : List ℕ × Items). Some (edge.0, p.1)) same)
edge-there none rest n e = absurd (cc)
edge-there (quoted w is) rest n e = absurd (cc)

-- a form behind one port, and behind two
one-there : {A : Type 0} (next : List ℕ → Items → Option A) (is : Items) (a : A) → one_port next is ≡ Some a → (e : Edges) × (n : List ℕ) × (rest : Items) × (edge_at is ≡ Some (e, rest)) × (next n rest ≡ Some a)
one-there {A} next is a e = by (port_at is) refl e
  where
    by : (o : Option (List ℕ × Items)) → port_at is ≡ o → option_and_then (λ port. next port.0 port.1) o ≡ Some a →
        (e : Edges) × (n : List ℕ) × (rest : Items) × (edge_at is ≡ Some (e, rest)) × (next n rest ≡ Some a)
    by None f g = absurd (cc)
    by (Some p) f g = let edge = edge-there is p.1 p.0 f in (edge.0, p.0, p.1, edge.1, g)

abbrev Heads : Bool → Items → Items → Type 0
Heads two is rest = (e : Edges) × (heading two is ≡ Some (e, rest))

one-head : (is rest : Items) (e : Edges) → edge_at is ≡ Some (e, rest) → Heads false is rest
one-head is rest e f = (both_edges, ap (option_map (λ port. (both_edges, port.1))) f)

two-head : (is mid rest : Items) (e d : Edges) → edge_at is ≡ Some (e, mid) → edge_at mid ≡ Some (d, rest) → Heads true is rest
two-head is mid rest e d f g =
    (e, ap (option_and_then (λ first. option_map (λ second. (first.0, second.1)) (edge_at first.1))) f ∙ ap (option_map (λ second. (e, second.1))) g)

two-there : {A : Type 0} (next : List ℕ → List ℕ → Items → Option A) (is : Items) (a : A) → two_ports next is ≡ Some a → (n m : List ℕ) × (rest : Items) × Heads true is rest × (next n m rest ≡ Some a)
two-there next is a e =
    let first = one-there (λ n. one_port (next n)) is a e in
    let second = one-there (next first.1) first.2 a first.4 in
    (first.1, second.1, second.2, two-head is first.2 second.2 first.0 second.0 first.3 second.3, second.4)

-- Claims

-- a claim in its place
abbrev pub say : ℕ → ℕ → List ℕ → Place → Claim → Said
say entry scale celltype place c = record { entry = entry; scale = scale; celltype = celltype; place = place; claim = c }

claim-of : (s : Subject) (o : Option (List Number)) (c : Claim) → option_map (claim s) o ≡ Some c → (ns : List Number) × (o ≡ Some ns) × (c ≡ claim s ns)
claim-of s None c e = absurd (cc)
claim-of s (Some ns) c e = let same : claim s ns ≡ c = cc in (ns, refl, sym same)

lone-claim : (o : Option Claim) (cs : List Claim) → option_map one o ≡ Some cs → (c : Claim) × (o ≡ Some c) × (cs ≡ c ∷ [])
lone-claim None cs e = absurd (cc)
lone-claim (Some c) cs e = let same : c ∷ [] ≡ cs = cc in (c, refl, sym same)

values-all : (is : Items) (ns : List Number) → values_of is ≡ Some ns → all_values is ≡ Some ns
values-all is ns e = by (nat_le 1 (count is) && nat_le (count is) 12) e
  where
    by : (b : Bool) → (if b then all_values is else None) ≡ Some ns → all_values is ≡ Some ns
    by true f = f
    by false f = absurd (cc)

module _ (entry scale : ℕ) (celltype : List ℕ) (place : Place) where
  abbrev pub sayings : List Claim → List Said
  sayings cs = map (say entry scale celltype place) cs

  -- what a list with these ports and values says, of one subject
  said-told : (a k : List ℕ) (is rest : Items) (c : Claim) (nss : List (List Number)) → is_key a k ≡ true → is_key (codes "SETUPHOLD") a ≡ false → Heads (has_two_ports a) is rest →
      AreValues scale rest c.numbers nss → Tells scale (λ p. said p k is) (sayings (c ∷ []))
  said-told a k is rest c nss e f head values =
      tells-same scale (λ p. keep head.0 (map (span_of scale) nss) p) (λ p. said p k is) (sayings (c ∷ [])) same (claim-told (say entry scale celltype place c) nss head.0 values.1)
    where
      same : (p : Progress) → p.scale ≡ scale → said p k is ≡ keep head.0 (map (span_of scale) nss) p
      same p s =
          ap (λ b. option_and_then (λ h. option_and_then (λ ss. keep_all b h.0 ss p) (value_spans p.scale h.1)) (heading (has_two_ports k) is)) (like a k (codes "SETUPHOLD") e ∙ f)
          ∙ ap (λ b. option_and_then (λ h. option_and_then (λ ss. keep h.0 ss p) (value_spans p.scale h.1)) (heading b is)) (like-two a k e)
          ∙ ap (option_and_then (λ h. option_and_then (λ ss. keep h.0 ss p) (value_spans p.scale h.1))) head.1
          ∙ ap (λ n. option_and_then (λ ss. keep head.0 ss p) (value_spans n rest)) s
          ∙ ap (option_and_then (λ ss. keep head.0 ss p)) values.0

  -- the same of the whole list
  list-told : (a k : List ℕ) (is rest : Items) (c : Claim) (nss : List (List Number)) → is_key a k ≡ true → is_key (codes "SETUPHOLD") a ≡ false → is_key (codes "COND") a ≡ false →
      is_key (codes "CONDELSE") a ≡ false → (has_two_ports a || has_one_port a) ≡ true → Heads (has_two_ports a) is rest → AreValues scale rest c.numbers nss → Tells scale (λ p. item p (leaf k is)) (sayings (c ∷ []))
  list-told a k is rest c nss e f g h i head values =
      tells-same scale (λ p. said p k is) (λ p. item p (leaf k is)) (sayings (c ∷ [])) (λ p s. says-something p a k is e g h i) (said-told a k is rest c nss e f head values)

  numbers-near : (c : Claim) → AreSound (sayings (c ∷ [])) → AreNear scale c.numbers
  numbers-near c sound = sound-near (say entry scale celltype place c) sound

  -- Definitions

  iopath-told : (k : List ℕ) (is : Items) (c : Claim) → is_key (codes "IOPATH") k ≡ true → iopath is ≡ Some c → AreSound (sayings (c ∷ [])) → Tells scale (λ p. item p (leaf k is)) (sayings (c ∷ []))
  iopath-told k is c e f sound =
      let there = two-there (λ from to values. option_map (claim (subject.Iopath from to)) (values_of values)) is c f in
      let numbers = claim-of (subject.Iopath there.0 there.1) (values_of there.2) c there.4 in
      let same : c.numbers ≡ numbers.0 = ap (λ (x : Claim). x.numbers) numbers.2 in
      let values = all-spans scale there.2 numbers.0 (values-all there.2 numbers.0 numbers.1) (subst (AreNear scale) same (numbers-near c sound)) in
      list-told (codes "IOPATH") k is there.2 c values.0 e refl refl refl refl there.3 (subst (λ l. AreValues scale there.2 l values.0) (sym same) values.1)

  port-told : (k : List ℕ) (is : Items) (c : Claim) → is_key (codes "PORT") k ≡ true → port is ≡ Some c → AreSound (sayings (c ∷ [])) → Tells scale (λ p. item p (leaf k is)) (sayings (c ∷ []))
  port-told k is c e f sound =
      let there = one-there (λ pin values. option_map (claim (subject.Port pin)) (values_of values)) is c f in
      let numbers = claim-of (subject.Port there.1) (values_of there.2) c there.4 in
      let same : c.numbers ≡ numbers.0 = ap (λ (x : Claim). x.numbers) numbers.2 in
      let values = all-spans scale there.2 numbers.0 (values-all there.2 numbers.0 numbers.1) (subst (AreNear scale) same (numbers-near c sound)) in
      list-told (codes "PORT") k is there.2 c values.0 e refl refl refl refl (one-head is there.2 there.0 there.3) (subst (λ l. AreValues scale there.2 l values.0) (sym same) values.1)

  wire-told : (d : ℕ) (k : List ℕ) (is : Items) (c : Claim) → is_key (codes "INTERCONNECT") k ≡ true → interconnect d is ≡ Some c → AreSound (sayings (c ∷ [])) →
      Tells scale (λ p. item p (leaf k is)) (sayings (c ∷ []))
  wire-told d k (leaf from (leaf to is)) c e f sound =
      let numbers = claim-of (subject.Interconnect (names_of d to)) (values_of is) c f in
      let same : c.numbers ≡ numbers.0 = ap (λ (x : Claim). x.numbers) numbers.2 in
      let values = all-spans scale is numbers.0 (values-all is numbers.0 numbers.1) (subst (AreNear scale) same (numbers-near c sound)) in
      list-told (codes "INTERCONNECT") k (leaf from (leaf to is)) is c values.0 e refl refl refl refl (both_edges, refl) (subst (λ l. AreValues scale is l values.0) (sym same) values.1)
  wire-told d k none c e f sound = absurd (cc)
  wire-told d k (quoted w is) c e f sound = absurd (cc)
  wire-told d k (list w is) c e f sound = absurd (cc)
  wire-told d k (leaf w none) c e f sound = absurd (cc)
  wire-told d k (leaf w (quoted v is)) c e f sound = absurd (cc)
  wire-told d k (leaf w (list v is)) c e f sound = absurd (cc)

  cond-item : (p : Progress) (k : List ℕ) (is : Items) → is_key (codes "COND") k ≡ true → item p (leaf k is) ≡ last_item p is
  unfolding item
  cond-item p k is e = rw e refl

  else-item : (p : Progress) (k : List ℕ) (is : Items) → is_key (codes "CONDELSE") k ≡ true → item p (leaf k is) ≡ lone_item p is
  unfolding item
  else-item p k is e = rw (like (codes "CONDELSE") k (codes "COND") e, e) refl

  abbrev DefTells : Option Claim → (Progress → Option Progress) → Type 0
  DefTells o f = (c : Claim) → o ≡ Some c → AreSound (sayings (c ∷ [])) → Tells scale f (sayings (c ∷ []))

  last-tells : (b : Bool) (o q : Option Claim) (f g : Progress → Option Progress) → DefTells o f → DefTells q g → DefTells (if b then o else q) (λ p. if b then f p else g p)
  last-tells true o q f g h k = h
  last-tells false o q f g h k = k

  no-claim : (f : Progress → Option Progress) → DefTells None f
  no-claim f c e sound = absurd (cc)

  keyed-tells : (d : ℕ) (k : List ℕ) (is : Items) → DefTells (last_def d is) (λ p. last_item p is) → DefTells (lone_def d is) (λ p. lone_item p is) → DefTells (inner_def d (leaf k is)) (λ p. item p (leaf k is))
  unfolding inner_def
  keyed-tells d k is last lone =
      keyed (is_key (codes "IOPATH") k) refl (is_key (codes "INTERCONNECT") k) refl (is_key (codes "PORT") k) refl (is_key (codes "COND") k) refl (is_key (codes "CONDELSE") k) refl
    where
      keyed : (i : Bool) → is_key (codes "IOPATH") k ≡ i → (w : Bool) → is_key (codes "INTERCONNECT") k ≡ w → (q : Bool) → is_key (codes "PORT") k ≡ q → (a : Bool) → is_key (codes "COND") k ≡ a →
          (b : Bool) → is_key (codes "CONDELSE") k ≡ b →
          DefTells (if i then iopath is else (if w then interconnect d is else (if q then port is else (if a then last_def d is else (if b then lone_def d is else None))))) (λ p. item p (leaf k is))
      keyed true e1 w e2 q e3 a e4 b e5 c e sound = iopath-told k is c e1 e sound
      keyed false e1 true e2 q e3 a e4 b e5 c e sound = wire-told d k is c e2 e sound
      keyed false e1 false e2 true e3 a e4 b e5 c e sound = port-told k is c e3 e sound
      keyed false e1 false e2 false e3 true e4 b e5 c e sound =
          tells-same scale (λ p. last_item p is) (λ p. item p (leaf k is)) (sayings (c ∷ [])) (λ p s. cond-item p k is e4) (last c e sound)
      keyed false e1 false e2 false e3 false e4 true e5 c e sound =
          tells-same scale (λ p. lone_item p is) (λ p. item p (leaf k is)) (sayings (c ∷ [])) (λ p s. else-item p k is e5) (lone c e sound)
      keyed false e1 false e2 false e3 false e4 false e5 c e sound = absurd (cc)

  abbrev DefsTell : ℕ → Items → Type 0
  DefsTell d is = DefTells (inner_def d is) (λ p. item p is) × DefTells (last_def d is) (λ p. last_item p is) × DefTells (lone_def d is) (λ p. lone_item p is)

  defs-tell : (d : ℕ) (is : Items) → DefsTell d is
  unfolding inner_def last_def lone_def item last_item lone_item
  defs-tell d none = (no-claim (λ p. None), no-claim (λ p. None), no-claim (λ p. None))
  defs-tell d (quoted w is) = (no-claim (λ p. None), (defs-tell d is).1, no-claim (λ p. None))
  defs-tell d (leaf k is) = (keyed-tells d k is (defs-tell d is).1 (defs-tell d is).2, (defs-tell d is).1, no-claim (λ p. None))
  defs-tell d (list inner is) = (
    no-claim (λ p. None),
    last-tells (is_none is) (inner_def d inner) (last_def d is) (λ p. item p inner) (λ p. last_item p is) (defs-tell d inner).0 (defs-tell d is).1,
    last-tells (is_none is) (inner_def d inner) None (λ p. item p inner) (λ p. None) (defs-tell d inner).0 (no-claim (λ p. None)),
  )

  -- a definition is no block
  def-list : (d : ℕ) (is : Items) (c : Claim) → inner_def d is ≡ Some c → (p : Progress) → after_list p is ≡ item p is
  unfolding inner_def
  def-list d (leaf k is) c e p = keyed (is_key (codes "IOPATH") k) refl (is_key (codes "INTERCONNECT") k) refl (is_key (codes "PORT") k) refl (is_key (codes "COND") k) refl (is_key (codes "CONDELSE") k) refl e
    where
      keyed : (i : Bool) → is_key (codes "IOPATH") k ≡ i → (w : Bool) → is_key (codes "INTERCONNECT") k ≡ w → (q : Bool) → is_key (codes "PORT") k ≡ q → (a : Bool) → is_key (codes "COND") k ≡ a →
          (b : Bool) → is_key (codes "CONDELSE") k ≡ b →
          (if i then iopath is else (if w then interconnect d is else (if q then port is else (if a then last_def d is else (if b then lone_def d is else None))))) ≡ Some c →
          after_list p (leaf k is) ≡ item p (leaf k is)
      keyed true e1 w e2 q e3 a e4 b e5 e = not-block p (codes "IOPATH") k is e1 refl
      keyed false e1 true e2 q e3 a e4 b e5 e = not-block p (codes "INTERCONNECT") k is e2 refl
      keyed false e1 false e2 true e3 a e4 b e5 e = not-block p (codes "PORT") k is e3 refl
      keyed false e1 false e2 false e3 true e4 b e5 e = not-block p (codes "COND") k is e4 refl
      keyed false e1 false e2 false e3 false e4 true e5 e = not-block p (codes "CONDELSE") k is e5 refl
      keyed false e1 false e2 false e3 false e4 false e5 e = absurd (cc)
  def-list d none c e p = absurd (cc)
  def-list d (quoted w is) c e p = absurd (cc)
  def-list d (list w is) c e p = absurd (cc)

  -- what one definition says
  pub def-tells : (d : ℕ) (is : Items) (cs : List Claim) → option_map one (inner_def d is) ≡ Some cs → AreSound (sayings cs) → Tells scale (λ p. after_list p is) (sayings cs)
  def-tells d is cs e sound =
      let lone = lone-claim (inner_def d is) cs e in
      subst (λ l. Tells scale (λ p. after_list p is) (sayings l)) (sym lone.2)
      (tells-same scale (λ p. item p is) (λ p. after_list p is) (sayings (lone.0 ∷ [])) (λ p s. def-list d is lone.0 lone.1 p)
      ((defs-tell d is).0 lone.0 lone.1 (subst (λ l. AreSound (sayings l)) lone.2 sound)))

  -- Checks

  one-check : (a k : List ℕ) (s : List ℕ → Subject) (is : Items) (cs : List Claim) → is_key a k ≡ true → is_block a ≡ false → is_key (codes "SETUPHOLD") a ≡ false → is_key (codes "COND") a ≡ false →
      is_key (codes "CONDELSE") a ≡ false → (has_two_ports a || has_one_port a) ≡ true → (pin : List ℕ) (rest : Items) → Heads (has_two_ports a) is rest → option_map one (option_map (claim (s pin)) (lone_value rest)) ≡ Some cs →
      AreSound (sayings cs) → Tells scale (λ p. after_list p (leaf k is)) (sayings cs)
  one-check a k s is cs e block f g h i pin rest head said sound =
      let lone = lone-claim (option_map (claim (s pin)) (lone_value rest)) cs said in
      let numbers = claim-of (s pin) (lone_value rest) lone.0 lone.1 in
      let same : lone.0.numbers ≡ numbers.0 = ap (λ (x : Claim). x.numbers) numbers.2 in
      let near = subst (AreNear scale) same (numbers-near lone.0 (subst (λ l. AreSound (sayings l)) lone.2 sound)) in
      let values = lone-spans scale rest numbers.0 numbers.1 near in
      subst (λ l. Tells scale (λ p. after_list p (leaf k is)) (sayings l)) (sym lone.2)
      (tells-same scale (λ p. item p (leaf k is)) (λ p. after_list p (leaf k is)) (sayings (lone.0 ∷ [])) (λ p s. not-block p a k is e block)
      (list-told a k is rest lone.0 (numbers.0 ∷ []) e f g h i head (subst (λ l. AreValues scale rest l (numbers.0 ∷ [])) (sym same) values)))

  option-one : {A B : Type 0} (f : A → B) (o : Option A) (b : B) → option_map f o ≡ Some b → (a : A) × (o ≡ Some a) × (b ≡ f a)
  option-one f None b e = absurd (cc)
  option-one f (Some a) b e = let same : f a ≡ b = cc in (a, refl, sym same)

  two-check : (a k : List ℕ) (s : List ℕ → Subject) (is : Items) (cs : List Claim) → is_key a k ≡ true → is_block a ≡ false → is_key (codes "SETUPHOLD") a ≡ false → is_key (codes "COND") a ≡ false →
      is_key (codes "CONDELSE") a ≡ false → has_two_ports a ≡ true → option_map one (first_port (λ pin value. option_map (claim (s pin)) (lone_value value)) is) ≡ Some cs →
      AreSound (sayings cs) → Tells scale (λ p. after_list p (leaf k is)) (sayings cs)
  two-check a k s is cs e block f g h i said sound =
      let lone = lone-claim (first_port (λ pin value. option_map (claim (s pin)) (lone_value value)) is) cs said in
      let there = two-there (λ first second value. option_map (claim (s first)) (lone_value value)) is lone.0 lone.1 in
      one-check a k s is cs e block f g h (ap (λ b. b || has_one_port a) i) there.0 there.2 (subst (λ b. Heads b is there.2) (sym i) there.3) (ap (option_map one) there.4 ∙ ap (λ l. Some l) (sym lone.2)) sound

  width-check : (k : List ℕ) (is : Items) (cs : List Claim) → is_key (codes "WIDTH") k ≡ true → option_map one (width is) ≡ Some cs → AreSound (sayings cs) →
      Tells scale (λ p. after_list p (leaf k is)) (sayings cs)
  width-check k is cs e said sound =
      let lone = lone-claim (width is) cs said in
      let there = one-there (λ pin value. option_map (claim (subject.Width pin)) (lone_value value)) is lone.0 lone.1 in
      one-check (codes "WIDTH") k subject.Width is cs e refl refl refl refl refl there.1 there.2 (one-head is there.2 there.0 there.3) (ap (option_map one) there.4 ∙ ap (λ l. Some l) (sym lone.2)) sound

  -- a setup and a hold
  keep-two : (p : Progress) (e : Edges) (s t : Span) → keep_each e (s ∷ t ∷ []) p ≡ option_and_then (λ q. keep e (t ∷ []) q) (keep e (s ∷ []) p)
  keep-two p e s t = by (keep e (s ∷ []) p)
    where
      last : (o : Option Progress) → option_and_then (λ q. Some q) o ≡ o
      last None = refl
      last (Some q) = refl

      by : (o : Option Progress) → option_and_then (λ q. option_and_then (λ r. Some r) (keep e (t ∷ []) q)) o ≡ option_and_then (λ q. keep e (t ∷ []) q) o
      by None = refl
      by (Some q) = last (keep e (t ∷ []) q)

  abbrev AreTwo : List ℕ → Items → List Claim → Type 0
  AreTwo pin is cs =
      (ns ms : List Number) × (cs ≡ claim (subject.Setup pin) ns ∷ claim (subject.Hold pin) ms ∷ [])
      × (AreNear scale ns → AreNear scale ms → value_spans scale is ≡ Some (span_of scale ns ∷ span_of scale ms ∷ []))

  are-two : (pin : List ℕ) (is : Items) (cs : List Claim) → both pin is ≡ Some cs → AreTwo pin is cs
  are-two pin (list first rest) cs e =
      let a = apart (option_map (λ ns. one (claim (subject.Setup pin) ns)) (value_of first)) (option_map (λ ns. one (claim (subject.Hold pin) ns)) (lone_value rest)) cs e in
      let ns = option-one (λ ns. one (claim (subject.Setup pin) ns)) (value_of first) a.0 a.2 in
      let ms = option-one (λ ns. one (claim (subject.Hold pin) ns)) (lone_value rest) a.1 a.3 in (
        ns.0,
        ms.0,
        a.4 ∙ ap (λ l. l ++ a.1) ns.2 ∙ ap (λ l. claim (subject.Setup pin) ns.0 ∷ l) ms.2,
        λ near more.
            ap (λ o. joined (option_map one o) (value_spans scale rest)) (value-span scale first ns.0 ns.1 near)
            ∙ ap (joined (Some (one (span_of scale ns.0)))) (lone-spans scale rest ms.0 ms.1 more).0,
      )
  are-two pin none cs e = absurd (cc)
  are-two pin (leaf w is) cs e = absurd (cc)
  are-two pin (quoted w is) cs e = absurd (cc)

  both-told : (k : List ℕ) (is : Items) (cs : List Claim) → is_key (codes "SETUPHOLD") k ≡ true → setuphold is ≡ Some cs → AreSound (sayings cs) → Tells scale (λ p. after_list p (leaf k is)) (sayings cs)
  both-told k is cs e f sound =
      let there = two-there (λ first second value. both first value) is cs f in
      let two = are-two there.0 there.2 cs there.4 in
      let setup_claim = claim (subject.Setup there.0) two.0 in
      let hold_claim = claim (subject.Hold there.0) two.1 in
      let sounds = sound-apart (sayings (setup_claim ∷ [])) (sayings (hold_claim ∷ [])) (subst (λ l. AreSound (sayings l)) two.2 sound) in
      let spans = two.3 (numbers-near setup_claim sounds.0) (numbers-near hold_claim sounds.1) in
      let head = there.3 in
      let first = claim-told (say entry scale celltype place setup_claim) (two.0 ∷ []) head.0 (sym (append-nil two.0)) in
      let second = claim-told (say entry scale celltype place hold_claim) (two.1 ∷ []) head.0 (sym (append-nil two.1)) in
      let together =
      tells-then scale (λ p. keep head.0 (span_of scale two.0 ∷ []) p) (λ p. keep head.0 (span_of scale two.1 ∷ []) p) (sayings (setup_claim ∷ [])) (sayings (hold_claim ∷ [])) first second in
      subst (λ l. Tells scale (λ p. after_list p (leaf k is)) (sayings l)) (sym two.2)
      (tells-same scale (λ p. option_and_then (λ q. keep head.0 (span_of scale two.1 ∷ []) q) (keep head.0 (span_of scale two.0 ∷ []) p)) (λ p. after_list p (leaf k is))
      (sayings (setup_claim ∷ hold_claim ∷ [])) (λ p s. same p s head.0 head.1 spans) together)
    where
      same : (p : Progress) → p.scale ≡ scale → {rest : Items} {s t : Span} (edge : Edges) → heading true is ≡ Some (edge, rest) → value_spans scale rest ≡ Some (s ∷ t ∷ []) →
          after_list p (leaf k is) ≡ option_and_then (λ q. keep edge (t ∷ []) q) (keep edge (s ∷ []) p)
      same p sc {rest} {s} {t} edge head spans =
          not-block p (codes "SETUPHOLD") k is e refl
          ∙ says-something p (codes "SETUPHOLD") k is e refl refl refl
          ∙ ap (λ b. option_and_then (λ h. option_and_then (λ ss. keep_all b h.0 ss p) (value_spans p.scale h.1)) (heading (has_two_ports k) is)) e
          ∙ ap (λ b. option_and_then (λ h. option_and_then (λ ss. keep_each h.0 ss p) (value_spans p.scale h.1)) (heading b is)) (like-two (codes "SETUPHOLD") k e)
          ∙ ap (option_and_then (λ h. option_and_then (λ ss. keep_each h.0 ss p) (value_spans p.scale h.1))) head
          ∙ ap (λ n. option_and_then (λ ss. keep_each edge ss p) (value_spans n rest)) sc
          ∙ ap (option_and_then (λ ss. keep_each edge ss p)) spans
          ∙ keep-two p edge s t

  -- what one check says
  pub check-tells : (is : Items) (cs : List Claim) → check is ≡ Some cs → AreSound (sayings cs) → Tells scale (λ p. after_list p is) (sayings cs)
  unfolding check
  check-tells (leaf k is) cs e sound =
      keyed (is_passed_check k) refl (is_key (codes "SETUP") k) refl (is_key (codes "HOLD") k) refl (is_key (codes "SETUPHOLD") k) refl (is_key (codes "WIDTH") k) refl e
    where
      keyed : (n : Bool) → is_passed_check k ≡ n → (s : Bool) → is_key (codes "SETUP") k ≡ s → (h : Bool) → is_key (codes "HOLD") k ≡ h → (b : Bool) → is_key (codes "SETUPHOLD") k ≡ b →
          (w : Bool) → is_key (codes "WIDTH") k ≡ w →
          (if n then Some [] else (if s then option_map one (setup is) else (if h then option_map one (hold is) else (if b then setuphold is else (if w then option_map one (width is) else None))))) ≡ Some cs →
          Tells scale (λ p. after_list p (leaf k is)) (sayings cs)
      keyed true e1 s e2 h e3 b e4 w e5 e =
          let same : [] ≡ cs = cc in subst (λ l. Tells scale (λ p. after_list p (leaf k is)) (sayings l)) same (quiet-tells scale (leaf k is) (passed-check k is e1))
      keyed false e1 true e2 h e3 b e4 w e5 e = two-check (codes "SETUP") k subject.Setup is cs e2 refl refl refl refl refl e sound
      keyed false e1 false e2 true e3 b e4 w e5 e = two-check (codes "HOLD") k subject.Hold is cs e3 refl refl refl refl refl e sound
      keyed false e1 false e2 false e3 true e4 w e5 e = both-told k is cs e4 e sound
      keyed false e1 false e2 false e3 false e4 true e5 e = width-check k is cs e5 e sound
      keyed false e1 false e2 false e3 false e4 false e5 e = absurd (cc)
  check-tells none cs e sound = absurd (cc)
  check-tells (quoted w is) cs e sound = absurd (cc)
  check-tells (list w is) cs e sound = absurd (cc)
