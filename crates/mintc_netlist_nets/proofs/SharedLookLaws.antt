-- The first declaration of a name.
use Rattle.std.proofs.Common.{◌≡◌, ℕ, List, [], ◌∷◌, ◌++◌, map, Bool, true, false, ◌||◌, is_some, cond, Option, Some, None, bytes_eq, find, refl, sym, ap, ◌∙◌, subst, if◌then◌else◌, Vec, Global}
use Rattle.std.specs.List.{fold, flat_map}
use Rattle.std.specs.Option.{option_map, option_or, option_and_then, option_map_or}
use Rattle.std.specs.Map.{lookup}
use Rattle.std.proofs.lemmas.List.{map-append}
use Rattle.indexmap.specs.IndexMap.{insert_entry}
use Rattle.std.proofs.lemmas.Slice.Eq.{bytes_eq-Decides}
use Rattle.mintc_netlist.specs.declared.expression.Span.{Span}
use Rattle.mintc_netlist.specs.declared.module.Item.{Item}
use Rattle.mintc_netlist.specs.declared.module.Module.{Module}
use Rattle.mintc_text_names.specs.Names.{is_among}
use Rattle.mintc_netlist.specs.Nets.{port_names, net_names, span_of, is_output_port, declares_port, declares_net, range_of, is_output}
use Rattle.mintc_netlist_nets.specs.declared.declared.Declaration.{Declaration}
use Rattle.mintc_netlist_nets.specs.Declaring.{declaration, declared_as, look, with_declaration, port_declarations, net_declarations}
use Rattle.mintc_netlist_nets.specs.Tables.{declared_ports, declared_nets}
use Rattle.mintc_text_names.proofs.SharedNamesLaws.{is_key, key_eq}

-- one more declaration, and some
look_cons : (name : List ℕ) (x : List ℕ × Declaration) (rest other : Option Declaration) (b : Bool) → option_or (cond b (Some x.1) rest) other ≡ cond b (Some x.1) (option_or rest other)
look_cons name x rest other true = refl
look_cons name x rest other false = refl

pub look-append : (name : List ℕ) (xs ys : List (List ℕ × Declaration)) → look name (xs ++ ys) ≡ option_or (look name xs) (look name ys)
look-append name [] ys = refl
look-append name (x ∷ xs) ys =
    ap (λ (o : Option Declaration). cond (bytes_eq name x.0) (Some x.1) o) (look-append name xs ys) ∙ sym (look_cons name x (look name xs) (look name ys) (bytes_eq name x.0))

-- a name that is there already keeps its declaration
kept_by : (name other : List ℕ) (ds : List (List ℕ × Declaration)) (d : Declaration) (b : Bool) → bytes_eq name other ≡ b → is_some (look other ds) ≡ true → look name ds ≡ option_or (look name ds) (cond b (Some d) None)
kept_by name other ds d true same there =
    let one : name ≡ other = (bytes_eq-Decides name other).0 same in
    some_by (look name ds) (subst (λ (n : List ℕ). is_some (look n ds) ≡ true) (sym one) there)
  where
    some_by : (o : Option Declaration) → is_some o ≡ true → o ≡ option_or o (Some d)
    some_by (Some e) h = refl
    some_by None h = cc
kept_by name other ds d false same there = none_by (look name ds)
  where
    none_by : (o : Option Declaration) → o ≡ option_or o None
    none_by (Some e) = refl
    none_by None = refl

with_by : (name : List ℕ) (ds : List (List ℕ × Declaration)) (d : List ℕ × Declaration) (b : Bool) → is_some (look d.0 ds) ≡ b → look name (cond b ds (ds ++ d ∷ [])) ≡ option_or (look name ds) (cond (bytes_eq name d.0) (Some d.1) None)
with_by name ds d true there = kept_by name d.0 ds d.1 (bytes_eq name d.0) refl there
with_by name ds d false there = look-append name ds (d ∷ [])

pub look-with : (name : List ℕ) (ds : List (List ℕ × Declaration)) (d : List ℕ × Declaration) → look name (with_declaration ds d) ≡ option_or (look name ds) (cond (bytes_eq name d.0) (Some d.1) None)
look-with name ds d = with_by name ds d (is_some (look d.0 ds)) refl

or_assoc : (a b c : Option Declaration) → option_or (option_or a b) c ≡ option_or a (option_or b c)
or_assoc (Some x) b c = refl
or_assoc None b c = refl

or_none : (o : Option Declaration) → o ≡ option_or o None
or_none (Some x) = refl
or_none None = refl

or_one : (b : Bool) (d : Declaration) (o : Option Declaration) → option_or (cond b (Some d) None) o ≡ cond b (Some d) o
or_one true d o = refl
or_one false d o = refl

-- what is taken in one by one is found as in the list of all
pub look-fold : (name : List ℕ) (ds more : List (List ℕ × Declaration)) → look name (fold with_declaration ds more) ≡ option_or (look name ds) (look name more)
look-fold name ds [] = or_none (look name ds)
look-fold name ds (d ∷ more) =
    look-fold name (with_declaration ds d) more
    ∙ ap (λ (o : Option Declaration). option_or o (look name more)) (look-with name ds d)
    ∙ or_assoc (look name ds) (cond (bytes_eq name d.0) (Some d.1) None) (look name more)
    ∙ ap (option_or (look name ds)) (or_one (bytes_eq name d.0) d.1 (look name more))

-- the names of one declaration, and those of all items
or_by : (a b : Bool) (d : Declaration) (o : Option Declaration) → cond a (Some d) (cond b (Some d) o) ≡ cond (a || b) (Some d) o
or_by true b d o = refl
or_by false b d o = refl

look_names : (name : List ℕ) (d : Declaration) (names : List (List ℕ)) (rest : List (List ℕ × Declaration)) → look name (map (declared_as d) names ++ rest) ≡ cond (is_among name names) (Some d) (look name rest)
look_names name d [] rest = refl
look_names name d (n ∷ names) rest =
    ap (λ (o : Option Declaration). cond (bytes_eq name n) (Some d) o) (look_names name d names rest) ∙ or_by (bytes_eq name n) (is_among name names) d (look name rest)

found_by : (f : Item → Declaration) (b : Bool) (i : Item) (rest : Option Item) → cond b (Some (f i)) (option_map f rest) ≡ option_map f (cond b (Some i) rest)
found_by f true i rest = refl
found_by f false i rest = refl

look_items : (name : List ℕ) (names : Item → List (List ℕ)) (f : Item → Declaration) (is : List Item) →
    look name (flat_map (λ i. map (declared_as (f i)) (names i)) is) ≡ option_map f (find (λ i. is_among name (names i)) is)
look_items name names f [] = refl
look_items name names f (i ∷ is) =
    look_names name (f i) (names i) (flat_map (λ i. map (declared_as (f i)) (names i)) is)
    ∙ ap (λ (o : Option Declaration). cond (is_among name (names i)) (Some (f i)) o) (look_items name names f is)
    ∙ found_by f (is_among name (names i)) i (find (λ i. is_among name (names i)) is)

abbrev port_declaration : Item → Declaration
port_declaration i = declaration (span_of i) (is_output_port i)

abbrev net_declaration : Item → Declaration
net_declaration i = declaration (span_of i) false

pub look-ports : (m : Module) (name : List ℕ) → look name (declared_ports m) ≡ option_map port_declaration (find (declares_port name) m.items)
look-ports m name = look-fold name [] (flat_map port_declarations m.items) ∙ look_items name port_names port_declaration m.items

pub look-nets : (m : Module) (name : List ℕ) → look name (declared_nets m) ≡ option_map net_declaration (find (declares_net name) m.items)
look-nets m name = look-fold name [] (flat_map net_declarations m.items) ∙ look_items name net_names net_declaration m.items

-- The range of a name is that of its first declaration as a port, or else as a net; and it is an output where that port is one.
abbrev span_in : Option Declaration → Option Span
span_in o = option_and_then (λ (d : Declaration). d.span) o

abbrev output_in : Option Declaration → Bool
output_in o = option_map_or (λ (d : Declaration). d.output) o false

port_by : (a b : Option Item) (d : Declaration) → option_map port_declaration a ≡ Some d → d.span ≡ option_and_then span_of (option_or a b)
port_by (Some i) b d h = sym (ap span_in h)
port_by None b d h = cc

net_by : (a b : Option Item) (o : Option Declaration) → option_map port_declaration a ≡ None → option_map net_declaration b ≡ o → span_in o ≡ option_and_then span_of (option_or a b)
net_by (Some i) b o h k = cc
net_by None (Some j) o h k = sym (ap span_in k)
net_by None None o h k = sym (ap span_in k)

pub range-port : (m : Module) (name : List ℕ) (d : Declaration) → look name (declared_ports m) ≡ Some d → d.span ≡ range_of m name
range-port m name d h = port_by (find (declares_port name) m.items) (find (declares_net name) m.items) d (sym (look-ports m name) ∙ h)

pub range-net : (m : Module) (name : List ℕ) (o : Option Declaration) → look name (declared_ports m) ≡ None → look name (declared_nets m) ≡ o → span_in o ≡ range_of m name
range-net m name o h k = net_by (find (declares_port name) m.items) (find (declares_net name) m.items) o (sym (look-ports m name) ∙ h) (sym (look-nets m name) ∙ k)

out_by : (a : Option Item) (o : Option Declaration) → option_map port_declaration a ≡ o → output_in o ≡ option_map_or is_output_port a false
out_by (Some i) o h = sym (ap output_in h)
out_by None o h = sym (ap output_in h)

pub output-port : (m : Module) (name : List ℕ) (o : Option Declaration) → look name (declared_ports m) ≡ o → output_in o ≡ is_output m name
output-port m name o h = out_by (find (declares_port name) m.items) o (sym (look-ports m name) ∙ h)

-- What is seen of the entries of a map by vectors.
abbrev pub seen : List (Vec ℕ Global × Declaration) → List (List ℕ × Declaration)
seen es = map (λ (e : Vec ℕ Global × Declaration). (e.0.items, e.1)) es

pub look-seen : (name : List ℕ) (es : List (Vec ℕ Global × Declaration)) → look name (seen es) ≡ lookup (is_key name) es
look-seen name [] = refl
look-seen name (e ∷ es) = ap (λ (o : Option Declaration). cond (is_key name e.0) (Some e.1) o) (look-seen name es)

new_by : (k : Vec ℕ Global) (d : Declaration) (e : Vec ℕ Global × Declaration) (es : List (Vec ℕ Global × Declaration)) (b : Bool) → cond b (Some e.1) (lookup (key_eq k) es) ≡ None →
    (lookup (key_eq k) es ≡ None → insert_entry key_eq es k d ≡ es ++ (k, d) ∷ []) → (if b then (e.0, d) ∷ es else e ∷ insert_entry key_eq es k d) ≡ e ∷ (es ++ (k, d) ∷ [])
new_by k d e es true h more = cc
new_by k d e es false h more = ap (λ (x : List (Vec ℕ Global × Declaration)). e ∷ x) (more h)

new_entry : (k : Vec ℕ Global) (d : Declaration) (es : List (Vec ℕ Global × Declaration)) → lookup (key_eq k) es ≡ None → insert_entry key_eq es k d ≡ es ++ (k, d) ∷ []
new_entry k d [] h = refl
new_entry k d (e ∷ es) h = new_by k d e es (key_eq k e.0) h (new_entry k d es)

none_of : (o : Option Declaration) → is_some o ≡ false → o ≡ None
none_of None h = refl
none_of (Some d) h = cc

-- the declarations after one is taken in
pub taken_in : (name : List ℕ) (bytes : Vec ℕ Global) (d : Declaration) (es more : List (Vec ℕ Global × Declaration)) (ds : List (List ℕ × Declaration)) → bytes.items ≡ name → is_some (lookup (is_key name) es) ≡ false →
    more ≡ insert_entry key_eq es bytes d → seen es ≡ ds → seen more ≡ with_declaration ds (name, d)
taken_in name bytes d es more ds same absent put view =
    let none : lookup (key_eq bytes) es ≡ None = none_of (lookup (key_eq bytes) es) (ap (λ (n : List ℕ). is_some (lookup (is_key n) es)) same ∙ absent) in
    let last : more ≡ es ++ (bytes, d) ∷ [] = put ∙ new_entry bytes d es none in
    let shown : seen more ≡ ds ++ (name, d) ∷ [] =
    ap seen last ∙ map-append (λ (e : Vec ℕ Global × Declaration). (e.0.items, e.1)) es ((bytes, d) ∷ []) ∙ ap (λ (n : List ℕ). seen es ++ (n, d) ∷ []) same ∙ ap (λ (xs : List (List ℕ × Declaration)). xs ++ (name, d) ∷ []) view in
    let new : is_some (look name ds) ≡ false = ap (λ (xs : List (List ℕ × Declaration)). is_some (look name xs)) (sym view) ∙ ap is_some (look-seen name es) ∙ absent in
    shown ∙ ap (λ b. cond b ds (ds ++ (name, d) ∷ [])) (sym new)
