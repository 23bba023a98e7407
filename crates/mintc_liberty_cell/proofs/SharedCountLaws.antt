-- The cells of pins that are names, each once: what is left of their rules is how many pins they have.
use Rattle.std.proofs.Common.{◌≡◌, ℕ, Bool, true, false, cond, not, ◌&&◌, List, [], ◌∷◌, ◌++◌, Option, Some, None, IfSome, option_map, bytes_eq, codes, refl, sym, ap, ◌∙◌, arith}
use Rattle.std.specs.List.{list_all}
use Rattle.std.proofs.lemmas.Bool.{and_parts}
use Rattle.mintc_toml.specs.Rules.{is_name}
use Rattle.mintc_cells.specs.declared.cell.Cell.{Cell}
use Rattle.mintc_cells.specs.declared.cell.Cell.TheVariants.{Clock}
use Rattle.mintc_cells.specs.Pins.{is_distinct, are_names}
use Rattle.mintc_cells.specs.Rules.{pins, has_names, has_limits, has_order, has_defaults, is_cell}
use Rattle.mintc_liberty_cell.specs.declared.pins.Role.TheVariants as role
use Rattle.mintc_liberty_cell.specs.Expressions.{Literal, is_among, inverted_input, literal, expression, peeled, stripped}
use Rattle.mintc_liberty_tokens.specs.Statements.{Statements}
use Rattle.mintc_liberty_cell.specs.Meaning.{Pin, Group, last_value, is_pin, fits, are_pins, names, with_role, inputs, outputs, others, stored, stores, latch_by, flop_by, only, clocked, clock_by, gate_by, or_gate, stateless, keeper_by, by_keepers, keepers, kept, is_plain, pins_in, cell_by}
use Rattle.mintc_liberty_cell.specs.Held.{is_between, has_counts}
use Rattle.mintc_liberty_cell.proofs.PinLaws.{same-name, same-comm, named, named-others, name-among, two-and-others, one-and-others, inputs-and-outputs}

-- The pin of an expression is one of the pins

inverted_input-among : (ps : List (List ℕ)) (e n : List ℕ) → inverted_input ps e ≡ Some n → is_among ps n ≡ true
inverted_input-among ps e n h = grind arith

literal-among : (ps : List (List ℕ)) (e : List ℕ) (l : Literal) → literal ps e ≡ Some l → is_among ps l.0 ≡ true
literal-among ps e l h = grind (arith, inverted_input-among ps e)

expression-among : (ps : List (List ℕ)) (v : Option (List ℕ)) (l : Literal) → expression ps v ≡ Some l → is_among ps l.0 ≡ true
expression-among ps None l h = absurd (cc)
expression-among ps (Some v) l h = literal-among ps (peeled (stripped v)) l h

-- The rules of a cell

abbrev Counted : Cell → Type 0
Counted cell = (is_cell cell ≡ has_counts cell) × (has_defaults cell ≡ true)

and-one : (b : Bool) → (b && true) ≡ b
and-one b = grind arith

pub both : (a b c d : Bool) → a ≡ c → b ≡ d → (a && b) ≡ (c && d)
both a b c d e f = ap (λ v. v && b) e ∙ ap (λ v. c && v) f

counted-by : (cell : Cell) → has_names cell ≡ has_counts cell → is_distinct (pins cell) ≡ true → has_limits cell ≡ true → has_order cell ≡ true → is_cell cell ≡ has_counts cell
counted-by cell n d l o =
    both _ _ _ _ (both _ _ _ _ (both _ _ _ _ n d) l) o ∙ and-one _ ∙ and-one _ ∙ and-one (has_counts cell)

names-between : (least most : ℕ) (ns : List (List ℕ)) → list_all is_name ns ≡ true → are_names least most ns ≡ is_between least most ns
names-between least most ns h = both _ _ _ _ refl h ∙ and-one (is_between least most ns)

all-pins : (ps : List Pin) → are_pins ps ≡ true → list_all is_pin ps ≡ true
all-pins ps h = (and_parts _ _ (and_parts (fits ps) (is_distinct (names ps)) h).0).1

all-distinct : (ps : List Pin) → are_pins ps ≡ true → is_distinct (names ps) ≡ true
all-distinct ps h = (and_parts (fits ps) (is_distinct (names ps)) h).1

gate-counted : (ps : List Pin) → are_pins ps ≡ true → Counted (gate_by ps)
gate-counted ps h =
    let all = all-pins ps h in
    let named-in = names-between 0 64 (inputs ps) (named role.Input ps all) in
    let named-out = names-between 1 16 (outputs ps) (named role.Output ps all) in
    (counted-by (gate_by ps) (both _ _ _ _ named-in named-out) (inputs-and-outputs ps (all-distinct ps h)) refl refl, refl)

-- a pin for the data, another one, and the rest
abbrev Good : List Pin → Literal × List ℕ → Type 0
Good ps s = (is_among (inputs ps) s.0.0 ≡ true) × (is_among (inputs ps) s.1 ≡ true) × (bytes_eq s.1 s.0.0 ≡ false)

stores-good : (ps : List Pin) (control value : List ℕ) (inner : Statements) → IfSome (stores ps control value inner) (Good ps)
stores-good ps control value inner = by (expression (inputs ps) (last_value control inner)) refl (expression (inputs ps) (last_value value inner)) refl
  where
    apart : (c d : Literal) → is_among (inputs ps) c.0 ≡ true → is_among (inputs ps) d.0 ≡ true → (v : Bool) → bytes_eq c.0 d.0 ≡ v → IfSome (cond v None (Some (c, d.0))) (Good ps)
    apart c d e f true g = tt
    apart c d e f false g = (e, f, same-comm d.0 c.0 ∙ g)

    by : (c : Option Literal) → expression (inputs ps) (last_value control inner) ≡ c → (d : Option Literal) → expression (inputs ps) (last_value value inner) ≡ d → IfSome (stored c d) (Good ps)
    by None e d f = tt
    by (Some c) e None f = tt
    by (Some c) e (Some d) f =
        apart c d (expression-among (inputs ps) (last_value control inner) c e) (expression-among (inputs ps) (last_value value inner) d f) (bytes_eq c.0 d.0) refl

named-two : (ps : List Pin) (s : Literal × List ℕ) → are_pins ps ≡ true → Good ps s →
    ((is_name s.1 && is_name s.0.0) && (are_names 1 2 (outputs ps) && are_names 0 64 (others s.1 s.0.0 (inputs ps)))) ≡ (is_between 1 2 (outputs ps) && is_between 0 64 (others s.1 s.0.0 (inputs ps)))
named-two ps s h good =
    let all = all-pins ps h in
    let ins = named role.Input ps all in
    let out = names-between 1 2 (outputs ps) (named role.Output ps all) in
    let rest = names-between 0 64 (others s.1 s.0.0 (inputs ps)) (named-others s.1 s.0.0 (inputs ps) ins) in
    both _ _ _ _ (both _ _ _ _ (name-among (inputs ps) s.1 ins good.1) (name-among (inputs ps) s.0.0 ins good.0)) (both _ _ _ _ out rest)

latch-counted : (ps : List Pin) (s : Literal × List ℕ) → are_pins ps ≡ true → Good ps s → Counted (latch_by ps s)
latch-counted ps s h good =
    (counted-by (latch_by ps s) (named-two ps s h good) (two-and-others ps s.1 s.0.0 (all-distinct ps h) good.1 good.0 good.2) refl refl, refl)

flop-counted : (ps : List Pin) (s : Literal × List ℕ) → are_pins ps ≡ true → Good ps s → Counted (flop_by ps s)
flop-counted ps s h good =
    (counted-by (flop_by ps s) (named-two ps s h good) (two-and-others ps s.1 s.0.0 (all-distinct ps h) good.1 good.0 good.2) refl refl, refl)

only-one : (xs : List Pin) (p : Pin) → only xs ≡ Some p → xs ≡ p ∷ []
only-one xs p h = grind arith

clock-cell : (ps : List Pin) (clock output : Pin) (invert : Bool) → are_pins ps ≡ true → is_among (inputs ps) clock.name ≡ true → outputs ps ≡ output.name ∷ [] →
    Counted (Clock clock.name output.name invert (others clock.name clock.name (inputs ps)))
clock-cell ps clock output invert h among out =
    let all = all-pins ps h in
    let ins = named role.Input ps all in
    let outs : list_all is_name (output.name ∷ []) ≡ true = ap (list_all is_name) (sym out) ∙ named role.Output ps all in
    let rest = names-between 0 64 (others clock.name clock.name (inputs ps)) (named-others clock.name clock.name (inputs ps) ins) in
    let apart : is_distinct ((clock.name ∷ others clock.name clock.name (inputs ps)) ++ (output.name ∷ [])) ≡ true =
    ap (λ ns. is_distinct ((clock.name ∷ others clock.name clock.name (inputs ps)) ++ ns)) (sym out) ∙ one-and-others ps clock.name (all-distinct ps h) among in (
      counted-by (Clock clock.name output.name invert (others clock.name clock.name (inputs ps)))
          (both _ _ _ _ (both _ _ _ _ (name-among (inputs ps) clock.name ins among) (and_parts _ _ outs).0) rest) apart refl refl,
      refl,
    )

clock-counted : (ps : List Pin) → are_pins ps ≡ true → IfSome (clock_by ps (only (with_role role.Clock ps)) (only (with_role role.Output ps))) Counted
clock-counted ps h = by (only (with_role role.Clock ps)) (only (with_role role.Output ps)) refl
  where
    same : (clock output : Pin) (l : Literal) → is_among (inputs ps) l.0 ≡ true → outputs ps ≡ output.name ∷ [] → (v : Bool) → bytes_eq l.0 clock.name ≡ v →
        IfSome (cond v (Some (Clock clock.name output.name (not l.1) (others clock.name clock.name (inputs ps)))) None) Counted
    same clock output l among out true e = clock-cell ps clock output (not l.1) h (ap (is_among (inputs ps)) (sym (same-name l.0 clock.name e)) ∙ among) out
    same clock output l among out false e = tt

    function : (clock output : Pin) → outputs ps ≡ output.name ∷ [] → (o : Option Literal) → expression (inputs ps) output.function ≡ o → IfSome (clocked (inputs ps) clock.name output.name o) Counted
    function clock output out None e = tt
    function clock output out (Some l) e = same clock output l (expression-among (inputs ps) output.function l e) out (bytes_eq l.0 clock.name) refl

    by : (c o : Option Pin) → only (with_role role.Output ps) ≡ o → IfSome (clock_by ps c o) Counted
    by None o e = tt
    by (Some c) None e = tt
    by (Some c) (Some o) e = function c o (ap names (only-one (with_role role.Output ps) o e)) (expression (inputs ps) o.function) refl

stateless-counted : (ps : List Pin) → are_pins ps ≡ true → Counted (stateless ps)
stateless-counted ps h = by (clock_by ps (only (with_role role.Clock ps)) (only (with_role role.Output ps))) (clock-counted ps h)
  where
    by : (o : Option Cell) → IfSome o Counted → Counted (or_gate ps o)
    by None c = gate-counted ps h
    by (Some cell) c = c

mapped : {A : Type 0} (P : A → Type 0) (f : A → Cell) (o : Option A) → ((x : A) → P x → Counted (f x)) → IfSome o P → IfSome (option_map f o) Counted
mapped P f None g h = tt
mapped P f (Some x) g h = g x h

keeper-counted : (ps : List Pin) (g : Group) → are_pins ps ≡ true → IfSome (keeper_by ps g) Counted
keeper-counted ps g h = by (bytes_eq g.name (codes "latch")) (bytes_eq g.name (codes "ff"))
  where
    by : (a b : Bool) →
        IfSome (cond a (option_map (latch_by ps) (stores ps (codes "enable") (codes "data_in") g.inner)) (cond b (option_map (flop_by ps) (stores ps (codes "clocked_on") (codes "next_state") g.inner)) None)) Counted
    by true b = mapped (Good ps) (latch_by ps) _ (λ s good. latch-counted ps s h good) (stores-good ps (codes "enable") (codes "data_in") g.inner)
    by false true = mapped (Good ps) (flop_by ps) _ (λ s good. flop-counted ps s h good) (stores-good ps (codes "clocked_on") (codes "next_state") g.inner)
    by false false = tt

-- whatever cell comes of such pins
abbrev pub CountedIf : Option Cell → Type 0
CountedIf o = IfSome o (λ cell. (is_cell cell ≡ has_counts cell) × (has_defaults cell ≡ true))

pub counted : (ps : List Pin) (gs : List Group) → are_pins ps ≡ true → CountedIf (by_keepers ps gs)
counted ps [] h = stateless-counted ps h
counted ps (g ∷ []) h = keeper-counted ps g h
counted ps (g ∷ k ∷ gs) h = tt

pub the-counts : (o : Option Cell) → CountedIf o → IfSome o (λ cell. is_cell cell ≡ has_counts cell)
the-counts o h = grind arith

-- a cell that isn't passed over keeps its rules
kept-good : (o : Option Cell) (cell : Cell) → CountedIf o → kept o ≡ Some cell → (is_cell cell ≡ true) × (has_defaults cell ≡ true)
kept-good None cell h e = absurd (cc)
kept-good (Some c) cell h e = by (is_cell c) refl e
  where
    by : (v : Bool) → is_cell c ≡ v → cond v (Some c) None ≡ Some cell → (is_cell cell ≡ true) × (has_defaults cell ≡ true)
    by true f g = let same : c ≡ cell = cc in (ap is_cell (sym same) ∙ f, ap has_defaults (sym same) ∙ h.1)
    by false f g = absurd (cc)

pub cell-good : (gs : List Group) (cell : Cell) → cell_by gs ≡ Some cell → (is_cell cell ≡ true) × (has_defaults cell ≡ true)
cell-good gs cell e = by (is_plain gs) (are_pins (pins_in gs)) refl e
  where
    by : (a b : Bool) → are_pins (pins_in gs) ≡ b → cond (a && b) (kept (by_keepers (pins_in gs) (keepers gs))) None ≡ Some cell → (is_cell cell ≡ true) × (has_defaults cell ≡ true)
    by true true f g = kept-good (by_keepers (pins_in gs) (keepers gs)) cell (counted (pins_in gs) (keepers gs) f) g
    by true false f g = absurd (cc)
    by false b f g = absurd (cc)
