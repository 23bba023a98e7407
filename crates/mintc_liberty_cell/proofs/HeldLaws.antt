-- The cell of what is held, group by group.
use Rattle.std.proofs.Common.{◌≡◌, ℕ, Bool, true, false, cond, not, ◌&&◌, List, [], ◌∷◌, ◌++◌, Option, Some, None, is_some, option_map, option_to_list, codes, refl, sym, ap, ◌∙◌, arith, append_assoc}
use Rattle.mintc_cells.specs.declared.cell.Cell.{Cell}
use Rattle.mintc_liberty_cell.specs.Expressions.{is_among}
use Rattle.mintc_liberty_cell.specs.Meaning.{Pin, Group, pins_of, pins_in, are_pins, keeping, keepers, by_keepers, kept, is_plain}
use Rattle.mintc_liberty_cell.specs.declared.groups.Group.{Group as GroupRead}
use Rattle.mintc_liberty_cell.specs.Seen.{group_seen}
use Rattle.mintc_liberty_cell.specs.Held.{Held, cell_with}
use Rattle.mintc_liberty_cell.proofs.PinLaws.{fails-with-more}

abbrev pub is_wide : Group → Bool
is_wide g = is_among (codes "bus" ∷ codes "bundle" ∷ []) g.name

abbrev rule : Held → List Group → Bool → List Pin → List Group → Option Cell
rule h gs plain ps ks = cond (plain && are_pins ps) (kept (by_keepers ps (option_to_list h.keeper ++ ks))) None

and-none : (a : Bool) → (a && false) ≡ false
and-none a = grind arith

-- pins of several bits
pub wide : (h : Held) (g : Group) → true ≡ is_wide g → (gs : List Group) → cell_with h (g ∷ gs) ≡ None
wide h g e gs = ap (λ b. rule h gs (not b && is_plain gs) (h.pins ++ pins_in (g ∷ gs)) (keepers (g ∷ gs))) (sym e)

-- pins that may not come with those that are held
pub broken : (h : Held) (g : Group) → are_pins (h.pins ++ pins_of g) ≡ false → (gs : List Group) → cell_with h (g ∷ gs) ≡ None
broken h g e gs =
    let ps = h.pins ++ pins_in (g ∷ gs) in
    let none : are_pins ps ≡ false = ap are_pins (sym (append_assoc h.pins (pins_of g) (pins_in gs))) ∙ fails-with-more (h.pins ++ pins_of g) (pins_in gs) e in
    ap (λ b. cond (is_plain (g ∷ gs) && b) (kept (by_keepers ps (option_to_list h.keeper ++ keepers (g ∷ gs)))) None) none
    ∙ ap (λ b. cond b (kept (by_keepers ps (option_to_list h.keeper ++ keepers (g ∷ gs)))) None) (and-none (is_plain (g ∷ gs)))

either-none : (b : Bool) → cond b (let none : Option Cell = None in none) None ≡ None
either-none b = grind arith

-- whether a group that keeps a state was read
pub some-held : (room : ℕ) (o : Option GroupRead) → true ≡ is_some o → (k : Group) × (option_map (group_seen room) o ≡ Some k)
some-held room None e = absurd (cc)
some-held room (Some g) e = (group_seen room g, refl)

pub none-held : (room : ℕ) (o : Option GroupRead) → false ≡ is_some o → option_map (group_seen room) o ≡ None
none-held room None e = refl
none-held room (Some g) e = absurd (cc)

-- a second group that keeps a state
pub second : (h : Held) (g k : Group) → true ≡ is_among keeping g.name → h.keeper ≡ Some k → (gs : List Group) → cell_with h (g ∷ gs) ≡ None
second h g k e f gs =
    let ps = h.pins ++ pins_in (g ∷ gs) in
    let test = is_plain (g ∷ gs) && are_pins ps in
    ap (λ b. cond test (kept (by_keepers ps (option_to_list h.keeper ++ cond b (g ∷ keepers gs) (keepers gs)))) None) (sym e)
    ∙ ap (λ o. cond test (kept (by_keepers ps (option_to_list o ++ g ∷ keepers gs))) None) f
    ∙ either-none test

-- one group more
next : (h n : Held) (g : Group) → false ≡ is_wide g → n.pins ≡ h.pins ++ pins_of g → (gs : List Group) →
    option_to_list h.keeper ++ keepers (g ∷ gs) ≡ option_to_list n.keeper ++ keepers gs → cell_with h (g ∷ gs) ≡ cell_with n gs
next h n g e p gs k =
    let same : h.pins ++ pins_in (g ∷ gs) ≡ n.pins ++ pins_in gs = sym (append_assoc h.pins (pins_of g) (pins_in gs)) ∙ ap (λ ps. ps ++ pins_in gs) (sym p) in
    ap (λ b. rule h gs (not b && is_plain gs) (h.pins ++ pins_in (g ∷ gs)) (keepers (g ∷ gs))) (sym e)
    ∙ ap (λ ps. rule h gs (is_plain gs) ps (keepers (g ∷ gs))) same
    ∙ ap (λ ks. cond (is_plain gs && are_pins (n.pins ++ pins_in gs)) (kept (by_keepers (n.pins ++ pins_in gs) ks)) None) k

pub next-plain : (h : Held) (g : Group) (ps : List Pin) → false ≡ is_wide g → ps ≡ h.pins ++ pins_of g → false ≡ is_among keeping g.name → (gs : List Group) →
    cell_with h (g ∷ gs) ≡ cell_with record { pins = ps; keeper = h.keeper } gs
next-plain h g ps e p k gs = next h record { pins = ps; keeper = h.keeper } g e p gs (ap (λ b. option_to_list h.keeper ++ cond b (g ∷ keepers gs) (keepers gs)) (sym k))

pub next-kept : (h : Held) (g : Group) (ps : List Pin) → false ≡ is_wide g → ps ≡ h.pins ++ pins_of g → true ≡ is_among keeping g.name → h.keeper ≡ None → (gs : List Group) →
    cell_with h (g ∷ gs) ≡ cell_with record { pins = ps; keeper = Some g } gs
next-kept h g ps e p k n gs =
    next h record { pins = ps; keeper = Some g } g e p gs
    (ap (λ b. option_to_list h.keeper ++ cond b (g ∷ keepers gs) (keepers gs)) (sym k) ∙ ap (λ o. option_to_list o ++ g ∷ keepers gs) n)
