-- The pins that are left of a list, one by one.
use Rattle.std.proofs.Common.{◌≡◌, ℕ, zero, suc, ◌+◌, ◌<◌, nat_lt, Bool, true, not, cond, ◌&&◌, ◌||◌, List, [], ◌∷◌, ◌++◌, map, length, drop, get_or, Option, is_some, bytes_eq, codes, refl, ap, sym, ◌∙◌, arith, append_assoc}
use Rattle.mintc_toml.specs.Rules.{is_name}
use Rattle.mintc_liberty_cell.specs.declared.pins.Pin.{Pin as PinRead}
use Rattle.mintc_liberty_cell.specs.declared.pins.Role.{Role}
use Rattle.mintc_liberty_tokens.specs.Tokens.{Token, is_item, names_in}
use Rattle.mintc_liberty_tokens.specs.Statements.{taken}
use Rattle.mintc_liberty_cell.specs.Expressions.{is_among}
use Rattle.mintc_liberty_cell.specs.Meaning.{Pin, Group, says, last_value, names, inputs, with_role, is_as, are_pins, role_of, pin_with, pin_of, pins_of}
use Rattle.mintc_liberty_cell.specs.Seen.{pin_seen, pins_seen}
use Rattle.mintc_liberty_cell.proofs.PinLaws.{one-more-with, same-name}
use Rattle.std.proofs.lemmas.Bool.{and_parts}
use Rattle.mintc_liberty_cell.specs.declared.pins.Role.TheVariants as role

pub next-pin : (ps : List PinRead) (i : ℕ) (x : PinRead) → i < length ps → x ≡ get_or ps i x → pins_seen (drop i ps) ≡ pin_seen x ∷ pins_seen (drop (i + 1) ps)
next-pin [] i x h e = absurd (omega (arith, h))
next-pin (p ∷ ps) zero x h e = ap (λ q. pin_seen q ∷ pins_seen ps) (sym e)
next-pin (p ∷ ps) (suc i) x h e =
    let more : suc i + 1 ≡ suc (i + 1) = omega arith in
    next-pin ps i x (omega (arith, h)) e ∙ sym (ap (λ n. pin_seen x ∷ pins_seen (drop n (p ∷ ps))) more)

length-seen : (ps : List PinRead) → length (pins_seen ps) ≡ length ps
length-seen [] = refl
length-seen (p ∷ ps) = ap suc (length-seen ps)

-- whether a pin may come with pins that are read
pub may-come : (ps qs : List PinRead) (p : Pin) (v : Bool) → qs ≡ ps → are_pins (pins_seen ps) ≡ true → is_some p.has ≡ true →
    v ≡ ((nat_lt (length qs) 80 && is_name p.name) && not (is_among (names (pins_seen qs)) p.name)) → are_pins (pins_seen ps ++ p ∷ []) ≡ v
may-come ps qs p v s h r e =
    one-more-with (pins_seen ps) p h r ∙ ap (λ n. (nat_lt n 80 && is_name p.name) && not (is_among (names (pins_seen ps)) p.name)) (length-seen ps)
    ∙ ap (λ xs. (nat_lt (length xs) 80 && is_name p.name) && not (is_among (names (pins_seen xs)) p.name)) (sym s) ∙ sym e

-- the pins of a group
pub group-pins : (g : Group) (r : Option Role) (f : Option (List ℕ)) (is : List Token) → true ≡ (bytes_eq g.name (codes "pin") && not (says (codes "direction") (codes "internal") g.inner)) →
    r ≡ role_of g.inner → f ≡ last_value (codes "function") g.inner → taken is_item is ≡ g.items → pins_of g ≡ map (pin_with r f) (names_in (taken is_item is))
group-pins g r f is h e k t =
    ap (λ v. cond v (map (pin_of g.inner) (names_in g.items)) []) (sym h)
    ∙ ap (λ s. map (pin_with s (last_value (codes "function") g.inner)) (names_in g.items)) (sym e)
    ∙ ap (λ s. map (pin_with r s) (names_in g.items)) (sym k)
    ∙ ap (λ ts. map (pin_with r f) (names_in ts)) (sym t)

pub name-step : (all now : List Pin) (r : Option Role) (f : Option (List ℕ)) (ns : List (List ℕ)) (name : List ℕ) (rest : List (List ℕ)) →
    all ≡ now ++ map (pin_with r f) ns → ns ≡ name ∷ rest → all ≡ (now ++ pin_with r f name ∷ []) ++ map (pin_with r f) rest
name-step all now r f ns name rest s e = s ∙ ap (λ l. now ++ map (pin_with r f) l) e ∙ sym (append_assoc now (pin_with r f name ∷ []) (map (pin_with r f) rest))

-- an input of a name
pub is-input : (p : PinRead) (name : List ℕ) (ps : List Pin) → true ≡ (is_as role.Input p.role && bytes_eq name p.name.now) →
    (is_among (inputs (pin_seen p ∷ ps)) name ≡ true) × (p.name.now ≡ name)
is-input p name ps e =
    let parts = and_parts (is_as role.Input p.role) (bytes_eq name p.name.now) (sym e) in (
      ap (λ b. is_among (names (cond b (pin_seen p ∷ with_role role.Input ps) (with_role role.Input ps))) name) parts.0
          ∙ ap (λ b. b || is_among (inputs ps) name) parts.1,
      sym (same-name name p.name.now parts.1),
    )
