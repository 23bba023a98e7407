-- What is kept of the bits that are driven, as their places.
use Rattle.std.specs.Prelude.{◌≡◌, ℕ, ◌+◌, nat_eq, Bool, false, cond, List, [], ◌∷◌, ◌++◌, map}
use Rattle.std.specs.List.{list_any}
use Rattle.std.specs.Option.{option_map_or}
use Rattle.mintc_netlist.specs.declared.module.Item.{Item}
use Rattle.mintc_netlist.specs.declared.module.Module.{Module}
use Rattle.mintc_netlist.specs.Again.{comes_again}
use Rattle.mintc_netlist.specs.Nets.{bits_of, range_of, is_output, place_of}
use Rattle.mintc_netlist.specs.Connections.{Pin, expression_at, places_in}

-- two lists hold the same places
abbrev pub HasSame : List ℕ → List ℕ → Type 0
HasSame xs ys = (place : ℕ) → list_any (nat_eq place) xs ≡ list_any (nat_eq place) ys

-- Places are driven, after those of `old`: whether one is driven again is known, and where none is, those of `new`
-- are driven then.
pub record Drives (old new places : List ℕ) (found : Bool) : Type 0 where
  pub again : found ≡ comes_again nat_eq old places
  pub marked : found ≡ false → HasSame new (old ++ places)

-- the same where it doesn't matter whether one was driven
abbrev pub TakesIn : List ℕ → List ℕ → List ℕ → Type 0
TakesIn old new places = HasSame new (old ++ places)

-- the places that an input port of a module drives
abbrev pub port_drives : Module → List ℕ → List ℕ
port_drives m name = cond (is_output m name) [] (map (place_of m) (bits_of name (range_of m name)))

-- what an item drives at a pin of a number, and at all pins from a number on
abbrev pub pin_drives : Module → Item → ℕ → Pin → List ℕ
pin_drives m i number p = cond p.output (option_map_or (places_in m) (expression_at i number p.name) []) []

-- what an item drives at these pins, the first of which has a number
abbrev pub drives_from : Module → Item → ℕ → List Pin → List ℕ
drives_from m i number [] = []
drives_from m i number (p ∷ ps) = pin_drives m i number p ++ drives_from m i (number + 1) ps
