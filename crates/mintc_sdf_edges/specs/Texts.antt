-- The delays of a text by edge.
use Rattle.std.specs.Prelude.{◌≡◌, ℕ, ◌^◌, List, [], Option, Some, option_map, option_and_then, Ok}
use Rattle.mintc_sdf_tokens.specs.Tokens.{Token, tokens_of}
use Rattle.mintc_sdf_tokens.specs.Items.{items}
use Rattle.mintc_sdf.specs.declared.delays.Delay.{Delay}
use Rattle.mintc_sdf.specs.Texts.{after_head, delays_of}
use Rattle.mintc_sdf_edges.specs.declared.delays.EdgeDelay.{EdgeDelay}
use Rattle.mintc_sdf_edges.specs.Telling.{Progress, after_items}

-- what is known before the first entry: by default the number 1 is a nanosecond
abbrev pub start : List Delay → Progress
start ds = record { scale = 10 ^ 6; left = ds; found = [] }

-- what the tokens behind the head tell of delays
abbrev pub told_behind : List Delay → List Token → Option (List EdgeDelay)
told_behind ds ts = option_map (λ p. p.found) (after_items (start ds) (items ts))

-- what a text tells of its delays
abbrev pub told_in : List ℕ → List Delay → Option (List EdgeDelay)
told_in text ds = option_and_then (told_behind ds) (after_head (tokens_of text))

-- The text has delays, and these are what it tells of them by edge.
abbrev pub AreTold : List ℕ → List EdgeDelay → Type 0
AreTold text es = (ds : List Delay) × (delays_of text ≡ Ok ds) × (told_in text ds ≡ Some es)
