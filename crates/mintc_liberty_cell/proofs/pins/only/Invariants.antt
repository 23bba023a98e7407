use Rattle.std.proofs.Common.{◌≡◌, ◌++◌, drop, option_map, option_to_list}
use Rattle.mintc_liberty_cell.specs.Meaning.{with_role}
use Rattle.mintc_liberty_cell.specs.Seen.{pin_seen, pins_seen}
use Rattle.mintc_liberty_cell.proofs.pins.only.Given as goal

-- the one that is found, if one is, and those that are left
abbrev pub invariant-loop-pin : goal.invariant-loop-pin
invariant-loop-pin l = with_role l.role (pins_seen l.pins) ≡ option_to_list (option_map (λ p. pin_seen p.now) l.found) ++ with_role l.role (pins_seen (drop l.pin-index l.pins))
