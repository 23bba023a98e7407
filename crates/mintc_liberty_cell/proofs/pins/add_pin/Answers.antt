use Rattle.std.proofs.Common.{◌++◌, ◌∷◌, [], Some, option_map, is_some, sym, ap, ◌∙◌}
use Rattle.std.proofs.lemmas.List.{map-append}
use Rattle.mintc_liberty_cell.specs.Passing.{value_bytes}
use Rattle.mintc_liberty_cell.specs.Meaning.{pin_with}
use Rattle.mintc_liberty_cell.specs.Seen.{pin_seen, pins_seen}
use Rattle.mintc_liberty_cell.proofs.SeenLaws.{may-come}
use Rattle.mintc_liberty_cell.proofs.pins.add_pin.Goals as goal

pub returns-then-not-may_come : goal.returns-then-not-may_come
returns-then-not-may_come c =
    may-come c.args.pins.now.items c.deref.result.now (pin_with c.args.role (option_map value_bytes c.args.function.now) c.args.name.now) _ c.deref.ensures.value c.requires
    (ap is_some c.in-Some.is) c.if-not-may_come.ensures

pub returns : goal.returns
returns c =
    let pin = pin_with c.args.role (option_map value_bytes c.args.function.now) c.args.name.now in (
      ap pins_seen c.in_ok-push.ensures.items ∙ map-append pin_seen c.args.pins.now.items _
          ∙ ap (λ f. pins_seen c.args.pins.now.items ++ pin_with (Some c.in-Some.role) (option_map value_bytes f) c.args.name.now ∷ []) c.value_of.ensures
          ∙ ap (λ r. pins_seen c.args.pins.now.items ++ pin_with r (option_map value_bytes c.args.function.now) c.args.name.now ∷ []) (sym c.in-Some.is),
      may-come c.args.pins.now.items c.deref.result.now pin _ c.deref.ensures.value c.requires (ap is_some c.in-Some.is) c.if-not-may_come.ensures,
    )
