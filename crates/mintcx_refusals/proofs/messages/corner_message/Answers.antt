use Rattle.std.proofs.Common.{◌++◌, ◌∷◌, [], ◌∙◌}
use Rattle.mintc_text.specs.declared.refusals.Refusal.TheVariants.{Corner}
use Rattle.mintcx_refusals.specs.Messages.{corner_note, head, place_text}
use Rattle.mintcx_refusals.proofs.MessageLaws.{excerpt_is, made_of_five}
use Rattle.mintcx_refusals.proofs.messages.corner_message.Goals as goal

pub returns : goal.returns
returns c =
    let own = c.args.own.now in
    let corner = Corner c.args.corner in
    let what = c.items.result.now in
    let own_what = c.items-2.result.now in
    let name = c.name_of-name.result.now in
    let excerpt = c.in_ok-excerpt.excerpt in
    let width = c.in_ok-margin.margin in
    let label = c.items-3.result.now in
    let advice = c.items-4.result.now in
    record {
      what = what;
      own_what = own_what;
      name = name;
      excerpt = excerpt;
      width = width;
      label = label;
      advice = advice;
      is_name = rw c.teller.ensures at c.name_of-name.ensures;
      is_excerpt = excerpt_is c.args.file.now own c.in_ok-place.place excerpt c.in_ok-place.ensures.some c.in_ok-place.ensures.none c.in_ok-excerpt.ensures;
      is_wide = c.in_ok-margin.ensures;
      whole = c.new.ensures ∙ c.into_bytes.ensures
          ∙ made_of_five (head corner ++ what ++ 10 ∷ []) (head own ++ own_what ++ 10 ∷ []) (place_text width name excerpt label) advice (corner_note corner own)
          c.new-lines.ensures c.in_ok-put_head.ensures c.in_ok-put_head-2.ensures c.in_ok-put_place.ensures c.in_ok-put.ensures.ok c.in_ok-put_corner_note.ensures;
    }
