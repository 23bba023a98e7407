use Rattle.std.proofs.Common.{◌++◌, ◌∷◌, [], ◌∙◌}
use Rattle.mintcx_refusals.specs.Messages.{head, note, place_text}
use Rattle.mintcx_refusals.proofs.MessageLaws.{excerpt_is, made}
use Rattle.mintcx_refusals.proofs.messages.refusal_message.Goals as goal

pub returns : goal.returns
returns c =
    let refused = c.args.refusal.now in
    let what = c.items.result.now in
    let name = c.name_of-name.result.now in
    let excerpt = c.in_ok-excerpt.excerpt in
    let width = c.in_ok-margin.margin in
    let label = c.items-2.result.now in
    let advice = c.items-3.result.now in
    record {
      what = what;
      name = name;
      excerpt = excerpt;
      width = width;
      label = label;
      advice = advice;
      is_name = c.name_of-name.ensures;
      is_excerpt = excerpt_is c.args.file.now refused c.in_ok-place.place excerpt c.in_ok-place.ensures.some c.in_ok-place.ensures.none c.in_ok-excerpt.ensures;
      is_wide = c.in_ok-margin.ensures;
      whole = c.new.ensures ∙ c.into_bytes.ensures
          ∙ made (head refused ++ what ++ 10 ∷ []) (place_text width name excerpt label) advice (note refused)
          c.new-lines.ensures c.in_ok-put_head.ensures c.in_ok-put_place.ensures c.in_ok-put.ensures.ok c.in_ok-put_note.ensures;
    }
