use Rattle.std.proofs.Common.{◌++◌, ◌∷◌, [], ◌∙◌}
use Rattle.mintcx_refusals.specs.Messages.{head, short_place}
use Rattle.mintcx_refusals.proofs.MessageLaws.{made_of_two, spot_is}
use Rattle.mintcx_refusals.proofs.messages.short_message.Goals as goal

pub returns : goal.returns
returns c =
    let refused = c.args.refusal.now in
    let what = c.items.result.now in
    let name = c.name_of.result.now in
    let spot = c.spot_at.result in
    record {
      name = name;
      spot = spot;
      what = what;
      is_name = c.name_of.ensures;
      is_spot = spot_is c.args.file.now refused c.in_ok-place.place spot c.in_ok-place.ensures.some c.in_ok-place.ensures.none c.spot_at.ensures;
      whole = c.new.ensures ∙ c.into_bytes.ensures
          ∙ made_of_two (short_place name spot) (head refused ++ what ++ 10 ∷ []) c.new-lines.ensures c.in_ok-put_short_place.ensures c.in_ok-put_head.ensures;
    }
