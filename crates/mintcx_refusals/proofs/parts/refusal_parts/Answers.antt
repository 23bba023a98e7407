use Rattle.mintcx_refusals.proofs.MessageLaws.{marked_is}
use Rattle.mintcx_refusals.proofs.parts.refusal_parts.Goals as goal

pub returns : goal.returns
returns c = record {
  name = c.name_of.ensures;
  marked = marked_is c.args.file.now c.args.refusal.now c.in_ok-place.place c.marked_at.result c.in_ok-place.ensures.some c.in_ok-place.ensures.none c.marked_at.ensures;
}
