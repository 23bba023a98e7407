use Rattle.mintcx_places.proofs.excerpts.excerpt_of.Goals as goal

pub returns : goal.returns
returns c = record {
  end = c.line_around-around.result.end;
  line = record { from = c.line_around-around.result.from; to = c.before_return.result };
  part = c.part_of-part.result;
  is_line = c.line_around-around.ensures.line;
  to = c.before_return.ensures.value;
  above = c.line_around-around.ensures.above;
  below = c.line_around-around.ensures.below;
  is_part = c.part_of-part.ensures;
  spot = c.spot_on.ensures c.args.text.now c.line_around-around.ensures.line c.line_around-around.ensures.below c.line_around-around.ensures.number;
  is_shown = c.in_ok-shown.ensures;
}
