use Rattle.std.proofs.Common.{◌+◌, arith, sym, ap, ◌∙◌}
use Rattle.mintcx_places.proofs.FeedLaws.{feeds_same}
use Rattle.mintcx_places.proofs.lines.spot_on.Goals as goal

pub returns : goal.returns
returns c = λ text line below count. record {
  from = c.args.line.now.from;
  begins = line.begins;
  order = c.requires.order;
  free = λ k h g. line.free k h (omega arith);
  line = count ∙ sym (ap (λ n. n + 1) (feeds_same text c.args.line.now.from c.args.at c.requires.order (omega (arith, line.within)) (λ k h g. line.free k h (omega arith))));
  column = omega arith;
}
