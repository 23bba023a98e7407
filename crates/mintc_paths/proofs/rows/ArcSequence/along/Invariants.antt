use Rattle.std.proofs.Common.{◌+◌, ◌*◌, length}
use Rattle.mintc_paths.specs.Sums.{AreAlong, AreRows}
use Rattle.mintc_paths.proofs.Along.{AreGiven}
use Rattle.mintc_paths.proofs.rows.ArcSequence.along.Given as goal

-- the arcs so far lead between rows that stay with their bits
abbrev pub invariant-loop-number : goal.invariant-loop-number
invariant-loop-number l = record {
  rows : AreRows (2 * length l.flat.elements + length l.flat.inner) l.rows;
  along : AreAlong l.flat.arcs l.order l.rows.of_bits.items l.number-index l.along.items;
  given : AreGiven l.flat.arcs l.order l.rows.of_bits.items l.given l.number-index;
}
