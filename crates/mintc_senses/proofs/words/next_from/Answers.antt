use Rattle.std.proofs.Common.{◌+◌, sym, arith}
use Rattle.mintc_senses.specs.Seen.{words_from}
use Rattle.mintc_senses.proofs.WordLaws.{word-byte, passed-byte, found-byte}
use Rattle.mintc_senses.proofs.words.next_from.Goals as goal

pub returns-then-is_inside : goal.returns-then-is_inside
returns-then-is_inside c = (
  omega (arith, c.requires.word),
  word-byte c.args.same c.args.word.now c.args.cut c.args.text.now c.args.from c.args.place c.requires.word c.requires.within (sym c.if-is_inside.ensures),
)

pub returns-then-is_wanted : goal.returns-then-is_wanted
returns-then-is_wanted c =
    found-byte c.args.same c.args.word.now c.args.cut c.args.text.now c.args.from c.args.place c.requires.within (sym c.if-is_inside.ensures)
    (c.is_wanted.ensures (words_from c.args.cut c.args.text.now (c.args.place + 1) (c.args.place + 1))) c.if-is_wanted.true

pub returns-else-is_wanted : goal.returns-else-is_wanted
returns-else-is_wanted c = (
  omega arith,
  passed-byte c.args.same c.args.word.now c.args.cut c.args.text.now c.args.from c.args.place c.requires.within (sym c.if-is_inside.ensures)
      (c.is_wanted.ensures (words_from c.args.cut c.args.text.now (c.args.place + 1) (c.args.place + 1))) c.if-is_wanted.false,
)
