use Rattle.std.proofs.Common.{[], get_or, drop, ◌+◌, sym, ◌∙◌, arith}
use Rattle.mintc_senses_expressions.specs.Symbols.{behind, symbols_after}
use Rattle.mintc_senses_expressions.specs.Seen.{seen}
use Rattle.mintc_senses_expressions.proofs.ReadLaws.{word-byte, other-byte, begun, at-true}
use Rattle.mintc_senses_expressions.proofs.readings.Reading.byte.Goals as goal

pub returns-then-is_word_byte : goal.returns-then-is_word_byte
returns-then-is_word_byte c = (
  omega (arith, c.requires.word),
  word-byte c.args.name.now c.args.text.now c.args.from c.args.place (seen c.args.self.now) c.requires.word c.requires.within (sym c.if-is_word_byte.ensures),
)

pub returns-then-branch : goal.returns-then-branch
returns-then-branch c =
    let n = c.args.name.now in
    let text = c.args.text.now in
    let place = c.args.place in
    let later = symbols_after [] (drop (place + 1) text) in (
      omega arith,
      other-byte n text c.args.from place (seen c.args.self.now) c.requires.within (sym c.if-is_word_byte.ensures)
          ∙ c.word.ensures (behind (get_or text place 0) later)
          ∙ at-true _ _ c.in_ok-behind.field-0 c.in_ok-behind.ensures c.if-branch.true later
          ∙ begun n text (place + 1) (seen c.behind.new.self),
    )
