use Rattle.std.proofs.Common.{true, sym}
use Rattle.mintc_sdf.proofs.SharedCarriedLaws.{carried, passed-on}
use Rattle.mintc_sdf_edges.proofs.CarriedLaws.{on-answer}
use Rattle.mintc_sdf.proofs.SharedFoundLaws.{plain-word, plain-def}
use Rattle.mintc_sdf_edges.proofs.WalkLaws.{no-word, word-there, block-entered, plain-entered, plain-lost, plain-shorter}
use Rattle.mintc_sdf_edges.proofs.texts.keyed.Goals as goal

pub returns-in_err-key-clause-entered : goal.returns-in_err-key-clause-entered
returns-in_err-key-clause-entered c = λ rows inner e.
    passed-on c.from_residual.result c.in_err-key.field-0.0 _ _ _ c.from_residual.ensures.1 (λ f. no-word c.args.telling.now inner rows c.args.reader.now e f) c.in_err-key.ensures

pub returns-then-is_block-clause-entered : goal.returns-then-is_block-clause-entered
returns-then-is_block-clause-entered c = λ rows inner e.
    block-entered c.args.telling.now c.in_ok-key.key.now inner rows c.read_word.new.reader (word-there c.in_ok-key.key.now inner rows c.args.reader.now c.read_word.new.reader e c.in_ok-key.ensures) (sym c.if-is_block.ensures)

pub returns-clause-entered : goal.returns-clause-entered
returns-clause-entered c = λ rows inner e.
    let keyed = word-there c.in_ok-key.key.now inner rows c.args.reader.now c.read_word.new.reader e c.in_ok-key.ensures in
    let plain_key = plain-def c.in_ok-key.key.now (plain-word true c.args.reader.now c.read_word.new.reader c.in_ok-key.key.now c.in_ok-key.ensures c.requires.plain) in
    let reads = c.items_are_the_tokens.ensures.read_back in
    carried c.plain.result _ _ _ _
    (λ _ f. plain-entered reads c.args.telling.now c.plain.new.telling c.in_ok-key.key.now inner rows c.read_word.new.reader c.plain.new.reader keyed (sym c.if-is_block.ensures) plain_key.0 plain_key.1 f)
    (λ f. plain-lost reads c.args.telling.now c.in_ok-key.key.now inner rows c.read_word.new.reader keyed (sym c.if-is_block.ensures) plain_key.0 plain_key.1 f)
    c.plain.ensures

pub returns-clause-shorter : goal.returns-clause-shorter
returns-clause-shorter c =
    on-answer c.plain.result _ _ _ (λ _ f. plain-shorter c.args.telling.now c.plain.new.telling c.in_ok-key.key.now c.args.reader.now c.read_word.new.reader c.plain.new.reader c.in_ok-key.ensures f) c.plain.ensures
