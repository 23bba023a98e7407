use Rattle.std.proofs.Common.{sym, ◌∙◌}
use Rattle.mintc_verilog_expressions.proofs.ReservedLaws.{not_reserved}
use Rattle.mintc_verilog_expressions.proofs.words.is_reserved.Goals as goal

pub returns-then-not-looks_reserved : goal.returns-then-not-looks_reserved
returns-then-not-looks_reserved c = sym (not_reserved c.args.word.now (sym c.looks_reserved.ensures ∙ c.if-not-looks_reserved.true))
