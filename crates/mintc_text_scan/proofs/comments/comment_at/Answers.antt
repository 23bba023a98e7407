use Rattle.std.proofs.Common.{sym}
use Rattle.mintc_text_scan.proofs.EndLaws.{no-end}
use Rattle.mintc_text_scan.proofs.comments.comment_at.Goals as goal

pub returns-then-last-at : goal.returns-then-last-at
returns-then-last-at c = sym (no-end c.args.text.now c.args.last c.args.at c.requires.last c.if-last-at.true)
