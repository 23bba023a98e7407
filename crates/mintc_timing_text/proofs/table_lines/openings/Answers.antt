use Rattle.std.proofs.Common.{◌≡◌, ℤ, true, int_eq, arith}
use Rattle.std.proofs.lemmas.Bool.Decides.{Decides-int_eq}
use Rattle.mintc_timing_text.proofs.SharedFieldsLaws.{read_back}
use Rattle.mintc_timing_text.proofs.table_lines.openings.Goals as goal

int_same : (a b : ℤ) → a ≡ b → int_eq a b ≡ true
int_same a b e = (Decides-int_eq a b).1 e

pub returns-then-ne : goal.returns-then-ne
returns-then-ne c = grind (arith, read_back, int_same)
