-- A writer of records in memory.
use Rattle.std.specs.Prelude.{◌≡◌, ◌++◌, ℕ, false, List, Vec}
use Rattle.csv.specs.Writing.{fields_written, has_written, writer_pending, writer_setup, writer_under}
use Rattle.csv.specs.declared.writer.Writer.{Writer}
use Rattle.mintcx_csv.specs.Tables.{by_rfc}

-- what it has written
abbrev pub text_so_far : {Z : Type 0} → Writer (Vec ℕ Z) → List ℕ
text_so_far w = (writer_under w).items ++ writer_pending w

-- It is set up as RFC 4180 has it, and at the beginning of a record.
pub record IsBetween {Z : Type 0} (w : Writer (Vec ℕ Z)) : Type 0 where
  pub setup : writer_setup w ≡ by_rfc
  pub fields : fields_written w ≡ 0
  pub fresh : has_written w ≡ false
